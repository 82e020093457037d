-- Numbers as bytes, one behind the other. Assumes nothing.
use mathlib.Core.Path.{◌≡◌, refl, sym, ap, ap₂, ◌∙◌}
use mathlib.Core.List.{List, [], ◌∷◌, ◌++◌, append_assoc, append-nil, flat_map}
use Prim.Native.Nat.{ℕ, zero, suc, ◌+◌, ◌*◌, ◌/◌, ◌%◌, ◌^◌, ◌<◌}
use native.Mathlib.Numerals.{add-one}
use native.Mathlib.Omega.{arith}
use lib.ListN.{length, length-append, take, get_or}
use lib.Seq.{take-suc}
use lib.Ieee.{Float, nan, binary64, to_bits}
use Rattle.std.specs.Int.{w64, byte_at, bytes_low_first, to_le_bytes}
use Rattle.std.proofs.Math.Nat.{div-one, div-div-eq-div-mul, pow-suc}
use Rattle.view_bytes.specs.CameraView.{bytes_of, number_bytes}

-- ---- the bytes of a whole number

byte_is : (i n m : ℕ) → m ≡ n / 256 ^ i → byte_at i n ≡ m % 256
byte_is zero n m e = ap (λ (x : ℕ). x % 256) (sym (e ∙ div-one n))
byte_is (suc i) n m e = ap (λ (x : ℕ). x % 256) (sym e)

low_first : (k i n m : ℕ) → m ≡ n / 256 ^ i → bytes_low_first i k n ≡ bytes_of k m
unfolding bytes_of
low_first zero i n m e = refl
low_first (suc k) i n m e =
    let next : m / 256 ≡ n / 256 ^ suc i = ap (λ (x : ℕ). x / 256) e ∙ div-div-eq-div-mul n (256 ^ i) 256 ∙ ap (λ (x : ℕ). n / x) (sym (pow-suc 256 i)) in
    ap₂ (λ (x : ℕ) (l : List ℕ). x ∷ l) (byte_is i n m e) (low_first k (suc i) n (m / 256) next)

-- ---- those of numbers

-- the bytes of a number, the low one first
pub are_bytes : (w : ℕ) (x : Float) → w ≡ to_bits binary64 x → to_le_bytes w64 w ≡ number_bytes x
unfolding number_bytes
are_bytes w x e = low_first 8 0 w (to_bits binary64 x) (sym e ∙ sym (div-one w))

pub eight : (x : Float) → length (number_bytes x) ≡ 8
unfolding number_bytes bytes_of
eight x = refl

-- the bytes of numbers
abbrev pub bytes : List Float → List ℕ
bytes s = flat_map number_bytes s

pub as_many : (s : List Float) → length (bytes s) ≡ 8 * length s
unfolding flat_map
as_many [] = refl
as_many (x ∷ s) = length-append (number_bytes x) (bytes s) ∙ omega (arith, eight x, as_many s)

both : (s t : List Float) → bytes (s ++ t) ≡ bytes s ++ bytes t
unfolding flat_map
both [] t = refl
both (x ∷ s) t = ap (λ (l : List ℕ). number_bytes x ++ l) (both s t) ∙ sym (append_assoc (number_bytes x) (bytes s) (bytes t))

one : (x : Float) → bytes (x ∷ []) ≡ number_bytes x
unfolding flat_map
one x = append-nil (number_bytes x)

-- one number more
pub next : (s : List Float) (i : ℕ) → i < length s → bytes (take i s) ++ number_bytes (get_or s i nan) ≡ bytes (take (i + 1) s)
next s i h =
    let x = get_or s i nan in
    sym (ap (λ (k : ℕ). bytes (take k s)) (add-one i) ∙ ap bytes (take-suc s i nan h) ∙ both (take i s) (x ∷ []) ∙ ap (λ (l : List ℕ). bytes (take i s) ++ l) (one x))

pub none : (s : List Float) → [] ≡ bytes (take 0 s)
unfolding flat_map
none s = refl
