-- The numbers of sections loaded into a room, one section behind the other: those taken and those left make all. Assumes nothing.
use mathlib.Core.Path.{◌≡◌, sym, ap, ◌∙◌}
use mathlib.Core.Bool.{true}
use mathlib.Core.List.{List, [], ◌++◌, append_assoc, append-nil}
use Prim.Native.Nat.{ℕ, ◌+◌, ◌-◌, ◌/◌, ◌<◌, ◌≤◌}
use native.Mathlib.Omega.{arith}
use lib.ListN.{length, length-append, length-drop, take, drop, drop_of_length-le, take-append-drop}
use lib.Seq.{length-take-le, take_all, take_at, drop_at}
use lib.Ieee.{Float}
use Rattle.number.specs.Bytes.{numbers_at, loaded}
use Rattle.number.proofs.Words.{as_many, all_there}
use Rattle.farm.specs.declared.directory.Section.{Section}
use Rattle.farm.specs.Directory.{section_count, section_at, sections_from, numbers_of, numbers_of_all, file_numbers, InFront, well_formed}
use Rattle.farm.proofs.SectionsLeft.{left, behind, next, none_left, all_left}
use Rattle.farm.proofs.Placed.{section_inside}

-- ---- one section, where there is room for it

pub section_loaded : (b : List ℕ) → well_formed b ≡ true → (i : ℕ) → i < section_count b → (s : Section) → s ≡ section_at b i
    → (room : List Float) → s.size / 8 ≤ length room → (ys : List Float) → ys ≡ loaded b s.offset (take (s.size / 8) room)
    → ys ++ drop (s.size / 8) room ≡ numbers_of b (section_at b i) ++ drop ((section_at b i).size / 8) room
section_loaded b w i h s q room f ys e =
    let m = length-take-le (s.size / 8) room f in
    let there = all_there b s.offset (take (s.size / 8) room) (omega (arith, m, section_inside b w i h s q)) ∙ ap (numbers_at b s.offset) m in
    ap (λ (l : List Float). l ++ drop (s.size / 8) room) (e ∙ there) ∙ ap (λ (t : Section). numbers_of b t ++ drop (t.size / 8) room) q

-- ---- all, in a directory of n

module _ (b : List ℕ) (n : ℕ) where
  -- with the numbers of the sections left behind those taken
  abbrev pub all_numbers_lem : List Float → ℕ → ℕ → List Float
  all_numbers_lem room taken i = take taken room ++ numbers_of_all b (left b n i)

  pub none_taken : (room : List Float) → n ≡ section_count b → all_numbers_lem room 0 0 ≡ file_numbers b
  none_taken room q = ap (numbers_of_all b) (all_left b n) ∙ ap (λ (k : ℕ). numbers_of_all b (sections_from b 0 k)) q

  pub all_taken : (room : List Float) (taken i : ℕ) → n ≤ i → take taken room ≡ all_numbers_lem room taken i
  unfolding numbers_of_all
  all_taken room taken i h = sym (ap (λ (ss : List Section). take taken room ++ numbers_of_all b ss) (none_left b n i h) ∙ append-nil (take taken room))

  -- one section more, into what is left of a room that has space for all
  module _ (all room room₀ : List Float) (enough : length all ≤ length room₀) (taken i : ℕ) (o : length room ≡ length room₀) (t : taken ≤ length room)
      (e : all_numbers_lem room taken i ≡ all) (h : i < n) where
    abbrev size : ℕ
    size = (section_at b i).size / 8

    abbrev rest : List Float
    rest = take (length room - taken) (drop taken room)

    whole : rest ≡ drop taken room
    whole = take_all (length room - taken) (drop taken room) (omega (arith, length-drop taken room))

    as_before : take taken room ++ (numbers_of b (section_at b i) ++ numbers_of_all b (behind b n i)) ≡ all
    unfolding numbers_of_all
    as_before = sym (ap (λ (ss : List Section). take taken room ++ numbers_of_all b ss) (next b n i h)) ∙ e

    numbers_many : length (numbers_of b (section_at b i)) ≡ size
    numbers_many = as_many b _ _

    pub fits : size ≤ length rest
    fits =
        let x = numbers_of_all b (behind b n i) in
        let y = numbers_of b (section_at b i) in
        omega (arith, ap length as_before, length-append (take taken room) (y ++ x), length-append y x, numbers_many, length-take-le taken room t, length-drop taken room, ap length whole, enough, o)

    module _ (k : ℕ) (ys : List Float) (p : k ≡ size) (l : ys ≡ numbers_of b (section_at b i) ++ drop size rest) where
      abbrev now : List Float
      now = take taken room ++ (ys ++ drop (length room - taken) (drop taken room))

      is : now ≡ (take taken room ++ numbers_of b (section_at b i)) ++ drop size rest
      is =
          let none : drop (length room - taken) (drop taken room) ≡ [] = drop_of_length-le (drop taken room) {i = length room - taken} (omega (arith, length-drop taken room)) in
          ap (λ (x : List Float). take taken room ++ (ys ++ x)) none ∙ ap (λ (x : List Float). take taken room ++ x) (append-nil ys ∙ l)
          ∙ sym (append_assoc (take taken room) (numbers_of b (section_at b i)) (drop size rest))

      front_many : length (take taken room ++ numbers_of b (section_at b i)) ≡ taken + k
      front_many = length-append (take taken room) (numbers_of b (section_at b i)) ∙ omega (arith, length-take-le taken room t, numbers_many, p)

      as_long : length now ≡ length room
      as_long =
          ap length is ∙ length-append (take taken room ++ numbers_of b (section_at b i)) (drop size rest)
          ∙ omega (arith, front_many, p, length-drop size rest, ap length whole, length-drop taken room, fits, t)

      pub one_taken : (length now ≡ length room₀) × (taken + k ≤ length now) × (all_numbers_lem now (taken + k) (i + 1) ≡ all)
      one_taken = (
        as_long ∙ o,
        omega (arith, as_long, p, fits, ap length whole, length-drop taken room),
        ap (λ (x : List Float). x ++ numbers_of_all b (behind b n i)) (ap (take (taken + k)) is ∙ take_at (take taken room ++ numbers_of b (section_at b i)) (drop size rest) (taken + k) front_many)
            ∙ append_assoc (take taken room) (numbers_of b (section_at b i)) (numbers_of_all b (behind b n i)) ∙ as_before,
      )

-- ---- numbers in front of a room, by their parts

module _ (v s room : List Float) (f : InFront (v ++ s) room) where
  parted : room ≡ v ++ (s ++ drop (length (v ++ s)) room)
  parted =
      let n = length (v ++ s) in
      sym (take-append-drop n room) ∙ ap (λ (l : List Float). l ++ drop n room) f ∙ append_assoc v s (drop n room)

  pub first_part : (n : ℕ) → n ≡ length v → take n room ≡ v
  first_part n e = ap (take n) parted ∙ take_at v (s ++ drop (length (v ++ s)) room) n (sym e)

  pub second_part : (n m : ℕ) → n ≡ length v → m ≡ length s → take m (drop n room) ≡ s
  second_part n m e g =
      ap (λ (l : List Float). take m (drop n l)) parted ∙ ap (take m) (drop_at v (s ++ drop (length (v ++ s)) room) n (sym e))
      ∙ take_at s (drop (length (v ++ s)) room) m (sym g)

  pub parts_fit : length v + length s ≤ length room
  parts_fit = omega (arith, ap length parted, length-append v (s ++ drop (length (v ++ s)) room), length-append s (drop (length (v ++ s)) room))
