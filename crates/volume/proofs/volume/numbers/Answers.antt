-- `numbers` meets its contract: each plane is its side and each ray its edge. Assumes nothing.
use mathlib.Core.Path.{◌≡◌, ap, ◌∙◌}
use mathlib.Core.Bool.{Bool, true, false}
use mathlib.Core.List.{List, [], ◌∷◌, ◌++◌, flat_map}
use lib.IntN.{pos}
use lib.Ieee.{Float, neg, binary64, of_bits, of_int}
use lib.ListN.{replicate}
use Rattle.number.specs.Slice.{stored_at}
use Rattle.number.specs.Tabulate.{tabulate}
use Rattle.matrix.specs.Constants.{one}
use Rattle.matrix.specs.Matrix.{transpose}
use Rattle.matrix.specs.declared.matrix.Mat4d.{Mat4d}
use Rattle.matrix.specs.declared.vec.Vec4d.{Vec4d}
use Rattle.matrix.proofs.Literals.{one_bits}
use Rattle.verdict.specs.declared.plane.Plane.{Plane}
use Rattle.verdict.specs.declared.ray.Ray.{Ray}
use Rattle.verdict.specs.Plane.{numbers as plane_numbers}
use Rattle.verdict.specs.Ray.{numbers as ray_numbers}
use Rattle.volume.specs.Volume.{side, clip_plane, edge, corner_ray, numbers}
use Rattle.volume.proofs.volume.numbers.Goals as goal

abbrev unit : Float
unit = of_bits binary64 0x3ff0_0000_0000_0000

-- the numbers of six planes and four rays, as the code has their count
abbrev row : (l r b t n f : Plane) (p q u v : Ray) → List Float
row l r b t n f p q u v =
    of_int binary64 (pos 6) ∷ flat_map plane_numbers (l ∷ r ∷ b ∷ t ∷ n ∷ f ∷ []) ++ flat_map ray_numbers (p ∷ q ∷ u ∷ v ∷ [])

-- stored one behind another
assembled : (l r b t n f : Plane) (p q u v : Ray) (planes rays before all : List Float) (x : Float) → x ≡ of_int binary64 (pos 6) → planes ≡ flat_map plane_numbers (l ∷ r ∷ b ∷ t ∷ n ∷ f ∷ []) → rays ≡ flat_map ray_numbers (p ∷ q ∷ u ∷ v ∷ [])
    → before ≡ stored_at planes 1 (replicate 49 x) → all ≡ stored_at rays 25 before → all ≡ row l r b t n f p q u v
unfolding flat_map
assembled l r b t n f p q u v planes rays before all x e g h j k =
    k ∙ (λ s. stored_at (h s) 25 (j s)) ∙ (λ s. stored_at (flat_map ray_numbers (p ∷ q ∷ u ∷ v ∷ [])) 25 (stored_at (g s) 1 (replicate 49 (e s))))

module _ (m i : Mat4d) where
  listed : {l r b t n f : Plane} {p q u v : Ray} → l ≡ clip_plane m 0 → r ≡ clip_plane m 1 → b ≡ clip_plane m 2 → t ≡ clip_plane m 3 → n ≡ clip_plane m 4 → f ≡ clip_plane m 5
      → p ≡ corner_ray i 0 → q ≡ corner_ray i 1 → u ≡ corner_ray i 2 → v ≡ corner_ray i 3 → row l r b t n f p q u v ≡ numbers m i
  unfolding numbers tabulate flat_map of_int
  listed a b c d e f g h j k s = row (a s) (b s) (c s) (d s) (e s) (f s) (g s) (h s) (j s) (k s)

  module _ (columns : Mat4d) (e : columns ≡ transpose m) where
    of_columns : (s : Bool) (row : Mat4d → Vec4d) (x : Plane) → x ≡ side s columns.r3 (row columns) → x ≡ side s (transpose m).r3 (row (transpose m))
    of_columns s row x q = q ∙ ap (λ (c : Mat4d). side s c.r3 (row c)) e

  of_signs : (s t : Float → Float) (x : Ray) → x ≡ edge i (s unit) (t unit) → x ≡ edge i (s one) (t one)
  of_signs s t x q = q ∙ ap (λ (z : Float). edge i (s z) (t z)) one_bits

abbrev same : Float → Float
same x = x

pub returns : goal.returns
unfolding flat_map
returns c =
    let a = c.args in
    let by = of_columns a.matrix a.inverse _ c.transpose-columns.ensures in
    let at = of_signs a.matrix a.inverse in
    assembled c.at_least-left.result c.at_most-right.result c.at_least-bottom.result c.at_most-top.result c.at_least-near.result c.at_most-far.result
    c.edge-left_bottom.result c.edge-left_top.result c.edge-right_top.result c.edge-right_bottom.result _ _ _ _ _ c.from-all.ensures
    (c.as_flattened.ensures.value ∙ (λ s. c.numbers.ensures s ++ (c.numbers-2.ensures s ++ (c.numbers-3.ensures s ++ (c.numbers-4.ensures s ++ (c.numbers-5.ensures s ++ (c.numbers-6.ensures s ++ [])))))))
    (c.as_flattened-2.ensures.value ∙ (λ s. c.numbers-7.ensures s ++ (c.numbers-8.ensures s ++ (c.numbers-9.ensures s ++ (c.numbers-10.ensures s ++ [])))))
    c.store_at.ensures c.store_at-2.ensures
    ∙ listed a.matrix a.inverse (by false (λ m. m.r0) _ c.at_least-left.ensures) (by true (λ m. m.r0) _ c.at_most-right.ensures)
    (by false (λ m. m.r1) _ c.at_least-bottom.ensures) (by true (λ m. m.r1) _ c.at_most-top.ensures) (by false (λ m. m.r2) _ c.at_least-near.ensures)
    (by true (λ m. m.r2) _ c.at_most-far.ensures) (at neg neg _ c.edge-left_bottom.ensures) (at neg same _ c.edge-left_top.ensures) (at same same _ c.edge-right_top.ensures)
    (at same neg _ c.edge-right_bottom.ensures)
