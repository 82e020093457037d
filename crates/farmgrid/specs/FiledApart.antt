-- Where the filed verdict on a box, that of `intersects_bbox`, which the rate goes by, and the exact one part: three worked inputs. Definitions and statements only.
-- A view is told by its whole numbers, and its record has the same numbers as floats, with four rays of zeros behind them.
use Rattle.std.specs.Prelude.{◌≡◌, true, false, List, [], ◌∷◌, ◌++◌, map, suc, ℤ, pos, negsuc, Float}
use Rattle.number.specs.Answer.{outcome}
use Rattle.whole.specs.SegmentCall.{planes_of}
use Rattle.exact.specs.ExactPoint.{BoxInView}
use Rattle.exact.specs.BBoxCall.{low_corner, high_corner}
use Rattle.verdict.specs.Marked.{plus, minus, three, four, zero_ray, box_record, identity_rows}
use Rattle.verdict.specs.FrustumCalls.{intersects_box_call}

abbrev pub float : ℤ → Float
float (pos n) = plus n
float (negsuc n) = minus (suc n)

abbrev pub volume_of : List ℤ → List Float
volume_of view = map float view ++ zero_ray ++ zero_ray ++ zero_ray ++ zero_ray

-- ---- a yes where nothing is seen

-- planes 1,−1,0;0, 1,1,0;0, 0,0,1;0, 0,0,−1;−1, 1,0,0;1, −1,0,0;−2 (normal; distance): at most as high as it is wide, and at most 2 wide
abbrev pub wedge : List ℤ
wedge =
    pos 6 ∷ pos 1 ∷ negsuc 0 ∷ pos 0 ∷ pos 0
    ∷ pos 1 ∷ pos 1 ∷ pos 0 ∷ pos 0
    ∷ pos 0 ∷ pos 0 ∷ pos 1 ∷ pos 0
    ∷ pos 0 ∷ pos 0 ∷ negsuc 0 ∷ negsuc 0
    ∷ pos 1 ∷ pos 0 ∷ pos 0 ∷ pos 1
    ∷ negsuc 0 ∷ pos 0 ∷ pos 0 ∷ negsuc 1 ∷ []

-- 2,3,0 to 3,4,1
abbrev pub beside : List ℤ
beside = pos 2 ∷ pos 3 ∷ pos 0 ∷ pos 3 ∷ pos 4 ∷ pos 1 ∷ []

-- ---- a no where it touches, and two answers for one block

-- x + y + z at most 3 (−1,−1,−1;−3), x, y and z at least 0, x and y at most 10
abbrev pub corner_cut : List ℤ
corner_cut =
    pos 6 ∷ negsuc 0 ∷ negsuc 0 ∷ negsuc 0 ∷ negsuc 2
    ∷ pos 1 ∷ pos 0 ∷ pos 0 ∷ pos 0
    ∷ pos 0 ∷ pos 1 ∷ pos 0 ∷ pos 0
    ∷ pos 0 ∷ pos 0 ∷ pos 1 ∷ pos 0
    ∷ negsuc 0 ∷ pos 0 ∷ pos 0 ∷ negsuc 9
    ∷ pos 0 ∷ negsuc 0 ∷ pos 0 ∷ negsuc 9 ∷ []

-- 0,0,3 to 1,1,4, which touches at 0,0,3
abbrev pub touching : List ℤ
touching = pos 0 ∷ pos 0 ∷ pos 3 ∷ pos 1 ∷ pos 1 ∷ pos 4 ∷ []

pub record FiledApart : Type 0 where
  -- the block reaches each plane by another corner, and no point of it is in view
  pub yes : intersects_box_call (volume_of wedge) (box_record (three (plus 2) (plus 3) (plus 0)) (three (plus 3) (plus 4) (plus 1)) identity_rows) ≡ outcome true
  pub unseen : ¬ BoxInView (planes_of wedge 6) (low_corner beside) (high_corner beside)
  -- the normal is made unit length, so that it rounds
  pub no_yes : intersects_box_call (volume_of corner_cut) (box_record (three (plus 0) (plus 0) (plus 3)) (three (plus 1) (plus 1) (plus 4)) identity_rows) ≡ outcome false
  pub seen : BoxInView (planes_of corner_cut 6) (low_corner touching) (high_corner touching)
  -- the same placed block, by the range 0,0,0 to 1,1,1 moved by 0,0,3
  pub other : intersects_box_call (volume_of corner_cut) (box_record (three (plus 0) (plus 0) (plus 0)) (three (plus 1) (plus 1) (plus 1)) (
      four (plus 1) (plus 0) (plus 0) (plus 0)
      ++ four (plus 0) (plus 1) (plus 0) (plus 0)
      ++ four (plus 0) (plus 0) (plus 1) (plus 0)
      ++ four (plus 0) (plus 0) (plus 3) (plus 1))) ≡ outcome true
