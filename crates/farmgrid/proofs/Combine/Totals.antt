-- Lists of box records by what they are placed as: each record stands for an extent, and it is the union of all of them with any further extent that a list stands
-- for. Taking a record out of a list takes its extent out of the union. Assumes nothing.
use mathlib.Core.Path.{◌≡◌, refl, sym, ap, ◌∙◌, subst}
use mathlib.Core.List.{List, [], ◌∷◌}
use lib.Ieee.{Float}
use Rattle.placed.specs.Placement.{WholeBox}
use Rattle.farmgrid.specs.Records.{BoxRecords, none, more}
use Rattle.farmgrid.specs.Combining.{Picked, first, later}
use Rattle.farmgrid.proofs.Combine.Extents.{Extent, join, join_assoc, join_swap, join_cancel, over}
use Rattle.farmgrid.proofs.Combine.CombinedBoxes.{extent_of}
use Rattle.farmgrid.proofs.Combine.PlacedCorners.{listed}
use Rattle.farmgrid.proofs.Combine.CombinedRecords.{Stands, grid_stands}

-- the records of a list stand for those extents, one by one
pub data Stand : List (List Float) → List Extent → Type 0 where
  nothing : Stand [] []
  also : {s : List Float} {e : Extent} {ss : List (List Float)} {es : List Extent} → Stands s e → Stand ss es → Stand (s ∷ ss) (e ∷ es)

-- the records of a list stand for extents whose union with any further extent is as f has it
pub record Total (ss : List (List Float)) (f : Extent → Extent) : Type 0 where
  pub extents : List Extent
  pub stand : Stand ss extents
  pub total : (x : Extent) → over x extents ≡ f x

-- ---- a record taken out of a list

pub record OneTaken (s : List Float) (rest : List (List Float)) (es : List Extent) : Type 0 where
  pub own : Extent
  pub others : List Extent
  pub stands : Stands s own
  pub stand : Stand rest others
  pub total : (x : Extent) → over x es ≡ join own (over x others)

pub taken : {s : List Float} {ss rest : List (List Float)} {es : List Extent} → Picked s ss rest → Stand ss es → OneTaken s rest es
taken first (also {e = e} {es = es} h hs) = record { own = e; others = es; stands = h; stand = hs; total = λ x. refl }
taken (later p) (also {e = e} h hs) =
    let t = taken p hs in
    record {
      own = t.own;
      others = e ∷ t.others;
      stands = t.stands;
      stand = also h t.stand;
      total = λ x. ap (join e) (t.total x) ∙ join_swap e t.own (over x t.others);
    }

-- ---- the start, and the end

pub start : {ss : List (List Float)} {B : WholeBox} {Bs : List WholeBox} → BoxRecords ss (B ∷ Bs) → Total ss (join (listed B Bs))
start {B = B} (more h none) = record {
  extents = extent_of B ∷ [];
  stand = also (grid_stands h) nothing;
  total = λ x. refl;
}
start {B = B} {Bs = C ∷ Cs} (more h (more g gs)) =
    let T = start (more g gs) in
    record {
      extents = extent_of B ∷ T.extents;
      stand = also (grid_stands h) T.stand;
      total = λ x. ap (join (extent_of B)) (T.total x) ∙ sym (join_assoc (extent_of B) (listed C Cs) x);
    }

pub last_stands : {s : List Float} {es : List Extent} (e : Extent) → Stand (s ∷ []) es → ((x : Extent) → over x es ≡ join e x) → Stands s e
last_stands {s} e (also {e = e'} h nothing) t = subst (Stands s) (join_cancel e' e t) h
