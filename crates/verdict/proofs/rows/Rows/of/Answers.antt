-- `Rows::of` meets its contract: of the planes there are those that are counted, or all. Assumes nothing.
use Rattle.std.proofs.Common.{◌≡◌, ℕ, min, Bool, true, false, leb, List, take, sym, refl, ap, ◌∙◌, arith, take_all, leb-false, leb-true}
use lib.Ieee.{Float}
use Rattle.number.specs.Limits.{most_planes}
use Rattle.number.proofs.Tabulate.{as_many as plane_count_lem, first as first_planes}
use Rattle.verdict.specs.Rows.{plane_in_rows, planes_in_rows}
use Rattle.verdict.proofs.rows.Rows.of.Goals as goal

-- as many planes as are counted, of those there are
counted : (l : List Float) (n k : ℕ) → k ≡ min n most_planes → planes_in_rows l k ≡ take n (planes_in_rows l most_planes)
counted l n k e = go (leb n most_planes) refl
  where
    go : (z : Bool) → leb n most_planes ≡ z → planes_in_rows l k ≡ take n (planes_in_rows l most_planes)
    go true h =
        let few = leb-true n most_planes h in
        let same : k ≡ n = omega (arith, e, few) in
        ap (planes_in_rows l) same ∙ sym (first_planes (plane_in_rows l) most_planes n few)
    go false h =
        let many = leb-false n most_planes h in
        let same : k ≡ most_planes = omega (arith, e, many) in
        ap (planes_in_rows l) same ∙ sym (take_all n (planes_in_rows l most_planes) (omega (arith, many, plane_count_lem (plane_in_rows l) most_planes)))

pub returns : goal.returns
returns c = counted c.args.numbers c.args.count _ (omega (arith, c.min.ensures))
