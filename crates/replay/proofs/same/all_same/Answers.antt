-- `replay::same::all_same` meets its contract: of equally many numbers each pair decides. Assumes nothing.
use Rattle.std.proofs.Common.{◌≡◌, Bool, List, [], ◌∷◌, ◌&&◌, length, zip, refl, ap, sym, ◌∙◌, arith, rules}
use Rattle.std.specs.List.{list_all}
use Rattle.std.proofs.lemmas.Iterator.{YieldsList-from_slice, YieldsList-from_zip}
use Rattle.std.proofs.lemmas.Iterator.Search.{all_from_yields_List}
use borrow.Author.Tests.{tests}
use lib.Ieee.{Float}
use Rattle.replay.specs.Same.{same, all_same}
use Rattle.replay.proofs.same.all_same.Goals as goal

pairs : (s : Bool) (a b : List Float) → length a ≡ length b → list_all (λ p. same s p.0 p.1) (zip a b) ≡ all_same s a b
pairs s [] [] e = refl
pairs s [] (y ∷ b) e = absurd (omega (arith, e))
pairs s (x ∷ a) [] e = absurd (omega (arith, e))
pairs s (x ∷ a) (y ∷ b) e = ap (λ (t : Bool). same s x y && t) (pairs s a b (omega (arith, e)))

pub returns : goal.returns
returns c =
    all_from_yields_List (λ p. same c.args.signed p.0 p.1) c.all.new.self _ _ c.all.ensures.ran
    (YieldsList-from_zip (YieldsList-from_slice c.args.a.now cc) (YieldsList-from_slice c.args.b.now cc)) (λ x b q k. search (rules, tests))
    ∙ pairs c.args.signed c.args.a.now c.args.b.now (c.told-a ∙ sym c.told-b)
