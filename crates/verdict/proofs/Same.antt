-- What is made of equal parts is equal. Assumes nothing.
use Rattle.std.proofs.Common.{◌≡◌}

pub same_three : {A B C D : Type 0} (f : A → B → C → D) {a a' : A} {b b' : B} {c c' : C} → a ≡ a' → b ≡ b' → c ≡ c' → f a b c ≡ f a' b' c'
same_three f p q r = λ i. f (p i) (q i) (r i)
