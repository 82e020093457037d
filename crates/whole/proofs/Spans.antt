-- Small fractions stay small enough to multiply. Assumes nothing.
use native.Mathlib.Nat.{mul-le-mul, lt_of_le_of_lt}
use lib.Dec.{lit<}
use Rattle.whole.specs.Steps.{CrossProducts}

-- what is multiplied of two small fractions is below 2 ^ 51
pub cross_products : CrossProducts
cross_products f g h k = lt_of_le_of_lt (mul-le-mul h.top k.bottom) (lit< tt)
