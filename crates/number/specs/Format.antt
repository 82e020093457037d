-- convertFormat of IEEE 754, clause 5.4.2, between binary64 and binary32, rounded to nearest, ties to even. Definitions only.
-- One type of values serves both formats, so a number that is widened stays the same, and a NaN stays some NaN.
-- Patterns are read and written by the kit's `of_bits` and `to_bits`. Every pattern of a NaN gives some NaN; the pattern that is written for a NaN is not free,
-- its sign clear and of its fraction the highest digit set alone.
use Rattle.std.specs.Prelude.{◌*◌, Float}
use Rattle.std.specs.Float.{nan, inf, fin, binary32}
use Rattle.std.specs.Float.Ieee.{round, up, down}

unfoldable pub narrow_of : Float → Float
unfolding round
narrow_of nan = nan
narrow_of (inf s) = inf s
narrow_of (fin s m e) = round binary32 s (m * up e) (down e)

abbrev pub widen_of : Float → Float
widen_of x = x
