-- What the bytes of two matrices give: the bytes of the volume that they make, or the line of a refusal. Definitions only.
-- A file is any list of bytes, whole numbers below 256; nothing is assumed of it.
use Rattle.std.specs.Prelude.{ℕ, zero, suc, ◌*◌, ◌/◌, ◌%◌, cond, eqb, replicate, Float}
use mathlib.Core.List.{List, [], ◌∷◌, flat_map}
use Rattle.std.specs.Float.{binary64}
use Rattle.std.specs.Float.Ieee.{to_bits}
use Rattle.number.specs.Limits.{matrix_length, fewest_planes}
use Rattle.number.specs.Answer.{Reply, refuse, unless, has}
use Rattle.number.specs.Bytes.{numbers_at}
use Rattle.matrix.specs.Constants.{positive_zero}
use Rattle.verdict.specs.View.{volume_length}
use Rattle.farm.specs.Text.{refused_line}
use Rattle.volume.specs.Volume.{from_matrices_call}

-- ---- numbers as bytes

-- a whole number as n bytes, the lowest first
unfoldable pub bytes_of : ℕ → ℕ → List ℕ
bytes_of zero w = []
bytes_of (suc n) w = w % 256 ∷ bytes_of n (w / 256)

-- a number of binary64, by its pattern
unfoldable pub number_bytes : Float → List ℕ
unfolding bytes_of
number_bytes x = bytes_of 8 (to_bits binary64 x)

-- ---- what a file gives

-- Of a view and then a projection matrix, 16 numbers of 8 bytes each: what the operation answers and leaves, and 1 for a file of another length.
unfoldable pub volume_sent : List ℕ → List Float → Reply Float
unfolding from_matrices_call numbers_at
volume_sent b out =
    unless (has (2 * 8 * matrix_length) b) (refuse 1 out) (from_matrices_call (numbers_at b 0 matrix_length) (numbers_at b (8 * matrix_length) matrix_length) out)

-- the numbers of a volume, or the line that tells why there is none
unfoldable pub sent_back : Reply Float → List ℕ
unfolding number_bytes flat_map refused_line
sent_back r = cond (eqb r.status 0) (flat_map number_bytes r.out) (refused_line r.status)

unfoldable pub camera_view : List ℕ → List ℕ
unfolding volume_sent sent_back
camera_view b = sent_back (volume_sent b (replicate (volume_length fewest_planes) positive_zero))
