-- What each operation on boxes over lent slices answers and leaves, by the numbers of the refusals: "1, 2, then 3". Definitions only.
use Rattle.std.specs.Prelude.{Bool, ◌&&◌, List, Float}
use Rattle.number.specs.Limits.{point_length, range_length, matrix_length, box_length, flag_place}
use Rattle.number.specs.Answer.{Reply, refuse, write, Outcome, refused, outcome, unless, has, leaving}
use Rattle.number.specs.Slice.{at}
use Rattle.matrix.specs.Vec.{coordinates}
use Rattle.matrix.specs.Matrix.{matrix_of}
use Rattle.matrix.specs.Range.{bounds}
use Rattle.verdict.specs.BBox.{numbers, box_of, is_flag, aligned_range, centroid, volume, transformed_box, combined}

-- the flag of a box record
abbrev pub flagged : List Float → Bool
flagged b = is_flag (at b flag_place)

unfoldable pub combine_call : List Float → List Float → List Float → Reply Float
combine_call a b out =
    leaving (has box_length a && has box_length b) box_length (unless (flagged a && flagged b) (refuse 3 out) (write (numbers (combined (box_of a) (box_of b))))) out

unfoldable pub transform_box_call : List Float → List Float → List Float → Reply Float
transform_box_call b m out =
    leaving (has box_length b && has matrix_length m) box_length (unless (flagged b) (refuse 3 out) (write (numbers (transformed_box (box_of b) (matrix_of m))))) out

unfoldable pub volume_call : List Float → Outcome Float
volume_call b = unless (has box_length b) (refused 1) (unless (flagged b) (refused 3) (outcome (volume (box_of b))))

unfoldable pub aligned_range_call : List Float → List Float → Reply Float
aligned_range_call b out = leaving (has box_length b) range_length (unless (flagged b) (refuse 3 out) (write (bounds (aligned_range (box_of b))))) out

unfoldable pub centroid_call : List Float → List Float → Reply Float
centroid_call b out = leaving (has box_length b) point_length (unless (flagged b) (refuse 3 out) (write (coordinates (centroid (box_of b))))) out
