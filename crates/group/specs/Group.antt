-- Groups of boxes, "blocks grouped by orchard": several box records in one slice, combined into one box. Definitions only.
use Rattle.std.specs.Prelude.{◌*◌, Bool, ◌&&◌, List, [], ◌∷◌, ltb, leb, length, Float}
use Rattle.number.specs.Limits.{box_length, most_boxes}
use Rattle.number.specs.Every.{every}
use Rattle.number.specs.Answer.{Reply, refuse, write, unless, has}
use Rattle.number.specs.Records.{records_of, is_whole}
use Rattle.verdict.specs.BBox.{numbers, box_of, combined}
use Rattle.verdict.specs.BBoxCalls.{flagged}
use Rattle.verdict.specs.declared.bbox.BBox3d.{BBox3d}

-- ---- its box

-- "combined left to right": the box b, and then the box of each record in turn
unfoldable pub combined_with : BBox3d → List (List Float) → BBox3d
combined_with b [] = b
combined_with b (s ∷ ss) = combined_with (combined b (box_of s)) ss

-- The record of the group's box. "A single box comes back as it is": equal as values, a flag of -0 among them. A group has at least one.
unfoldable pub grouped : List (List Float) → List Float
unfolding combined_with
grouped [] = []
grouped (s ∷ []) = s
grouped (s ∷ t ∷ ts) = numbers (combined_with (box_of s) (t ∷ ts))

-- ---- what the operation answers and leaves: "11 for an empty slice or more than 5,888 numbers, then 1 if its length is not whole boxes, then 2 and 3"

-- "A group is a slice of 1 to 256 box records"
abbrev pub is_group : List Float → Bool
is_group s = ltb 0 (length s) && leb (length s) (most_boxes * box_length)

abbrev pub all_flagged : List (List Float) → Bool
all_flagged ss = every flagged ss

unfoldable pub group_call : List Float → List Float → Reply Float
unfolding grouped
group_call s out =
    unless (is_group s) (refuse 11 out)
    (unless (is_whole box_length s) (refuse 1 out)
    (unless (has box_length out) (refuse 2 out)
    (unless (all_flagged (records_of box_length s)) (refuse 3 out) (write (grouped (records_of box_length s))))))
