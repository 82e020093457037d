-- Each limit and the length of each record, under one name. Definitions only.
use Rattle.std.specs.Prelude.{ℕ}

-- ---- how many numbers a record has

-- "Point 3 numbers; homogeneous point 4; range 6 (min, max); matrix 16; plane 4 (normal, distance); ray 6 (start, direction)"
abbrev pub point_length : ℕ
point_length = 3

abbrev pub homogeneous_length : ℕ
homogeneous_length = 4

abbrev pub range_length : ℕ
range_length = 6

abbrev pub matrix_length : ℕ
matrix_length = 16

abbrev pub plane_length : ℕ
plane_length = 4

abbrev pub ray_length : ℕ
ray_length = 6

-- "hit 5 (distance, gamma, alpha, beta, front 1 or 0)"; "A plane hit writes distance and front flag."
abbrev pub hit_length : ℕ
hit_length = 5

abbrev pub plane_hit_length : ℕ
plane_hit_length = 2

-- "Projection 7"
abbrev pub projection_length : ℕ
projection_length = 7

-- "Box 23: range, matrix, zero-area flag 0 or 1": the flag is the last
abbrev pub box_length : ℕ
box_length = 23

abbrev pub flag_place : ℕ
flag_place = 22

-- "Corners write 24 numbers."
abbrev pub corners_length : ℕ
corners_length = 24

-- a camera: "The result has 24 numbers"
abbrev pub camera_length : ℕ
camera_length = 24

-- ---- the farm grid

-- "whole coordinates of size at most 65,536"
abbrev pub grid_limit : ℕ
grid_limit = 65536

-- "whole normal entries of size at most 128"
abbrev pub normal_limit : ℕ
normal_limit = 128

-- "whole distances of size at most 16,777,216"
abbrev pub distance_limit : ℕ
distance_limit = 16_777_216

-- ---- how many there may be

-- the planes of a view: "the original six", and "Make 14 the upper limit"
abbrev pub fewest_planes : ℕ
fewest_planes = 6

abbrev pub most_planes : ℕ
most_planes = 14

-- the boxes of a group: "1 to 256 box records"
abbrev pub most_boxes : ℕ
most_boxes = 256

-- the bytes of a farm file, "65,536", and its sections, "2 to 64"
abbrev pub largest_file : ℕ
largest_file = 65536

abbrev pub fewest_sections : ℕ
fewest_sections = 2

abbrev pub most_sections : ℕ
most_sections = 64
