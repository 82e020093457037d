-- The laws by which the claims are proved, and the claims: a room for each matter.
-- floats that are whole numbers, and rounded fractions of them
pub mod Numbers
-- quarter-turn placements, their products and inverses, and ranges through them
pub mod Placements
-- points and segments, in floats and in whole numbers
pub mod Segments
-- boxes by axis planes
pub mod Boxes
-- what the operations answer on records: verdicts, with a plane more, both engines, surveys
pub mod Records
-- the exact verdict on boxes
pub mod ExactVerdict
-- the nearest range
pub mod NearestRange
-- clip space
pub mod Clip
-- turns
pub mod Turn
-- combining
pub mod Combine
-- grouping, and calls of both kinds mixed
pub mod Group
