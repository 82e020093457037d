-- What the private functions promise one another on the way to a root, a narrowing or a place on the grid. No public contract and no definition of one speaks
-- of it, so that a reader may leave this folder out.
pub mod Magnitude
pub mod Root
