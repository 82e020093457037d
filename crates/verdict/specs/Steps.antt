-- What private functions of this crate promise one another. No definition of a verdict cites these files, so that a reader of the verdicts may leave them out.
pub mod Filter
pub mod Passes
