-- The slice of a run: where each number stands, parts of it, numbers written into it, and what makes a block sound.
pub mod Layout
pub mod Part
pub mod Over
pub mod Splice
pub mod Sound
