-- What a comparison of slices tells.
pub mod Kept
