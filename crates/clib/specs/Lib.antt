-- The library's answers as numbers in lent slices.
pub mod Numbers
pub mod Told
pub mod One
