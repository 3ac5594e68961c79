-- The test of refusal 14.
pub mod Tells
pub mod Opened
pub mod Test
