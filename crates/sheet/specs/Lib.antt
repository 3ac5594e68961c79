-- What sheet bytes mean, and when they are refused. That the two fit each other stands in proofs/.
pub mod Limits
pub mod Refusal
pub mod Sheet
pub mod Bytes
pub mod Reading
pub mod Clears
pub mod Starts
pub mod Makes
pub mod Written
pub mod Told
pub mod Walk
pub mod Tells
pub mod Ready
