-- What a slot takes in of one session: the deadlines, the share, and both tables one slot further.
pub mod Due
pub mod Advance
pub mod Share
pub mod Append
pub mod Intake
pub mod Taken
pub mod Intakes
