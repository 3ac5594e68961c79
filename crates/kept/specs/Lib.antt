-- Demand 3, from bytes to packets.
pub mod Calls
pub mod Promise
pub mod Lent
pub mod Runs
pub mod Numbers
pub mod Wrote
pub mod Noted
pub mod Theorem
pub mod NeverRefused
pub mod Tally
