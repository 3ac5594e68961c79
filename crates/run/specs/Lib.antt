-- What a slot does to the run, the outcomes and the tally.
pub mod Totals
pub mod Summed
pub mod Brought
pub mod Why
pub mod Decided
pub mod Slot
pub mod ByRules
pub mod Exact
pub mod Answered
