-- What every number of a run's slice is, after any history.
pub mod Image
pub mod After
pub mod Block
pub mod Run
pub mod Opened
pub mod Tables
