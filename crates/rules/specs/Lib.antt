-- One slot over the whole history, as document 01 has it (Deadline, Model), and what a sheet that passes promises (Main, Base). That it does, and the laws of a run, stand in proofs/.
pub mod Count
pub mod Pick
pub mod Core
pub mod Deadline
pub mod Steps
pub mod Model
pub mod Curves
pub mod Arrived
pub mod Main
pub mod Base
pub mod Turn
pub mod Ahead
pub mod Tables
