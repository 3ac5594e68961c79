-- The starred examples of document 01: the table, the claim, and how the prover computes what a row says.
pub mod Table
pub mod Claim
pub mod Run
pub mod Rows
pub mod Walked
pub mod Computed
