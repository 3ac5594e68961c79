-- The verdict: what it says, and what the program keeps on its way. Why a finite walk settles it stands in proofs/.
pub mod Load
pub mod Bends
pub mod Passes
pub mod Stop
pub mod Walk
pub mod Figure
pub mod Verdict
pub mod Link
pub mod Answer
pub mod Ready
pub mod Share
pub mod Window
pub mod Held
pub mod Steps
pub mod Figured
