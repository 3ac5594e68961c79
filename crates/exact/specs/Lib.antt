-- One slot of the machine is one slot of the rules: intake, deadlines and sending.
pub mod Share
pub mod Intake
pub mod Written
pub mod Queue
pub mod Sending
pub mod Waiting
pub mod Slot
pub mod Opened
