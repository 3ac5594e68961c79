-- The packets that leave in a slot, in their order.
pub mod Choice
pub mod Send
pub mod Sent
pub mod SentBlock
