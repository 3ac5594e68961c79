-- What the loop keeps that puts the lines of a slot's packets.
pub mod Notes
