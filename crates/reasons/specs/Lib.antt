-- Which session a place of the sheet's bytes belongs to.
pub mod Spot
