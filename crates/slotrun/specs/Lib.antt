-- What the print-out is, what the functions that print it say, what the turns of the loop hand on, and what it is to move bytes to a block's front.
pub mod Text
pub mod Shows
pub mod Laws
pub mod Turns
pub mod Moved
