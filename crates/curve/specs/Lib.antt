-- The vocabulary of curves: what they are, and the delay look-up back. Their laws stand in proofs/.
pub mod Order
pub mod Least
pub mod Total
pub mod Curve
pub mod Rises
pub mod Conv
pub mod Delay
pub mod Lookup
pub mod Drawn
