-- Numbers that lie as bytes, the highest byte first.
pub mod Words
pub mod Written
