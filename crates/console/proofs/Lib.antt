-- What the loop that writes a number keeps, and how calls one after another change what a writer or a reader holds.
pub mod Digits
pub mod Known
