-- What a read brings, which failures may pass, a number's digits, what the texts of the programs are as lists of bytes, what it is to put text behind text, and to write it, and what is shown of an argument.
pub mod Got
pub mod Digits
pub mod Text
pub mod Put
pub mod Written
pub mod Again
pub mod Shown
