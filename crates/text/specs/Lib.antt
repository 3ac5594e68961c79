-- What the functions that read a line ask of each other, the numbers in a line, how a text's lines are run, and what is printed.
pub mod Lines
pub mod Numbers
pub mod Printed
pub mod Runs
