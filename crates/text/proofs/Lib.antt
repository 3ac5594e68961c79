-- How a text is cut, the numbers in a line, how lines are run, and how what is printed goes on.
pub mod Cuts
pub mod Numbers
pub mod Printed
pub mod Runs
