-- The numbers of document 01's refusals, and how a refusal is printed.
pub mod Numbers
pub mod Text
