-- What the program's slices are compared for, and what a script's line sets.
pub mod Same
pub mod Sets
