-- The run before slot 1, and what `open` answers.
pub mod Opens
pub mod Open
