-- The laws of the definitions of specs/.
pub mod ClearsLaws
pub mod Exact
pub mod Known
pub mod MakesLaws
pub mod OneAnswer
pub mod ReadsBack
pub mod ReadyLaws
pub mod RefusalLaws
pub mod StartsLaws
pub mod TellsLaws
pub mod ToldLaws
pub mod Values
pub mod WalkLaws
pub mod WrittenLaws
