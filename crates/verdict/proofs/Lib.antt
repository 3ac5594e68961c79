-- The laws of the definitions of specs/.
pub mod AnswerLaws
pub mod BendsLaws
pub mod Candidates
pub mod FigureLaws
pub mod FiguredLaws
pub mod HeldLaws
pub mod LinkLaws
pub mod LoadLaws
pub mod OneVerdict
pub mod PassesLaws
pub mod ReadyLaws
pub mod ShareLaws
pub mod StepsLaws
pub mod StopLaws
pub mod WalkLaws
pub mod WindowLaws
