-- The laws of the definitions of specs/.
pub mod Bounds
pub mod ConvLaws
pub mod CurveLaws
pub mod DelayLaws
pub mod LeastLaws
pub mod LookupLaws
pub mod OrderLaws
pub mod RisesLaws
pub mod TotalLaws
