-- The laws of the definitions of specs/.
pub mod Fresh
pub mod OpenLaws
pub mod OpensLaws
