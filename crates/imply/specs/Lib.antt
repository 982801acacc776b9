pub mod Posed
pub mod Halves
pub mod Required
pub mod RequiredLaws
pub mod Gather
pub mod GatherLaws
pub mod ForceLaws
