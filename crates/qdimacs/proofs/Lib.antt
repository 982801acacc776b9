pub mod CheckLaws
pub mod MatrixAsked
pub mod BuildLaws
pub mod ReadLaws
pub mod Certificate
