pub mod Reading
pub mod MatrixAsked
pub mod Certificate
