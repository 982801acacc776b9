pub mod WidenLaws
pub mod Certificate
