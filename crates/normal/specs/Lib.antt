pub mod Normal
pub mod Lists
pub mod PlaceLaws
pub mod FormulaLaws
pub mod Few
pub mod Certificate
pub mod Visit
pub mod VisitLaws
