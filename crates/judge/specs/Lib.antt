pub mod Cells
pub mod CellLaws
pub mod Judge
pub mod JudgeLaws
