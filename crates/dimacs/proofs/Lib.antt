pub mod TokenLaws
pub mod FieldLaws
pub mod ShapeSteps
pub mod ShapeLaws
pub mod RowSteps
pub mod RowLaws
pub mod OneQuestion
pub mod Example
