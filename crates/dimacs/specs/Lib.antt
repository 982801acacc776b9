pub mod Token
pub mod FieldLaws
pub mod Page
pub mod Shape
pub mod ShapeLaws
pub mod Row
pub mod RowSteps
