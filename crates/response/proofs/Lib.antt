pub mod PrintedLaws
pub mod Lines
