pub mod Sound
pub mod StepLaws
pub mod LineLaws
