pub mod Sound
pub mod Step
pub mod Line
