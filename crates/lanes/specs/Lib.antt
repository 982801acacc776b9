pub mod Pattern
pub mod Lanes
pub mod LanesLaws
pub mod Marks
pub mod Fill
pub mod Settle
