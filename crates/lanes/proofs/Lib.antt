pub mod PatternLaws
pub mod LanesLaws
pub mod MarksLaws
pub mod FillLaws
pub mod SettleLaws
