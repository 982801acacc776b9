pub mod HexLaws
pub mod LineLaws
pub mod ReadingLaws
pub mod LineStores
pub mod AnswerLaws
pub mod RoundTrip
pub mod Exactly
pub mod Prefix
