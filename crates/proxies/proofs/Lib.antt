pub mod Growing
pub mod KeptLaws
pub mod LookaheadLaws
