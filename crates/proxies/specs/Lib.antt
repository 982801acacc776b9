pub mod Kept
pub mod Told
pub mod Growing
pub mod KeptLaws
pub mod Lookahead
pub mod LookaheadLaws
