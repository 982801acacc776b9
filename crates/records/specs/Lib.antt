pub mod Layout
pub mod Table
pub mod Put
pub mod Both
pub mod Search
pub mod Find
