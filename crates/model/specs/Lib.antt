pub mod Model
pub mod Entries
pub mod Line
pub mod Script
pub mod Desks
pub mod Agree
pub mod Read
pub mod Causes
