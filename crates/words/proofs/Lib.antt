pub mod Logic
pub mod Bits
pub mod Mask
pub mod Bytes
pub mod Stores
