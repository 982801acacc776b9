pub mod Logic
pub mod Word
pub mod Mask
pub mod Bytes
