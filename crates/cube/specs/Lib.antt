pub mod Cube
