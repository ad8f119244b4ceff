pub mod Tables
pub mod Reading
pub mod Gives
pub mod Reads
pub mod Longest
