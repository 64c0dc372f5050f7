pub mod Counted
pub mod Stream
pub mod Lines
