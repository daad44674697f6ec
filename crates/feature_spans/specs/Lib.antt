pub mod Causes
pub mod Copies
pub mod Spans
pub mod Walks
