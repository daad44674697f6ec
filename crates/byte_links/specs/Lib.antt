pub mod Accept
pub mod Exchange
pub mod Link
pub mod Memory
