pub mod Answering
pub mod Keeping
pub mod Walking
pub mod Warming
