pub mod Divisors
pub mod Placing
pub mod Heads
pub mod Bodies
pub mod Answering
