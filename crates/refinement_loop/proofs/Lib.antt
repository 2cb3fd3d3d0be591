pub mod Printing
pub mod Searching
pub mod Steps
pub mod Answering
pub mod Visits
