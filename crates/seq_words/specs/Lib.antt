pub mod Usages
pub mod Numbers
pub mod Asked
