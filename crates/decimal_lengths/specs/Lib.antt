pub mod Decimals
pub mod Lengths
pub mod Refusals
pub mod Spelling
pub mod Scanning
pub mod Sizes
pub mod Computed
