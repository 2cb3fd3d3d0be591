pub mod Values
pub mod Outlines
pub mod Keys
pub mod Tables
pub mod Printers
pub mod Laws
