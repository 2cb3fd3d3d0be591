pub mod FirstContacts
pub mod Keeping
pub mod KeptSides
pub mod Laws
pub mod Limits
pub mod Maximal
pub mod SolvedPoints
