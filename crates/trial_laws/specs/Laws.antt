-- Lemmas over the definitions, for proofs to cite, of other crates too: nothing here has to be believed.
pub mod Words
pub mod Numbers
pub mod Facets
pub mod Solids
pub mod Layers
pub mod Bands
pub mod Files
pub mod Descriptions
