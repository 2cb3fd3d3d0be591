-- Lemmas over the definitions, for proofs to cite, of other crates too: nothing here has to be believed.
pub mod Results
pub mod Reading
pub mod Lines
