pub mod Agendas
pub mod Kept
