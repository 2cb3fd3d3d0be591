pub mod SlicesText
