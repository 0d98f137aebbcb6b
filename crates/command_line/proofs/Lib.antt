pub mod ArgFacts
pub mod CommandFacts
pub mod Entries
pub mod Given
pub mod Meaning
pub mod Numbers
