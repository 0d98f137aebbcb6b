pub mod WordsRead
pub mod LiteralsRead
pub mod ListsRead
pub mod PlacesRead
pub mod TestsRead
pub mod LinesRead
pub mod LineBytes
pub mod PlansRead
