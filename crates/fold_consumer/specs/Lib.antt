pub mod Pieces
pub mod Folding
pub mod FoldingLaws
pub mod Laws
