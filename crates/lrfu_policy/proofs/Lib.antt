pub mod WeightLemmas
pub mod OrderLemmas
pub mod TreeLemmas
pub mod WalkLemmas
