pub mod Tests
pub mod Shapes
pub mod Fragments
pub mod Plan
pub mod Bounds
pub mod Laws
