pub mod Eights
pub mod Given
pub mod HeldLaws
pub mod InPlace
pub mod InPlaceLaws
pub mod IntDecoder
pub mod Integers
pub mod RampLaws
