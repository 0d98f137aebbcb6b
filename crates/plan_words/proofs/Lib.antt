pub mod PieceSteps
pub mod ReturnSteps
pub mod TextSteps
pub mod NumberSteps
pub mod NameSteps
