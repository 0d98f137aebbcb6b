-- Lemmas of the pure pool, lowest first.
pub mod Numbers
pub mod Totals
pub mod Options
pub mod Owners
pub mod BufferSteps
pub mod PoolSteps
pub mod ProgramSteps
pub mod PartsAreOwners
pub mod HeldBuffers
pub mod Pins
pub mod Runs
mod Others
