mod Adding
mod Joined
mod Fitting
mod TallyLaws
mod Moved
mod ByEntry
