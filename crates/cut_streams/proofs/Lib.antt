mod Doing
mod Visits
mod Offsets
mod Takes
