mod Scans
mod Finding
mod Growth
mod Slots
