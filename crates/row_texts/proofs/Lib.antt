mod Below
mod Positive
mod Rooms
