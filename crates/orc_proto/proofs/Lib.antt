mod Groups
mod Steps
mod Items
mod Varints
mod Messages
mod Shortest
mod OneVarint
