mod Streams
mod Doing
