mod Pushed
mod Filled
mod Encodings
mod Written
