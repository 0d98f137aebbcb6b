mod Lines
mod Plain
mod Read
