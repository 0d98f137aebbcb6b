mod Last
mod Whole
