pub mod Stripes
