pub mod TwoFiles
