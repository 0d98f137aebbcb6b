mod Folds
mod Cutting
