mod AnyPlace
mod Giving
mod Judging
mod OneFile
mod Starting
