mod AllLeft
mod Decoders
mod FlagBatches
mod FlagsFollowing
