mod FaultsOfBytes
mod Refusals
