mod Bits
mod Counts
mod Places
