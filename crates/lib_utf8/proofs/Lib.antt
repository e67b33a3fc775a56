mod Sequences
mod Encodings
mod Moves
