mod Plain
mod Looks
mod Steady
mod Library
