mod Chars
mod Expansions
mod Given
mod Digits
mod Parts
mod Runs
mod Fillings
