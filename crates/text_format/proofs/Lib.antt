mod Fills
mod Quotes
mod Bases
