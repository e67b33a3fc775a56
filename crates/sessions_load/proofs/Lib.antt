mod Known
mod Loaded
mod Saved
mod Staying
