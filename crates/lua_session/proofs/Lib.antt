mod Cells
mod Begun
mod Handed
mod Lines
mod Waking
