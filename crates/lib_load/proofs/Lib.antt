mod Rows
mod Told
