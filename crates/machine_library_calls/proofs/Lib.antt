mod Waiting
mod Calling
