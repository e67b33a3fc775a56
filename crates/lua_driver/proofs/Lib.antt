mod Reaching
mod Ahead
mod AnyRows
mod Turned
mod Few
mod Handing
mod Forms
