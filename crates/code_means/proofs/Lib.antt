pub mod Traces
pub mod Forms
pub mod Pairs
pub mod Same
mod WholeRuns
mod StillPending
