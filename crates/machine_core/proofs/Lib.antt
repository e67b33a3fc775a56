pub mod Machine
pub mod MachineTalk
pub mod MachineFamilies
pub mod MachineErrors
pub mod MachineEdges
pub mod RowsPlain
pub mod RowsFit
pub mod RowsOpen
pub mod RowWalk
pub mod Pending
mod MachineLoads
