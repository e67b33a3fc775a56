mod Fields
mod Links
mod OperatorLemmas
mod Storing
mod Staying
mod Joining
