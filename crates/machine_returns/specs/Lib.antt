pub mod Waking
pub mod Results
pub mod Failing
pub mod Closing
pub mod Names
pub mod Marking
pub mod Returning
pub mod GoingOn
