pub mod Plain
mod Cases
mod StringVectors
mod FormatVectors
mod SearchVectors
mod CodepointVectors
mod TableVectors
