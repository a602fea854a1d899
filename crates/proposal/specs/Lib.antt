pub mod Submission
pub mod Outcome
pub mod Demands
pub mod Clients
