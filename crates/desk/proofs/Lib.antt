pub mod Mapped
pub mod Apart
pub mod Listed
pub mod Booked
