pub mod Book
pub mod Orders
pub mod Bookings
