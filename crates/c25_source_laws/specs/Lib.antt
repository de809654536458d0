pub mod LinkedReservations
pub mod Reservations
