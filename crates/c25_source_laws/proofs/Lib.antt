pub mod BlocksPlaced
pub mod LinesReserve
pub mod ReservedApart
pub mod ReservedInModules
pub mod Reserving
