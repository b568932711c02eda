pub mod KindSet
pub mod Bits
pub mod Place
pub mod Transfer
pub mod Search
pub mod SearchStops
pub mod LeastRefusal
pub mod KindTable
