pub mod ClockRoom
