pub mod UnitOrigins
