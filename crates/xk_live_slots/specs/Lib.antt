pub mod LiveSlots
