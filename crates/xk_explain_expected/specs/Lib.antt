pub mod Grammar
pub mod Views
pub mod Expected
pub mod Missing
pub mod Laws
pub mod Notes
