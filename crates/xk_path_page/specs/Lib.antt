pub mod PathPage
