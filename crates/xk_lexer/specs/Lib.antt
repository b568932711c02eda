pub mod Tokens
pub mod Pieces
pub mod Lexing
pub mod Views
