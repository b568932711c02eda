-- What the code's pieces are, apart from where they lie in memory. This project's own.
use Rattle.std.specs.Prelude.{ℕ, Option, option_map}
use Rattle.xk_lexer.specs.declared.scan.Piece.{Piece}
use Rattle.xk_lexer.specs.Tokens.{Lexeme, lexeme}

abbrev pub piece_value : Piece → Option Lexeme × ℕ
piece_value p = (option_map lexeme p.kind, p.len)
