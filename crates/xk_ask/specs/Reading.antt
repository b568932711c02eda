-- What is known of a line while it is read. This project's own.
use Rattle.std.specs.Prelude.{ℕ, List, Option, None}
use Rattle.xk_ask.specs.declared.line.Line.{Line}
use Rattle.xk_ask.specs.declared.line.Line.TheVariants as line
use Rattle.xk_ask.specs.Answers.{blank_behind, named, number_on}

-- whom a line names of which so much was read, where these bytes are its rest
abbrev pub named_on : Line → List ℕ → Option ℕ
named_on line.Blank bs = named bs
named_on (line.Number n) bs = number_on n bs
named_on (line.Closed n) bs = blank_behind n bs
named_on line.Other bs = None
