-- What holds of bytes of which nothing may be known. This project's own.
use Rattle.std.specs.Prelude.{ℕ, List, Option, Some, None}

-- this holds of the bytes, where they are known, and else of some
abbrev pub OfSome : Option (List ℕ) → (List ℕ → Type 0) → Type 0
OfSome None P = (bytes : List ℕ) × P bytes
OfSome (Some bytes) P = P bytes
