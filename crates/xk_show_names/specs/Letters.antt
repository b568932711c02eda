-- How much of a name is told. This project's own.
use Rattle.std.specs.Prelude.{ℕ, nat_lt, List, [], ◌++◌, length, take, codes, if◌then◌else◌}

-- no more than 30 letters of it, and `..` for the others
abbrev pub cut_name : List ℕ → List ℕ
cut_name name = take 30 name ++ (if nat_lt 30 (length name) then codes ".." else [])
