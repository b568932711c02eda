-- Names as they are told inside a line. This project's own.
use Rattle.std.specs.Prelude.{ℕ, nat_lt, List, [], ◌++◌, length, take, codes, if◌then◌else◌}

-- what stands for the letters of a name behind the first 60
abbrev pub name_mark : List ℕ → List ℕ
name_mark name = if nat_lt 60 (length name) then codes ".." else []

-- no more than 60 letters of it, and `..` for the others
abbrev pub told_name : List ℕ → List ℕ
told_name name = take 60 name ++ name_mark name
