-- A name that a text doesn't have yet, for a `val` that is advised. This project's own.
use Rattle.std.specs.Prelude.{ℕ, Bool, not, List, ◌++◌, Option, Some, None, codes, if◌then◌else◌}
use Rattle.std.specs.List.{list_any}
use Rattle.std.specs.Str.{bytes_eq}
use Rattle.xk_explain_words.specs.Names.{told_name}
use Rattle.xk_explain_kinds.specs.Declarations.{Declared}

abbrev pub is_named : List ℕ → Declared → Bool
is_named name d = bytes_eq d.name.text name

-- something is declared by this name, wherever that is
abbrev pub is_taken : List ℕ → List Declared → Bool
is_taken name ds = list_any (is_named name) ds

-- the first of `t`, `t1` and `t2` that nothing is declared by
abbrev pub free_name : List Declared → Option (List ℕ)
free_name ds =
    if not (is_taken (codes "t") ds) then Some (codes "t")
    else if not (is_taken (codes "t1") ds) then Some (codes "t1")
    else if not (is_taken (codes "t2") ds) then Some (codes "t2")
    else None

-- `` `val t = n;` ``
unfoldable pub val_of : List ℕ → List ℕ → List ℕ
val_of new name = ((((codes "`val " ++ new) ++ codes " = ") ++ told_name name) ++ codes ";`")
