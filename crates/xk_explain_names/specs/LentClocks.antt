-- What is told where a method starts an activity on the clock of a `clocked finish` around a call of it, F15. This project's own.
use Rattle.std.specs.Prelude.{ℕ, ◌-◌, nat_lt, Bool, false, not, ◌&&◌, ◌||◌, List, [], ◌∷◌, ◌++◌, take, drop, Option, Some, None}
use Rattle.std.specs.Prelude.{codes, if◌then◌else◌}
use Rattle.std.specs.Str.{bytes_eq}
use Rattle.xk_tree.specs.Tree.{MethodValue, TreeValue}
use Rattle.xk_explain_words.specs.Words.{begins}
use Rattle.xk_explain_words.specs.Names.{told_name}
use Rattle.xk_explain.specs.Notes.{NoteValue}
use Rattle.xk_explain_kinds.specs.Calls.{params_text}
use Rattle.xk_explain_kinds.specs.Declarations.{Declared, declarations}
use Rattle.xk_explain_kinds.specs.FreeNames.{is_taken}
use Rattle.xk_explain_names.specs.PlainFinishes.{finish_among, finish_notes}

-- the method that an offset stands in: the last one that begins before it
abbrev pub last_method : ℕ → Option MethodValue → List MethodValue → Option MethodValue
last_method at found [] = found
last_method at found (m ∷ ms) = last_method at (if nat_lt m.name.at at then Some m else found) ms

-- a `finish` stands there
abbrev pub has_finish : List ℕ → Bool
has_finish [] = false
has_finish (b ∷ bs) = begins (b ∷ bs) (codes "finish") || has_finish bs

-- The method, if it may be called in a `clocked finish` and has none itself: it isn't `main`, and no `finish` stands between its name and the offset.
abbrev pub is_lender : List ℕ → ℕ → MethodValue → Bool
is_lender text at m = not (bytes_eq m.name.text (codes "main")) && not (has_finish (take (at - m.name.at) (drop m.name.at text)))

-- ---- the head to write

-- a name for its clock
abbrev pub clock_name : List Declared → List ℕ
clock_name ds = if is_taken (codes "c") ds then codes "clock" else codes "c"

-- ``take the clock as a parameter, `def f(n: Long, c: Clock)`, and write `async clocked (c)` ``
unfoldable pub lent_text : List ℕ → MethodValue → List ℕ
lent_text clock m =
    ((((((codes "take the clock as a parameter, `def " ++ told_name m.name.text) ++ codes "(") ++ params_text m.params) ++ clock)
    ++ codes ": Clock)`, and write `async clocked (") ++ clock) ++ codes ")`"

-- `` `f` doesn't see the clocks of those that call it ``
unfoldable pub unseen_text : List ℕ → List ℕ
unseen_text name = (codes "`" ++ told_name name) ++ codes "` doesn't see the clocks of those that call it"

abbrev pub lent_note : List ℕ → MethodValue → NoteValue
lent_note clock m = record { at = Some m.name.at; text = unseen_text m.name.text; repair = Some (lent_text clock m) }

abbrev pub lent_by : TreeValue → List ℕ → ℕ → Option MethodValue → List NoteValue
lent_by t text at None = []
lent_by t text at (Some m) =
    if is_lender text at m then lent_note (clock_name (declarations t)) m ∷ [] else finish_notes (finish_among at None m.body)

-- beside such a fault: the method, or the `finish` around it
abbrev pub lent_notes : TreeValue → List ℕ → ℕ → List NoteValue
lent_notes t text at = lent_by t text at (last_method at None t.methods)
