-- The `finish` around a `clocked async` whose clock it could have, F15. This project's own.
use Rattle.std.specs.Prelude.{ℕ, nat_eq, Bool, false, List, [], ◌∷◌, Option, Some, None, codes, if◌then◌else◌}
use Rattle.xk_tree.specs.declared.tree.Written.{Written}
use Rattle.xk_tree.specs.declared.tree.Written.TheVariants as written
use Rattle.xk_tree.specs.Tree.{Clocks, Statement, Statements, Done, More, Block, If, IfElse, For, Async, Finish}
use Rattle.xk_explain.specs.Notes.{NoteValue}

-- the word `clocked` of a `clocked async` stands at this offset
abbrev pub is_ahead_at : ℕ → Written → Bool
is_ahead_at at (written.Listed p q) = false
is_ahead_at at (written.Ahead p) = nat_eq p at

abbrev pub is_clocked_at : ℕ → Option Clocks → Bool
is_clocked_at at None = false
is_clocked_at at (Some cs) = is_ahead_at at cs.written

-- The `finish` whose clock an activity would have: a `clocked async` is on that around it, any other `async` on none.
abbrev pub kept_by : Option ℕ → Written → Option ℕ
kept_by opened (written.Listed p q) = None
kept_by opened (written.Ahead p) = opened

abbrev pub kept_in : Option ℕ → Option Clocks → Option ℕ
kept_in opened None = None
kept_in opened (Some cs) = kept_by opened cs.written

abbrev pub or_else : Option ℕ → Option ℕ → Option ℕ
or_else None other = other
or_else (Some found) other = Some found

-- The innermost `finish` around the `clocked async` at an offset, with no `async` of another clock, or of none, between the two; in a
-- statement around which this one is open.
abbrev mutual
  pub finish_around : ℕ → Option ℕ → Statement → Option ℕ
  finish_around at opened (Block close ss) = finish_among at opened ss
  finish_around at opened (If p l c r s) = finish_around at opened s
  finish_around at opened (IfElse p l c r s t) = or_else (finish_around at opened s) (finish_around at opened t)
  finish_around at opened (For p x lo b s) = finish_around at opened s
  finish_around at opened (Async p cs s) = if is_clocked_at at cs then opened else finish_around at (kept_in opened cs) s
  finish_around at opened (Finish p s) = finish_around at (Some p) s
  finish_around at opened _ = None

  pub finish_among : ℕ → Option ℕ → Statements → Option ℕ
  finish_among at opened Done = None
  finish_among at opened (More s ss) = or_else (finish_around at opened s) (finish_among at opened ss)

-- it has no clock: the repair gives it one
abbrev pub in_place_text : List ℕ
in_place_text = codes "write `clocked finish` in place of this `finish`"

abbrev pub finish_notes : Option ℕ → List NoteValue
finish_notes None = []
finish_notes (Some p) =
    record { at = Some p; text = codes "this `finish` has no clock"; repair = Some in_place_text } ∷ []
