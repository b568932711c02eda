-- Shared numbers: what is written in activities that nothing waits for, and what is read and written back. This project's own.
use Rattle.std.specs.Prelude.{ℕ, Bool, false, ◌&&◌, ◌||◌, List, [], ◌∷◌, ◌++◌, Option, Some, None}
use Rattle.std.specs.List.{list_any}
use Rattle.xk_tree.specs.Tree.{Word, Clocks, Statement, Statements, Done, More, Block, Assign, Atomic, If, IfElse, For, Async, Finish}
use Rattle.xk_tree.specs.Tree.{SharedValue}
use Rattle.xk_hints.specs.Deeds.{is_named, mentions}

abbrev pub has_name : List ℕ → SharedValue → Bool
has_name x s = is_named x s.name

-- One of these shared numbers has the name. No other number has it then, since it is visible everywhere.
abbrev pub is_shared_number : List SharedValue → List ℕ → Bool
is_shared_number shared x = list_any (has_name x) shared

-- ---- what is written

abbrev mutual
  -- the names that the statement writes, or adds to, and those that it holds
  pub writes_of : Statement → List Word
  writes_of (Block close ss) = all_writes ss
  writes_of (Assign w e) = w ∷ []
  writes_of (Atomic w y at e) = w ∷ []
  writes_of (If at l c r s) = writes_of s
  writes_of (IfElse at l c r s t) = writes_of s ++ writes_of t
  writes_of (For at i lo b s) = writes_of s
  writes_of (Async at cs s) = writes_of s
  writes_of (Finish at s) = writes_of s
  writes_of _ = []

  pub all_writes : Statements → List Word
  all_writes Done = []
  all_writes (More s ss) = writes_of s ++ all_writes ss

-- ---- what is written in an activity that nothing waits for

-- In the body of an `async` with these clocks. Where there are none, the activity that starts it, and all others outside of it, wait
-- for it at the end of a finish alone: it is on no clock that they are on.
abbrev pub left_in_body : Option Clocks → Statement → List Word
left_in_body None s = writes_of s
left_in_body (Some l) s = []

abbrev mutual
  -- In those that the statement starts, and that go on behind it. At the end of a finish all have ended; those of a branch aren't counted,
  -- since they may not be started.
  pub left_by : Statement → List Word
  left_by (Block close ss) = left_by_all ss
  left_by (For at i lo b s) = left_by s
  left_by (Async at cs s) = left_in_body cs s
  left_by _ = []

  pub left_by_all : Statements → List Word
  left_by_all Done = []
  left_by_all (More s ss) = left_by s ++ left_by_all ss

-- ---- what is read and written back

-- the statement writes x, and computes that of t
abbrev pub writes_back : List ℕ → List ℕ → Statement → Bool
writes_back x t (Assign w e) = is_named x w && mentions t e
writes_back x t _ = false

-- one of the statements does so
abbrev pub is_written_back : List ℕ → List ℕ → Statements → Bool
is_written_back x t Done = false
is_written_back x t (More s ss) = writes_back x t s || is_written_back x t ss
