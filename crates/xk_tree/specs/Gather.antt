-- What is gathered from a statement and from those that it holds, in the order of the text. This project's own.
use Rattle.std.specs.Prelude.{Bool, true, List, [], ◌++◌, if◌then◌else◌}
use Rattle.xk_tree.specs.Tree.{Statement, Statements, Done, More, Block, If, IfElse, For, Async, Finish}

-- what a statement gives by itself, and behind it what those give that it holds, where these are gone to
abbrev pub with_held : {X : Type 0} → (Statement → Bool) → (Statement → List X) → Statement → List X → List X
with_held goes own s held = own s ++ (if goes s then held else [])

abbrev mutual
  -- of a statement, and of those that it holds: `own` is what one gives by itself, and `goes` says whether those that it holds are gone to
  pub gather : {X : Type 0} → (Statement → Bool) → (Statement → List X) → Statement → List X
  gather goes own (Block close ss) = with_held goes own (Block close ss) (gather_all goes own ss)
  gather goes own (If at l c r s) = with_held goes own (If at l c r s) (gather goes own s)
  gather goes own (IfElse at l c r s t) = with_held goes own (IfElse at l c r s t) (gather goes own s ++ gather goes own t)
  gather goes own (For at w lo b s) = with_held goes own (For at w lo b s) (gather goes own s)
  gather goes own (Async at cs s) = with_held goes own (Async at cs s) (gather goes own s)
  gather goes own (Finish at s) = with_held goes own (Finish at s) (gather goes own s)
  gather goes own s = own s

  -- of statements, one after another
  pub gather_all : {X : Type 0} → (Statement → Bool) → (Statement → List X) → Statements → List X
  gather_all goes own Done = []
  gather_all goes own (More s ss) = gather goes own s ++ gather_all goes own ss

-- to all that a statement holds
abbrev pub everywhere : Statement → Bool
everywhere s = true
