-- What an activity does with numbers before it may wait for anybody. This project's own.
use Rattle.std.specs.Prelude.{Bool, true, false, ◌||◌, List, [], ◌∷◌, ◌++◌, map, int_le}
use Rattle.std.specs.Prelude.{if◌then◌else◌}
use Rattle.xk_tree.specs.declared.tree.Number.{Number}
use Rattle.xk_tree.specs.Tree.{Word, word, Expression, Named, Source, Make, Value, Bound, UpTo, Least, Statement, Statements, Done, More}
use Rattle.xk_tree.specs.Tree.{Block, Declare, Assign, Atomic, If, IfElse, For, Finish, Call, AdvanceAll}
use Rattle.xk_hints.specs.declared.access.Act.{Act}
use Rattle.xk_hints.specs.declared.access.Act.TheVariants as act
use Rattle.xk_hints.specs.declared.access.Access.{Access}

-- what is done with a number, and where its name stands
pub record AccessValue : Type 0 where
  pub act : Act
  pub name : Word

abbrev pub access_value : Access → AccessValue
access_value a = record { act = a.act; name = word a.name }

abbrev pub accesses : List Access → List AccessValue
accesses found = map access_value found

abbrev pub access : Act → Word → AccessValue
access a x = record { act = a; name = x }

-- ---- of which the order counts

-- of the same number: not of two reads, nor of two additions
abbrev pub is_order_seen : Act → Act → Bool
is_order_seen act.Read act.Read = false
is_order_seen act.Read act.Write = true
is_order_seen act.Read act.Add = true
is_order_seen act.Write b = true
is_order_seen act.Add act.Read = true
is_order_seen act.Add act.Write = true
is_order_seen act.Add act.Add = false

-- ---- where an activity may wait

abbrev mutual
  -- The activity that runs the statement may wait there: at the end of a finish, at its clocks, or in the method that it calls. What
  -- it starts waits for itself.
  pub may_wait : Statement → Bool
  may_wait (Block close ss) = some_may_wait ss
  may_wait (If at l c r s) = may_wait s
  may_wait (IfElse at l c r s t) = may_wait s || may_wait t
  may_wait (For at i lo b s) = may_wait s
  may_wait (Finish at s) = true
  may_wait (Call g at es) = true
  may_wait (AdvanceAll at v) = true
  may_wait _ = false

  pub some_may_wait : Statements → Bool
  some_may_wait Done = false
  some_may_wait (More s ss) = may_wait s || some_may_wait ss

-- ---- what it does before that, whatever its conditions are

-- a loop with these bounds has a turn, whatever an expression comes to
abbrev pub surely_turns : Number → Bound → Bool
surely_turns lo (UpTo n) = int_le lo.value n.value
surely_turns lo (Least x v e n) = false

-- a shared number is read alone
abbrev pub reads : Expression → List AccessValue
reads (Named x) = access act.Read x ∷ []
reads _ = []

abbrev pub source_reads : Source → List AccessValue
source_reads (Make at v) = []
source_reads (Value e) = reads e

-- what a statement does, apart from those that it holds, in the order of the text
abbrev pub own_accesses : Statement → List AccessValue
own_accesses (Declare b w ty r) = source_reads r
own_accesses (Assign w e) = access act.Write w ∷ reads e
own_accesses (Atomic w y at e) = access act.Add w ∷ []
own_accesses _ = []

abbrev mutual
  -- the first turn of a loop comes before all others
  pub first_accesses : Statement → List AccessValue
  first_accesses (Block close ss) = all_first_accesses ss
  first_accesses (For at i lo b s) = if surely_turns lo b then first_accesses s else []
  first_accesses (Finish at s) = first_accesses s
  first_accesses s = own_accesses s

  -- of statements, up to the first at which it may wait
  pub all_first_accesses : Statements → List AccessValue
  all_first_accesses Done = []
  all_first_accesses (More s ss) = first_accesses s ++ (if may_wait s then [] else all_first_accesses ss)
