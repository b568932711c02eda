-- What a program in the language does, one statement at a time.
--
-- From the X10 Language Specification 2.4, by chapters and sections. Statements: Empty statement, Local variable declaration, Block, If
-- statement, For statement. Expressions: Assignment, Calls. Activities: Spawning an activity, Finish, Initial activity, Atomic blocks. Clocks:
-- Creating new clocks, Registering new activities on clocks, Resuming clocks, Advancing clocks, Dropping clocks.
-- Clocks, finishes, shared numbers, what is wrong and the end of a step are those of a module's world; only what an activity has in progress
-- differs: here it is the statements that are left, and what names stand for.
-- This project's own rules: a step does one statement, with its expressions, or ends a turn of a loop, a finish, a call or an activity; a block,
-- a `;` and a loop whose two numbers leave it no turn have no step of their own; what the limit of a loop comes to is taken once, before its
-- first turn; a shared number is read, written or added to in one step; `advanceAll` is two steps; a new activity knows the names of its
-- starter, with what they stand for then.
use Rattle.std.specs.Prelude.{ℕ, zero, suc, ℤ, pos, ◌+ℤ◌, int_lt, int_le, ◌+◌, List, [], ◌∷◌, ◌++◌, map, length, codes, Option, Some, None, slice_get, slice_set, if◌then◌else◌}
use Rattle.std.specs.Int.{w64, int_min, int_wrapping_add, int_wrapping_sub, int_wrapping_mul}
use Rattle.std.specs.Option.{option_map_or}
use Rattle.xk_types.specs.declared.world.Value.{Value as Held}
use Rattle.xk_types.specs.declared.world.Value.TheVariants as value
use Rattle.xk_types.specs.declared.world.Status.{Status}
use Rattle.xk_types.specs.declared.world.Status.TheVariants as status
use Rattle.xk_types.specs.declared.world.Event.{Event}
use Rattle.xk_types.specs.declared.world.Event.TheVariants as event
use Rattle.xk_types.specs.declared.unit.ParamKind.{ParamKind}
use Rattle.xk_types.specs.declared.unit.ParamKind.TheVariants as param
use Rattle.xk_types.specs.Code.{compares}
use Rattle.xk_types.specs.World.{ActivityOf, WorldOf, root}
use Rattle.xk_types.specs.Step.{OutcomeOf, Blocked, Wrong, Stepped, OutOfRange, WrongKind, settled, joined, is_given, governing, done, made, number_in, clock_in, cell_in, none, only, all, resumed, dropped, passed, arrived, ended, awaits, innermost, waits}
use Rattle.xk_tree.specs.declared.tree.Operator.{Operator}
use Rattle.xk_tree.specs.declared.tree.Operator.TheVariants as operator
use Rattle.xk_tree.specs.Tree.{Word, Expression, Literal, Named, Paren, Negation, Binary, Make, Value, Bound, UpTo, Least, top, Statement, Block, Empty, Declare, Assign, Atomic, If, IfElse, For, Async, Finish, Call, Resume, Drop, AdvanceAll, Print, Statements, Done, More, ParamValue, MethodValue, SharedValue, TreeValue}
use Rattle.xk_names.specs.Scope.{Table, find, is_text}
use Rattle.xk_names.specs.Uses.{clocks_listed}

-- What is left to be done: a statement; or the end of a turn of the loop with this name, which goes on up to a number, and no further
-- than what a second name stands for, if there is one; or the end of a finish.
pub data Todo : Type 0 where
  Do : Statement → Todo
  Turn : Word → Option Word → ℤ → Statement → Todo
  Close : Todo

-- what names stand for, the latest first
abbrev pub Names : Type 0
Names = Table Held

-- a call in progress
pub record Doing : Type 0 where
  pub todo : List Todo
  pub names : Names

abbrev pub SourceActivity : Type 0
SourceActivity = ActivityOf Doing

abbrev pub SourceWorld : Type 0
SourceWorld = WorldOf Doing

abbrev pub SourceOutcome : Type 0
SourceOutcome = OutcomeOf Doing

-- ---- what a program declares

-- the place of the first shared number of the name, where the first of these has place i
abbrev pub shared_from : ℕ → List SharedValue → List ℕ → Option ℕ
shared_from i [] x = None
shared_from i (s ∷ ss) x = if is_text x s.name.text then Some i else shared_from (suc i) ss x

-- the shared number that the name is, if it is one
abbrev pub shared_at : TreeValue → Word → Option ℕ
shared_at t x = shared_from 0 t.shared x.text

-- the shared number that an expression is, where it is one's name alone
abbrev pub alone : TreeValue → Expression → Option ℕ
alone t (Named x) = shared_at t x
alone t _ = None

-- the first method of the name
abbrev pub method_of : TreeValue → List ℕ → Option MethodValue
method_of t f = find (map (λ m. (m.name.text, m)) t.methods) f

-- ---- expressions

-- what a name stands for
abbrev pub value_of : Names → Word → Option Held
value_of names x = find names x.text

abbrev pub result_of : Operator → ℤ → ℤ → ℤ
result_of operator.Plus p q = int_wrapping_add w64 p q
result_of operator.Minus p q = int_wrapping_sub w64 p q
result_of operator.Times p q = int_wrapping_mul w64 p q

-- the number that an expression comes to
abbrev pub taken : Names → Expression → (ℤ → SourceOutcome) → SourceOutcome
taken names (Literal n) go = go n.value
taken names (Named x) go = number_in (value_of names x) go
taken names (Paren at e) go = taken names e go
taken names (Negation at e) go = taken names e (λ p. go (int_wrapping_sub w64 (pos 0) p))
taken names (Binary o l at r) go = taken names l (λ p. taken names r (λ q. go (result_of o p q)))

-- ---- statements

-- the statements that a statement unfolds into: those of a block; none for `;`, nor for a loop that takes no turn
abbrev mutual
  pub unfolded : Statement → List Todo
  unfolded (Block close ss) = unfolded_all ss
  unfolded Empty = []
  unfolded (For at i lo b s) = if int_le lo.value (top b) then Do (For at i lo b s) ∷ [] else []
  unfolded s = Do s ∷ []

  pub unfolded_all : Statements → List Todo
  unfolded_all Done = []
  unfolded_all (More s ss) = unfolded s ++ unfolded_all ss

-- the activity has this left to do
abbrev pub left_with : SourceActivity → List Todo → SourceActivity
left_with act todo = record act { frame = record { todo = todo; names = act.frame.names } }

-- and a name stands for this
abbrev pub knowing : SourceActivity → List Todo → Word → Held → SourceActivity
knowing act todo x v = record act { frame = record { todo = todo; names = (x.text, v) ∷ act.frame.names } }

-- The name gets what an expression comes to, or a shared number that stands alone.
abbrev pub declaring : SourceWorld → ℕ → SourceActivity → List Todo → Word → Expression → Option ℕ → SourceOutcome
declaring w a act rest x e None = taken act.frame.names e (λ n. done w a (knowing act rest x (value.Number n)) none event.Local)
declaring w a act rest x e (Some s) = cell_in (slice_get w.cells s) (λ n. done w a (knowing act rest x (value.Number n)) none event.Got)

-- shared number s becomes what an expression and its old number make
abbrev pub storing : SourceWorld → ℕ → SourceActivity → List Todo → ℕ → Expression → (ℤ → ℤ → ℤ) → Event → SourceOutcome
storing w a act rest s e new ev =
    taken act.frame.names e (λ n. cell_in (slice_get w.cells s) (λ old.
    done (record w { cells = slice_set w.cells s (new old n) }) a (left_with act rest) none ev))

-- an assignment to a shared number, or to a name of the activity's own
abbrev pub assigning : TreeValue → SourceWorld → ℕ → SourceActivity → List Todo → Word → Expression → Option ℕ → SourceOutcome
assigning t w a act rest x e (Some s) = storing w a act rest s e (λ old n. n) event.Put
assigning t w a act rest x e None = declaring w a act rest x e (alone t e)

-- an addition to a shared number
abbrev pub adding : SourceWorld → ℕ → SourceActivity → List Todo → Expression → Option ℕ → SourceOutcome
adding w a act rest e None = Wrong OutOfRange
adding w a act rest e (Some s) = storing w a act rest s e (int_wrapping_add w64) event.Added

-- ---- calls

-- what an argument is worth: for a number what it comes to, for a clock what its name stands for
abbrev pub given_one : SourceWorld → ℕ → Names → ParamKind → Expression → (Held → SourceOutcome) → SourceOutcome
given_one w a names param.Number e go = taken names e (λ n. go (value.Number n))
given_one w a names param.Clock (Named c) go = clock_in w a (value_of names c) (λ k. go (value.Clock k))
given_one w a names param.Clock (Paren at e) go = given_one w a names param.Clock e go
given_one w a names param.Clock e go = Wrong WrongKind

-- what the parameters of a method stand for in a call
abbrev pub given : SourceWorld → ℕ → Names → List ParamValue → List Expression → (Names → SourceOutcome) → SourceOutcome
given w a names [] [] go = go []
given w a names [] (e ∷ es) go = Wrong OutOfRange
given w a names (p ∷ ps) [] go = Wrong OutOfRange
given w a names (p ∷ ps) (e ∷ es) go = given_one w a names p.takes.kind e (λ v. given w a names ps es (λ more. go ((p.name.text, v) ∷ more)))

-- the activity does the body of a method, and the call that it was in waits
abbrev pub invoked : SourceActivity → List Todo → Statements → Names → SourceActivity
invoked act rest body names = record act {
  frame = record { todo = unfolded_all body; names = names };
  callers = record { todo = rest; names = act.frame.names } ∷ act.callers;
}

abbrev pub invoking : SourceWorld → ℕ → SourceActivity → List Todo → List Expression → Option MethodValue → SourceOutcome
invoking w a act rest es None = Wrong OutOfRange
invoking w a act rest es (Some m) = given w a act.frame.names m.params es (λ names. done w a (invoked act rest m.body names) none event.Local)

-- ---- starting an activity

-- the clocks that it is registered on
abbrev pub handed : SourceWorld → ℕ → Names → List Word → (List Held → SourceOutcome) → SourceOutcome
handed w a names [] go = go []
handed w a names (c ∷ cs) go = clock_in w a (value_of names c) (λ k. handed w a names cs (λ more. go (value.Clock k ∷ more)))

-- what activity a starts: it knows what its starter knows
abbrev pub begun : ℕ → SourceActivity → Statement → SourceActivity
begun a act body = record {
  frame = record { todo = unfolded body; names = act.frame.names };
  callers = [];
  status = status.Running;
  since = act.since;
  opened = 0;
  governed = governing a act;
}

-- activity a goes on, and what it starts takes the next number
abbrev pub starting : SourceWorld → ℕ → SourceActivity → List Todo → Statement → List Held → SourceOutcome
starting w a act rest body clocks =
    Stepped (settled (record w {
      activities = slice_set w.activities a (left_with act rest) ++ begun a act body ∷ [];
      clocks = joined a (is_given clocks) w.clocks;
    })) event.Spawned

-- ---- loops

-- a bound, and no further than the number that the name stands for, if there is one
abbrev pub limited : Names → Option Word → ℤ → (ℤ → SourceOutcome) → SourceOutcome
limited names None hi go = go hi
limited names (Some x) hi go = number_in (value_of names x) (λ n. go (int_min n hi))

-- A loop has its first turn, if it has one. What its limit comes to is taken here alone: the limit's name stands for it from then on.
abbrev pub looped : SourceWorld → ℕ → SourceActivity → List Todo → Word → ℤ → Bound → Statement → SourceOutcome
looped w a act rest i lo (UpTo hi) s = done w a (knowing act (unfolded s ++ Turn i None hi.value s ∷ rest) i (value.Number lo)) none event.Local
looped w a act rest i lo (Least x v e hi) s = taken act.frame.names e (λ n.
    done w a (if int_le lo (int_min n hi.value)
    then knowing (knowing act [] i (value.Number lo)) (unfolded s ++ Turn i (Some x) hi.value s ∷ rest) x (value.Number n) else left_with act rest) none event.Local)

-- ---- a statement

-- Activity a does a statement, and has this left to do. What a block or a `;` unfolds into is left instead of it, so that neither comes here.
abbrev pub performed : TreeValue → SourceWorld → ℕ → SourceActivity → List Todo → Statement → SourceOutcome
performed t w a act rest (Declare b x ty (Make at v)) = made w a (knowing act rest x (value.Clock (length w.clocks)))
performed t w a act rest (Declare b x ty (Value e)) = declaring w a act rest x e (alone t e)
performed t w a act rest (Assign x e) = assigning t w a act rest x e (shared_at t x)
performed t w a act rest (Atomic x y at e) = adding w a act rest e (shared_at t x)
performed t w a act rest (If at l op r s) =
    taken act.frame.names l (λ p. taken act.frame.names r (λ q.
    done w a (left_with act (if compares op p q then unfolded s ++ rest else rest)) none event.Local))
performed t w a act rest (IfElse at l op r s u) =
    taken act.frame.names l (λ p. taken act.frame.names r (λ q.
    done w a (left_with act (if compares op p q then unfolded s ++ rest else unfolded u ++ rest)) none event.Local))
performed t w a act rest (For at i lo b s) = looped w a act rest i lo.value b s
performed t w a act rest (Async at cs s) = handed w a act.frame.names (clocks_listed cs) (starting w a act rest s)
performed t w a act rest (Finish at s) =
    done w a (record (left_with act (unfolded s ++ Close ∷ rest)) { opened = act.opened + 1 }) none event.Opened
performed t w a act rest (Call f at es) = invoking w a act rest es (method_of t f.text)
performed t w a act rest (Resume c v) =
    clock_in w a (value_of act.frame.names c) (λ k. done w a (left_with act rest) (only k resumed) event.Resumed)
performed t w a act rest (Drop c v) =
    clock_in w a (value_of act.frame.names c) (λ k. done w a (left_with act rest) (only k dropped) event.Dropped)
performed t w a act rest (AdvanceAll at v) = done w a (arrived (left_with act rest)) (all resumed) event.Arrived
performed t w a act rest (Print at v e) = taken act.frame.names e (λ n. done w a (left_with act rest) none (event.Printed n))
performed t w a act rest s = done w a (left_with act (unfolded s ++ rest)) none event.Local

-- a turn of a loop ends: another one begins, or the loop is over
abbrev pub turned : SourceWorld → ℕ → SourceActivity → List Todo → Word → Option Word → ℤ → Statement → SourceOutcome
turned w a act rest i x hi s = number_in (value_of act.frame.names i) (λ n. limited act.frame.names x hi (λ most.
    done w a (if int_lt n most then knowing act (unfolded s ++ Turn i x hi s ∷ rest) i (value.Number (n +ℤ pos 1)) else left_with act rest) none event.Local))

-- a finish ends, by how many are open
abbrev pub closed : SourceWorld → ℕ → SourceActivity → List Todo → ℕ → SourceOutcome
closed w a act rest zero = Wrong OutOfRange
closed w a act rest (suc n) =
    if awaits w.activities (innermost a act) then Blocked else done w a (record (left_with act rest) { opened = n }) none event.Closed

-- nothing is left: the activity goes back into the call that waits, or ends
abbrev pub over : SourceWorld → ℕ → SourceActivity → List Doing → SourceOutcome
over w a act [] = done w a (ended act) (all dropped) event.Ended
over w a act (c ∷ cs) = done w a (record act { frame = c; callers = cs }) none event.Local

-- activity a, which runs, does what is next
abbrev pub continued : TreeValue → SourceWorld → ℕ → SourceActivity → List Todo → SourceOutcome
continued t w a act [] = over w a act act.callers
continued t w a act (Do s ∷ rest) = performed t w a act rest s
continued t w a act (Turn i x hi s ∷ rest) = turned w a act rest i x hi s
continued t w a act (Close ∷ rest) = closed w a act rest act.opened

-- the second half of an `advanceAll`
abbrev pub let_past : SourceWorld → ℕ → SourceActivity → SourceOutcome
let_past w a act = if waits w a then Blocked else done w a (record act { status = status.Running; since = w.steps + 1 }) (all passed) event.Passed

abbrev pub source_by : TreeValue → SourceWorld → ℕ → SourceActivity → Status → SourceOutcome
source_by t w a act status.Running = continued t w a act act.frame.todo
source_by t w a act status.Arrived = let_past w a act
source_by t w a act status.Ended = Blocked

abbrev pub source_of : TreeValue → SourceWorld → ℕ → Option SourceActivity → SourceOutcome
source_of t w a None = Blocked
source_of t w a (Some act) = source_by t w a act act.status

-- one step of activity a
abbrev pub source_step : TreeValue → SourceWorld → ℕ → SourceOutcome
source_step t w a = source_of t w a (slice_get w.activities a)

-- ---- the beginning

-- what `main` has to do
abbrev pub main_todo : TreeValue → List Todo
main_todo t = option_map_or (λ m. unfolded_all m.body) (method_of t (codes "main")) []

-- what parameters stand for
abbrev pub named : List ParamValue → List Held → Names
named [] vs = []
named (p ∷ ps) [] = []
named (p ∷ ps) (v ∷ vs) = (p.name.text, v) ∷ named ps vs

-- what `main` knows, which is given these numbers
abbrev pub main_names : TreeValue → List ℤ → Names
main_names t args = option_map_or (λ m. named m.params (map value.Number args)) (method_of t (codes "main")) []

-- main alone with its arguments, before its first statement
abbrev pub source_opening : TreeValue → List ℤ → SourceWorld
source_opening t args = record {
  activities = record {
    frame = record { todo = main_todo t; names = main_names t args };
    callers = [];
    status = status.Running;
    since = 0;
    opened = 0;
    governed = root;
  } ∷ [];
  clocks = [];
  cells = map (λ s. s.start.value) t.shared;
  steps = 0;
  arguments = args;
}
