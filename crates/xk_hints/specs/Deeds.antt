-- What statements do with a name. This project's own.
use Rattle.std.specs.Prelude.{ℕ, Bool, true, false, ◌||◌, List, Option, Some, None}
use Rattle.std.specs.List.{list_any}
use Rattle.std.specs.Str.{bytes_eq}
use Rattle.xk_tree.specs.Tree.{Word, Clocks, Expression, Literal, Named, Paren, Negation, Binary, Source, Make, Value, Bound, UpTo, Least}
use Rattle.xk_tree.specs.Tree.{MethodValue, Statement, Statements, Done, More, Block, Declare, Assign, Atomic, If, IfElse, For, Async}
use Rattle.xk_tree.specs.Tree.{Finish, Call, Resume, AdvanceAll, Print}
use Rattle.xk_hints.specs.declared.deeds.Deed.{Deed}
use Rattle.xk_hints.specs.declared.deeds.Deed.TheVariants as deed

-- ---- where a name stands

abbrev pub is_named : List ℕ → Word → Bool
is_named x w = bytes_eq w.text x

-- in an expression
abbrev pub mentions : List ℕ → Expression → Bool
mentions x (Literal n) = false
mentions x (Named w) = is_named x w
mentions x (Paren at e) = mentions x e
mentions x (Negation at e) = mentions x e
mentions x (Binary o l at r) = mentions x l || mentions x r

-- behind the `=` of a declaration
abbrev pub source_mentions : List ℕ → Source → Bool
source_mentions x (Make at v) = false
source_mentions x (Value e) = mentions x e

-- in a loop's bound
abbrev pub bound_mentions : List ℕ → Bound → Bool
bound_mentions x (UpTo n) = false
bound_mentions x (Least w v e n) = mentions x e

-- among the clocks of an `async`
abbrev pub lists : List ℕ → Option Clocks → Bool
lists x None = false
lists x (Some l) = list_any (is_named x) l.names

-- ---- what a statement does with a name, apart from the statements that it holds

-- It uses it: reads the number, or gives the clock to others, or resumes it. (To write a number is no use of it, nor to drop a clock.)
abbrev pub uses : List ℕ → Statement → Bool
uses x (Declare b w ty r) = source_mentions x r
uses x (Assign w e) = mentions x e
uses x (Atomic w y at e) = mentions x e
uses x (If at l c r s) = mentions x l || mentions x r
uses x (IfElse at l c r s t) = mentions x l || mentions x r
uses x (For at i lo b s) = bound_mentions x b
uses x (Async at cs s) = lists x cs
uses x (Call g at es) = list_any (mentions x) es
uses x (Resume c v) = is_named x c
uses x (Print at v e) = mentions x e
uses x _ = false

-- it gives it to others: to the activity that it starts, or to the method that it calls
abbrev pub gives : List ℕ → Statement → Bool
gives x (Async at cs s) = lists x cs
gives x (Call g at es) = list_any (mentions x) es
gives x _ = false

-- it writes it, or adds to it
abbrev pub writes : List ℕ → Statement → Bool
writes x (Assign w e) = is_named x w
writes x (Atomic w y at e) = is_named x w
writes x _ = false

-- it calls the method of that name
abbrev pub calls : List ℕ → Statement → Bool
calls x (Call g at es) = is_named x g
calls x _ = false

-- it may wait at all clocks of its activity: by itself, or in the method that it calls
abbrev pub waits : Statement → Bool
waits (Call g at es) = true
waits (AdvanceAll at v) = true
waits _ = false

abbrev pub does : Deed → List ℕ → Statement → Bool
does deed.Use x s = uses x s
does deed.Give x s = gives x s
does deed.Write x s = writes x s
does deed.Call x s = calls x s
does deed.Wait x s = waits s

-- ---- in statements

abbrev mutual
  -- one that the statement holds does so
  pub some_within : (Statement → Bool) → Statement → Bool
  some_within test (Block close ss) = some_among test ss
  some_within test (If at l c r s) = test s || some_within test s
  some_within test (IfElse at l c r s t) = (test s || some_within test s) || (test t || some_within test t)
  some_within test (For at i lo b s) = test s || some_within test s
  some_within test (Async at cs s) = test s || some_within test s
  some_within test (Finish at s) = test s || some_within test s
  some_within test _ = false

  -- one of the statements, or one that they hold
  pub some_among : (Statement → Bool) → Statements → Bool
  some_among test Done = false
  some_among test (More s ss) = (test s || some_within test s) || some_among test ss

-- a statement, or one that it holds
abbrev pub some_in : (Statement → Bool) → Statement → Bool
some_in test s = test s || some_within test s

-- in the body of a method
unfoldable pub some_in_method : (Statement → Bool) → MethodValue → Bool
some_in_method test m = some_among test m.body

-- in those of methods
abbrev pub some_of_methods : (Statement → Bool) → List MethodValue → Bool
some_of_methods test ms = list_any (some_in_method test) ms

-- ---- an advanceAll

abbrev pub is_advance : Statement → Bool
is_advance (AdvanceAll at v) = true
is_advance _ = false

-- it is the first of them
abbrev pub advance_first : Statements → Bool
advance_first Done = false
advance_first (More s ss) = is_advance s

-- ---- clocks that are made

abbrev pub is_made : Source → Bool
is_made (Make at v) = true
is_made (Value e) = false

abbrev mutual
  -- the activity that runs the statement makes a clock there; other activities that it starts don't count
  pub makes_clock : Statement → Bool
  makes_clock (Declare b w ty r) = is_made r
  makes_clock (Block close ss) = make_clock ss
  makes_clock (If at l c r s) = makes_clock s
  makes_clock (IfElse at l c r s t) = makes_clock s || makes_clock t
  makes_clock (For at i lo b s) = makes_clock s
  makes_clock (Finish at s) = makes_clock s
  makes_clock _ = false

  pub make_clock : Statements → Bool
  make_clock Done = false
  make_clock (More s ss) = makes_clock s || make_clock ss
