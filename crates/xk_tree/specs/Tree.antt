-- Trees, apart from where they lie in memory. Numbers called `at`, `paren`, `close` or `minus` are offsets in the text.
-- The language is this project's own, in the manner of X10.
use Rattle.std.specs.Prelude.{ℕ, ℤ, Bool, int_le, List, [], ◌∷◌, map, Option, option_map}
use Rattle.xk_types.specs.declared.instr.Comparison.{Comparison}
use Rattle.xk_tree.specs.declared.tree.Operator.{Operator}
use Rattle.xk_tree.specs.declared.tree.Number.{Number}
use Rattle.xk_tree.specs.declared.tree.Binding.{Binding}
use Rattle.xk_tree.specs.declared.tree.Written.{Written}
use Rattle.xk_tree.specs.declared.tree.TypeName.{TypeName}
use Rattle.xk_tree.specs.declared.tree.Verb.{Verb}
use Rattle.xk_tree.specs.declared.tree.Name as name
use Rattle.xk_tree.specs.declared.tree.ClockList as clocks
use Rattle.xk_tree.specs.declared.tree.Param as param
use Rattle.xk_tree.specs.declared.tree.Shared as shared
use Rattle.xk_tree.specs.declared.tree.Method as method
use Rattle.xk_tree.specs.declared.tree.Expr.{Expr}
use Rattle.xk_tree.specs.declared.tree.Expr.TheVariants as expr
use Rattle.xk_tree.specs.declared.tree.Right.{Right}
use Rattle.xk_tree.specs.declared.tree.Right.TheVariants as right
use Rattle.xk_tree.specs.declared.tree.Bound as reached
use Rattle.xk_tree.specs.declared.tree.Bound.TheVariants as reach
use Rattle.xk_tree.specs.declared.tree.Stmt.{Stmt}
use Rattle.xk_tree.specs.declared.tree.Stmt.TheOpen as layer
use Rattle.xk_tree.specs.declared.tree.Stmt.TheOpen.{Stmt-F}
use Rattle.xk_tree.specs.declared.tree.Stmt.TheFolds.{fold-Stmt}

-- a name, and where it stands
pub record Word : Type 0 where
  pub at : ℕ
  pub text : List ℕ

-- an expression
pub data Expression : Type 0 where
  Literal : Number → Expression
  Named : Word → Expression
  Paren : ℕ → Expression → Expression
  Negation : ℕ → Expression → Expression
  Binary : Operator → Expression → ℕ → Expression → Expression

-- what stands behind the `=` of a declaration
pub data Source : Type 0 where
  Make : ℕ → Verb → Source
  Value : Expression → Source

-- How far a loop goes: up to a number; or `Math.min(e, n)`, with a name that no text has for what the expression comes to.
pub data Bound : Type 0 where
  UpTo : Number → Bound
  Least : Word → Verb → Expression → Number → Bound

-- the number that a loop goes no further than
abbrev pub top : Bound → ℤ
top (UpTo n) = n.value
top (Least x v e n) = n.value

-- a loop from the first number has a turn, unless the expression comes to too little
abbrev pub has_turns : Number → Bound → Bool
has_turns lo b = int_le lo.value (top b)

-- the clocks that an `async` registers its activity on
pub record Clocks : Type 0 where
  pub written : Written
  pub names : List Word

mutual
  -- a statement
  pub data Statement : Type 0 where
    Block : ℕ → Statements → Statement
    Empty : Statement
    Declare : Binding → Word → Option TypeName → Source → Statement
    Assign : Word → Expression → Statement
    Atomic : Word → Word → ℕ → Expression → Statement
    If : ℕ → Expression → Comparison → Expression → Statement → Statement
    IfElse : ℕ → Expression → Comparison → Expression → Statement → Statement → Statement
    For : ℕ → Word → Number → Bound → Statement → Statement
    Async : ℕ → Option Clocks → Statement → Statement
    Finish : ℕ → Statement → Statement
    Call : Word → ℕ → List Expression → Statement
    Resume : Word → Verb → Statement
    Drop : Word → Verb → Statement
    AdvanceAll : ℕ → Verb → Statement
    Print : ℕ → Verb → Expression → Statement

  -- statements, one after another
  pub data Statements : Type 0 where
    Done : Statements
    More : Statement → Statements → Statements

pub record ParamValue : Type 0 where
  pub name : Word
  pub takes : TypeName

pub record MethodValue : Type 0 where
  pub name : Word
  pub paren : ℕ
  pub params : List ParamValue
  pub body : Statements
  pub close : ℕ

pub record SharedValue : Type 0 where
  pub name : Word
  pub start : Number

-- a program
pub record TreeValue : Type 0 where
  pub shared : List SharedValue
  pub methods : List MethodValue

-- ---- what the code's trees are

abbrev pub word : name.Name → Word
word n = record { at = n.at; text = n.text.now }

abbrev pub words : List name.Name → List Word
words ns = map word ns

abbrev pub expression : Expr → Expression
expression (expr.Number n) = Literal n
expression (expr.Name n) = Named (word n)
expression (expr.Paren' at p e) = Paren at (expression e)
expression (expr.Negation' at p e) = Negation at (expression e)
expression (expr.Binary' o p l at q r) = Binary o (expression l) at (expression r)

abbrev pub expressions : List Expr → List Expression
expressions es = map expression es

abbrev pub source : Right → Source
source (right.Make at verb) = Make at verb
source (right.Expr e) = Value (expression e)

abbrev pub bound : reached.Bound → Bound
bound (reach.UpTo n) = UpTo n
bound (reach.Least x v e n) = Least (word x) v (expression e) n

abbrev pub clock_list : clocks.ClockList → Clocks
clock_list l = record { written = l.written; names = words l.names.items }

abbrev pub listed : List Statement → Statements
listed [] = Done
listed (s ∷ ss) = More s (listed ss)

abbrev pub layer_statement : Stmt-F Statement → Statement
layer_statement (layer.Block close ss) = Block close (listed ss.items)
layer_statement layer.Empty = Empty
layer_statement (layer.Declare b n ty r) = Declare b (word n) ty (source r)
layer_statement (layer.Assign n e) = Assign (word n) (expression e)
layer_statement (layer.Atomic n m at e) = Atomic (word n) (word m) at (expression e)
layer_statement (layer.If at l c r s) = If at (expression l) c (expression r) s.value
layer_statement (layer.IfElse at l c r s t) = IfElse at (expression l) c (expression r) s.value t.value
layer_statement (layer.For at n a b s) = For at (word n) a (bound b) s.value
layer_statement (layer.Async at cs s) = Async at (option_map clock_list cs) s.value
layer_statement (layer.Finish at s) = Finish at s.value
layer_statement (layer.Call n at es) = Call (word n) at (expressions es.items)
layer_statement (layer.Resume n verb) = Resume (word n) verb
layer_statement (layer.Drop n verb) = Drop (word n) verb
layer_statement (layer.AdvanceAll at verb) = AdvanceAll at verb
layer_statement (layer.Print at verb e) = Print at verb (expression e)

-- a statement
abbrev pub statement : Stmt → Statement
statement = fold-Stmt Statement layer_statement

abbrev pub statements : List Stmt → Statements
statements ss = listed (map statement ss)

abbrev pub param_value : param.Param → ParamValue
param_value p = record { name = word p.name; takes = p.takes }

abbrev pub shared_value : shared.Shared → SharedValue
shared_value s = record { name = word s.name; start = s.start }

abbrev pub method_value : method.Method → MethodValue
method_value m = record { name = word m.name; paren = m.paren; params = map param_value m.params.items; body = statements m.body.items; close = m.close }

-- a program of these shared numbers and methods
abbrev pub program_value : List shared.Shared → List method.Method → TreeValue
program_value ss ms = record { shared = map shared_value ss; methods = map method_value ms }
