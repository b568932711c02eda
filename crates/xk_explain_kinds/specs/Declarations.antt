-- The declarations of a tree, in the order of the text. This project's own.
use Rattle.std.specs.Prelude.{ℕ, List, [], ◌∷◌, ◌++◌, length, map, flat_map}
use Rattle.xk_types.specs.declared.unit.ParamKind.{ParamKind}
use Rattle.xk_types.specs.declared.unit.ParamKind.TheVariants as param
use Rattle.xk_tree.specs.declared.tree.Binding.{Binding}
use Rattle.xk_tree.specs.declared.tree.Binding.TheVariants as binding
use Rattle.xk_tree.specs.Tree.{Word, word, Expression, Literal, Named, Paren, Negation, Binary, Source, Make, Value, Bound, UpTo, Least}
use Rattle.xk_tree.specs.Tree.{Statement, Statements, Done, More, Block, Empty, Declare, Assign, Atomic, If, IfElse, For, Async, Finish}
use Rattle.xk_tree.specs.Tree.{Call, Resume, Drop, AdvanceAll, Print, ParamValue, MethodValue, SharedValue, TreeValue}
use Rattle.xk_explain_kinds.specs.declared.declaration.Declaration.{Declaration}
use Rattle.xk_explain_kinds.specs.declared.declaration.Role.{Role}
use Rattle.xk_explain_kinds.specs.declared.declaration.Role.TheVariants as role

-- a name that is declared, and as what; and where it is visible: behind an offset, up to another one
pub record Declared : Type 0 where
  pub name : Word
  pub role : Role
  pub behind : ℕ
  pub until : ℕ

abbrev pub declares : Word → Role → ℕ → ℕ → Declared
declares x r behind until = record { name = x; role = r; behind = behind; until = until }

-- what the code's declarations are
abbrev pub declared : Declaration → Declared
declared d = declares (word d.name) d.role d.behind d.until

abbrev pub declared_here : List Declaration → List Declared
declared_here ds = map declared ds

-- ---- where an expression ends, and a statement: at its last name, number or `}`

abbrev pub last_of_expression : Expression → ℕ
last_of_expression (Literal n) = n.at
last_of_expression (Named x) = x.at
last_of_expression (Paren at e) = last_of_expression e
last_of_expression (Negation at e) = last_of_expression e
last_of_expression (Binary o l at r) = last_of_expression r

abbrev pub last_of_source : Source → ℕ
last_of_source (Make at v) = v.at
last_of_source (Value e) = last_of_expression e

abbrev pub last_of_bound : Bound → ℕ
last_of_bound (UpTo n) = n.at
last_of_bound (Least x v e n) = n.at

abbrev pub last_of_arguments : ℕ → List Expression → ℕ
last_of_arguments at [] = at
last_of_arguments at (e ∷ es) = last_of_arguments (last_of_expression e) es

abbrev pub last_of_statement : Statement → ℕ
last_of_statement (Block close ss) = close
last_of_statement Empty = 0
last_of_statement (Declare b x ty r) = last_of_source r
last_of_statement (Assign x e) = last_of_expression e
last_of_statement (Atomic x y at e) = last_of_expression e
last_of_statement (If at l c r s) = last_of_statement s
last_of_statement (IfElse at l c r s t) = last_of_statement t
last_of_statement (For at x lo b s) = last_of_statement s
last_of_statement (Async at cs s) = last_of_statement s
last_of_statement (Finish at s) = last_of_statement s
last_of_statement (Call g at es) = last_of_arguments g.at es
last_of_statement (Resume x v) = v.at
last_of_statement (Drop x v) = v.at
last_of_statement (AdvanceAll at v) = at
last_of_statement (Print at v e) = last_of_expression e

-- ---- statements

-- what a `val` is, by what stands behind its `=`
abbrev pub val_role : Source → Role
val_role (Make at v) = role.Clock
val_role (Value e) = role.Val

-- A `val` or a `var` in a list of statements up to an offset; the clock of a `clocked finish` has no name in the text.
abbrev pub value_declarations : Binding → Word → Source → ℕ → List Declared
value_declarations binding.Hidden x r until = []
value_declarations binding.Var x r until = declares x role.Var (last_of_source r) until ∷ []
value_declarations binding.Val x r until = declares x (val_role r) (last_of_source r) until ∷ []

-- What a statement declares, and those that it holds, where it stands in a list of statements up to an offset. One that stands in no list, as
-- behind an `if`, declares what is visible nowhere; the name of a loop is visible in the statement behind it.
abbrev mutual
  pub declarations_in : ℕ → Statement → List Declared
  declarations_in until (Block close ss) = declarations_all close ss
  declarations_in until (Declare b x ty r) = value_declarations b x r until
  declarations_in until (If at l c r s) = declarations_in 0 s
  declarations_in until (IfElse at l c r s t) = declarations_in 0 s ++ declarations_in 0 t
  declarations_in until (For at x lo b s) = (declares x role.Loop (last_of_bound b) (last_of_statement s) ∷ []) ++ declarations_in 0 s
  declarations_in until (Async at cs s) = declarations_in 0 s
  declarations_in until (Finish at s) = declarations_in 0 s
  declarations_in until _ = []

  pub declarations_all : ℕ → Statements → List Declared
  declarations_all until Done = []
  declarations_all until (More s ss) = declarations_in until s ++ declarations_all until ss

-- ---- programs

abbrev pub param_role : ParamKind → Role
param_role param.Number = role.NumberParam
param_role param.Clock = role.ClockParam

abbrev pub param_declaration : ℕ → ParamValue → Declared
param_declaration until p = declares p.name (param_role p.takes.kind) p.name.at until

abbrev pub param_declarations : ℕ → List ParamValue → List Declared
param_declarations until ps = map (param_declaration until) ps

-- shared numbers, and methods, are visible everywhere
abbrev pub shared_declarations : List SharedValue → List Declared
shared_declarations ss = map (λ s. declares s.name role.Shared s.name.at s.name.at) ss

-- a method, its parameters, and what is declared in its body
abbrev pub method_declarations : MethodValue → List Declared
method_declarations m =
    (declares m.name (role.Method (length m.params)) m.name.at m.name.at ∷ []) ++ (param_declarations m.close m.params ++ declarations_all m.close m.body)

abbrev pub methods_declarations : List MethodValue → List Declared
methods_declarations ms = flat_map method_declarations ms

-- all of a tree
abbrev pub declarations : TreeValue → List Declared
declarations t = shared_declarations t.shared ++ methods_declarations t.methods
