-- What a statement does with names, apart from the statements that it holds. This project's own.
use Rattle.std.specs.Prelude.{ℕ, Bool, true, false, List, [], ◌∷◌, ◌++◌, Option, Some, None, map, if◌then◌else◌, unwrap_or}
use Rattle.std.specs.List.{flat_map}
use Rattle.std.specs.Option.{option_map_or}
use Rattle.xk_types.specs.declared.unit.ParamKind.{ParamKind}
use Rattle.xk_types.specs.declared.unit.ParamKind.TheVariants as param
use Rattle.xk_tree.specs.declared.tree.Binding.{Binding}
use Rattle.xk_tree.specs.declared.tree.Binding.TheVariants as binding
use Rattle.xk_tree.specs.declared.tree.TypeName.{TypeName}
use Rattle.xk_tree.specs.declared.tree.Number.{Number}
use Rattle.xk_tree.specs.Tree.{Word, Clocks, Expression, Literal, Named, Paren, Negation, Binary, Source, Make, Value, Bound, UpTo, Least, ParamValue, MethodValue, Statement, Declare, Assign, Atomic, If, IfElse, For, Async, Call, Resume, Drop, Print}
use Rattle.xk_names.specs.declared.binding.Known.{Known}
use Rattle.xk_names.specs.declared.binding.NameKind.{NameKind}
use Rattle.xk_names.specs.declared.binding.NameKind.TheVariants as kind
use Rattle.xk_names.specs.declared.binding.Want.{Want}
use Rattle.xk_names.specs.declared.binding.Want.TheVariants as want
use Rattle.xk_names.specs.Scope.{Table, find, is_text, Declaration, declared}

-- a name that is used, and what it is used as
pub record Use : Type 0 where
  pub name : Word
  pub want : Want

abbrev pub use_as : Want → Word → Use
use_as w x = record { name = x; want = w }

-- methods by their names, with their parameters
abbrev pub Signatures : Type 0
Signatures = Table (List ParamValue)

abbrev pub signature : MethodValue → List ℕ × List ParamValue
signature m = (m.name.text, m.params)

abbrev pub signatures : List MethodValue → Signatures
signatures = map signature

-- ---- expressions

-- the names of an expression; each has to be a number's
abbrev pub numbers : Expression → List Use
numbers (Literal n) = []
numbers (Named x) = use_as want.Number x ∷ []
numbers (Paren at e) = numbers e
numbers (Negation at e) = numbers e
numbers (Binary o l at r) = numbers l ++ numbers r

-- the same where a shared number may stand alone
abbrev pub values : Expression → List Use
values (Named x) = use_as want.Readable x ∷ []
values e = numbers e

abbrev pub number_start : Number → ℕ
number_start n = unwrap_or n.minus n.at

-- where an expression begins
abbrev pub start_of : Expression → ℕ
start_of (Literal n) = number_start n
start_of (Named x) = x.at
start_of (Paren at e) = at
start_of (Negation at e) = at
start_of (Binary o l at r) = start_of l

-- ---- arguments

-- arguments beside the kinds of their parameters
abbrev pub Given : Type 0
Given = List (ParamKind × Expression)

abbrev pub given : List ParamValue → List Expression → Given
given [] es = []
given (p ∷ ps) [] = []
given (p ∷ ps) (e ∷ es) = (p.takes.kind, e) ∷ given ps es

-- a clock is given by its bare name
abbrev pub argument_uses : ParamKind → Expression → List Use
argument_uses param.Number e = numbers e
argument_uses param.Clock (Named x) = use_as want.Clock x ∷ []
argument_uses param.Clock e = numbers e

-- where an argument begins that had to be a clock's bare name
abbrev pub argument_misfits : ParamKind → Expression → List ℕ
argument_misfits param.Number e = []
argument_misfits param.Clock (Named x) = []
argument_misfits param.Clock e = start_of e ∷ []

abbrev pub argument_clocks : ParamKind → Expression → List Word
argument_clocks param.Number e = []
argument_clocks param.Clock (Named x) = x ∷ []
argument_clocks param.Clock e = []

-- what a method of these parameters, if there is one, is given
abbrev pub given_to : Option (List ParamValue) → List Expression → Given
given_to None es = []
given_to (Some ps) es = given ps es

-- ---- statements

abbrev pub clocks_listed : Option Clocks → List Word
clocks_listed None = []
clocks_listed (Some l) = l.names

abbrev pub source_uses : Source → List Use
source_uses (Make at v) = []
source_uses (Value e) = values e

-- those of a loop's bound
abbrev pub bound_uses : Bound → List Use
bound_uses (UpTo n) = []
bound_uses (Least x v e n) = numbers e

abbrev pub is_var : Option Known → Bool
is_var k = option_map_or (λ j. elim j.kind as (λ _. Bool) [ kind.Var ↦ true | kind.Val ↦ false | kind.Shared ↦ false | kind.Clock ↦ false ]) k false

-- what is assigned to a name; a shared number may stand alone behind a `var`
abbrev pub assigned_uses : Option Known → Expression → List Use
assigned_uses k e = if is_var k then values e else numbers e

-- the names that a statement uses, where a table says what names stand for
abbrev pub uses : Signatures → Table Known → Statement → List Use
uses ms names (Declare b x ty r) = source_uses r
uses ms names (Assign x e) = use_as want.Assigned x ∷ assigned_uses (find names x.text) e
uses ms names (Atomic x y at e) = use_as want.Shared x ∷ use_as want.Shared y ∷ numbers e
uses ms names (If at l c r s) = numbers l ++ numbers r
uses ms names (IfElse at l c r s t) = numbers l ++ numbers r
uses ms names (For at i lo b s) = bound_uses b
uses ms names (Async at cs s) = map (use_as want.Clock) (clocks_listed cs)
uses ms names (Call g at es) = flat_map (λ a. argument_uses a.0 a.1) (given_to (find ms g.text) es)
uses ms names (Resume c v) = use_as want.Clock c ∷ []
uses ms names (Drop c v) = use_as want.Clock c ∷ []
uses ms names (Print at v e) = numbers e
uses ms names _ = []

abbrev pub kind_of : Binding → Source → NameKind
kind_of b (Make at v) = kind.Clock
kind_of binding.Val (Value e) = kind.Val
kind_of binding.Var (Value e) = kind.Var
kind_of binding.Hidden (Value e) = kind.Val

-- the name of a loop's limit
abbrev pub bound_declares : ℕ → Bound → List Declaration
bound_declares n (UpTo hi) = []
bound_declares n (Least x v e hi) = declared x kind.Val n ∷ []

-- the names that a statement declares, within so many bodies of `async`
abbrev pub declares : ℕ → Statement → List Declaration
declares n (Declare b x ty r) = declared x (kind_of b r) n ∷ []
declares n (For at i lo b s) = declared i kind.Val n ∷ bound_declares n b
declares n _ = []

-- the type of a declaration, where it isn't that of what stands behind the `=`
abbrev pub type_misfits : Option TypeName → Source → List ℕ
type_misfits None r = []
type_misfits (Some ty) (Make at v) = elim ty.kind as (λ _. List ℕ) [ param.Clock ↦ [] | param.Number ↦ ty.at ∷ [] ]
type_misfits (Some ty) (Value e) = elim ty.kind as (λ _. List ℕ) [ param.Number ↦ [] | param.Clock ↦ ty.at ∷ [] ]

-- a clock that is made for a `var`
abbrev pub make_misfits : Binding → Source → List ℕ
make_misfits binding.Var (Make at v) = at ∷ []
make_misfits binding.Var (Value e) = []
make_misfits binding.Val r = []
make_misfits binding.Hidden r = []

-- where a loop's limit has the loop's own name; those of texts never have
abbrev pub bound_misfits : Word → Bound → List ℕ
bound_misfits i (UpTo n) = []
bound_misfits i (Least x v e n) = if is_text x.text i.text then x.at ∷ [] else []

-- where something of the wrong kind stands that isn't a name alone
abbrev pub misfits : Signatures → Statement → List ℕ
misfits ms (Declare b x ty r) = type_misfits ty r ++ make_misfits b r
misfits ms (Atomic x y at e) = if is_text x.text y.text then [] else y.at ∷ []
misfits ms (For at i lo b s) = bound_misfits i b
misfits ms (Call g at es) = flat_map (λ a. argument_misfits a.0 a.1) (given_to (find ms g.text) es)
misfits ms _ = []

-- the clocks that a method or an activity is given together
abbrev pub clocks_given : Signatures → Statement → List Word
clocks_given ms (Async at cs s) = clocks_listed cs
clocks_given ms (Call g at es) = flat_map (λ a. argument_clocks a.0 a.1) (given_to (find ms g.text) es)
clocks_given ms _ = []

-- the method that is called, with the arguments
abbrev pub calls : Statement → Option (Word × List Expression)
calls (Call g at es) = Some (g, es)
calls _ = None
