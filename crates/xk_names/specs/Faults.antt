-- The faults of names that a tree has. The rules are this project's own.
use Rattle.std.specs.Prelude.{◌≡◌, ◌≢◌, ◌⊎◌, ℕ, ◌<◌, ◌≤◌, Bool, true, false, List, [], ◌∷◌, ◌++◌, length, map, Option, Some, None, codes}
use Rattle.std.specs.List.{list_any}
use Rattle.xk_types.specs.declared.unit.ParamKind.{ParamKind}
use Rattle.xk_types.specs.declared.unit.ParamKind.TheVariants as param
use Rattle.xk_tree.specs.declared.fault.FrontRule.{FrontRule}
use Rattle.xk_tree.specs.declared.fault.FrontRule.TheVariants as rule
use Rattle.xk_tree.specs.declared.fault.FrontFault.{FrontFault}
use Rattle.xk_tree.specs.Fault.{front_number}
use Rattle.xk_tree.specs.Tree.{Word, Expression, Statement, ParamValue, MethodValue, SharedValue, TreeValue}
use Rattle.xk_names.specs.declared.binding.Known.{Known}
use Rattle.xk_names.specs.declared.binding.NameKind.{NameKind}
use Rattle.xk_names.specs.declared.binding.NameKind.TheVariants as kind
use Rattle.xk_names.specs.Scope.{find, has, texts, Has, Declaration, declared, entries, Scope, sees, fits}
use Rattle.xk_names.specs.Uses.{Use, Signatures, signatures, uses, declares, misfits, clocks_given, calls}
use Rattle.xk_names.specs.Places.{Way, StandsAmong, declared_among, bodies_among}

abbrev pub fault : FrontRule → ℕ → FrontFault
fault r at = record { rule = r; at = at }

-- The rule against the use of a name that isn't visible. No text has a name without letters: it stands for the clock of a `clocked async` where none is
-- hidden.
abbrev pub invisible_rule : List ℕ → FrontRule
invisible_rule [] = rule.NoHiddenClock
invisible_rule (letter ∷ letters) = rule.UnknownName

-- a statement has the fault, apart from the statements that it holds
pub data Breaks (ms : Signatures) (sc : Scope) (t : Statement) (f : FrontFault) : Type 0 where
  -- a name is used that isn't visible, or a hidden clock where there is none
  NotVisible : (u : Use) → Has (uses ms sc.names t) u → find sc.names u.name.text ≡ None → f ≡ fault (invisible_rule u.name.text) u.name.at → Breaks ms sc t f
  -- a name is used as what it isn't
  OtherKind : (u : Use) (k : Known) → Has (uses ms sc.names t) u → find sc.names u.name.text ≡ Some k → fits u.want k.kind ≡ false → f ≡ fault rule.WrongKind u.name.at
      → Breaks ms sc t f
  -- a body of `async` uses a `var` from outside, or a clock that it isn't given
  NotSeen : (u : Use) (k : Known) → Has (uses ms sc.names t) u → find sc.names u.name.text ≡ Some k → sees sc u.name.text k ≡ false
      → f ≡ fault rule.NotCaptured u.name.at → Breaks ms sc t f
  -- a name is declared that is visible already
  DeclaredAgain : (d : Declaration) (k : Known) → Has (declares (length sc.bodies) t) d → find sc.names d.name.text ≡ Some k → f ≡ fault rule.DuplicateName d.name.at
      → Breaks ms sc t f
  -- a type, a `Clock.make()`, an argument or the second name of an `atomic` is of the wrong kind
  Misfit : (at : ℕ) → Has (misfits ms t) at → f ≡ fault rule.WrongKind at → Breaks ms sc t f
  -- a method is called that doesn't exist
  NoMethod : (g : Word) (es : List Expression) → calls t ≡ Some (g, es) → find ms g.text ≡ None → f ≡ fault rule.UnknownName g.at → Breaks ms sc t f
  -- a call has more or fewer arguments than the method has parameters
  OtherCount : (g : Word) (es : List Expression) (ps : List ParamValue) → calls t ≡ Some (g, es) → find ms g.text ≡ Some ps → length ps ≢ length es
      → f ≡ fault rule.Arity g.at → Breaks ms sc t f
  -- a clock stands in a list, or among a call's arguments, a second time
  ClockAgain : (before : List Word) (c : Word) (after : List Word) → clocks_given ms t ≡ before ++ c ∷ after → has (texts before) c.text ≡ true
      → f ≡ fault rule.SameClockTwice c.at → Breaks ms sc t f

-- ---- programs

abbrev pub shared_declaration : SharedValue → Declaration
shared_declaration s = declared s.name kind.Shared 0

abbrev pub param_kind : ParamKind → NameKind
param_kind param.Number = kind.Val
param_kind param.Clock = kind.Clock

abbrev pub param_declaration : ParamValue → Declaration
param_declaration p = declared p.name (param_kind p.takes.kind) 0

-- what is declared before a method's body: the shared numbers and its parameters
abbrev pub declared_before : TreeValue → MethodValue → List Declaration
declared_before t m = map shared_declaration t.shared ++ map param_declaration m.params

-- what the place at the end of the way into a method's body sees
abbrev pub scope_in : TreeValue → MethodValue → Way → Scope
scope_in t m w = record { names = entries (declared_before t m ++ declared_among 0 m.body w); bodies = bodies_among [] m.body w }

-- a declaration of the list has the name of an earlier one
pub record RepeatsName (ds : List Declaration) (f : FrontFault) : Type 0 where
  pub before : List Declaration
  pub declaration : Declaration
  pub after : List Declaration
  pub stands : ds ≡ before ++ declaration ∷ after
  pub again : has (texts (map (λ d. d.name) before)) declaration.name.text ≡ true
  pub is : f ≡ fault rule.DuplicateName declaration.name.at

-- a method has the name of an earlier one
pub record RepeatsMethod (ms : List MethodValue) (f : FrontFault) : Type 0 where
  pub before : List MethodValue
  pub method : MethodValue
  pub after : List MethodValue
  pub stands : ms ≡ before ++ method ∷ after
  pub again : has (texts (map (λ m. m.name) before)) method.name.text ≡ true
  pub is : f ≡ fault rule.DuplicateName method.name.at

-- a statement of the method's body has the fault
pub record BreaksInside (t : TreeValue) (m : MethodValue) (f : FrontFault) : Type 0 where
  pub way : Way
  pub statement : Statement
  pub stands : StandsAmong m.body way statement
  pub breaks : Breaks (signatures t.methods) (scope_in t m way) statement f

-- the tree has the fault, one of F5, F6, F7, F8, F11, F12 and F15
pub data HasNameFault (t : TreeValue) (f : FrontFault) : Type 0 where
  InShared : RepeatsName (map shared_declaration t.shared) f → HasNameFault t f
  InMethods : RepeatsMethod t.methods f → HasNameFault t f
  InParams : (m : MethodValue) → Has t.methods m → RepeatsName (declared_before t m) f → HasNameFault t f
  InBody : (m : MethodValue) → Has t.methods m → BreaksInside t m f → HasNameFault t f

-- a parameter takes a clock
abbrev pub wants_clock : ParamValue → Bool
wants_clock p = elim p.takes.kind as (λ _. Bool) [ param.Clock ↦ true | param.Number ↦ false ]

-- parameters of a method that a program may begin with
abbrev pub MayBegin : Option (List ParamValue) → Type 0
MayBegin None = ⊥
MayBegin (Some ps) = list_any wants_clock ps ≡ false

-- there is a method `main`, none of whose parameters takes a clock
abbrev pub HasMain : TreeValue → Type 0
HasMain t = MayBegin (find (signatures t.methods) (codes "main"))

abbrev pub no_main : FrontFault
no_main = fault rule.NoMain 0

-- the tree has the fault, one of those or F9
abbrev pub HasFault : TreeValue → FrontFault → Type 0
HasFault t f = HasNameFault t f ⊎ ((HasMain t → ⊥) × (f ≡ no_main))

-- the first stands earlier, or at the same offset with no greater number
abbrev pub IsNoLater : FrontFault → FrontFault → Type 0
IsNoLater f g = (f.at < g.at) ⊎ ((f.at ≡ g.at) × (front_number f.rule ≤ front_number g.rule))

-- the first stands earlier, or at the same offset with the lesser number
abbrev pub IsEarlier : FrontFault → FrontFault → Type 0
IsEarlier f g = (f.at < g.at) ⊎ ((f.at ≡ g.at) × (front_number f.rule < front_number g.rule))

-- what comes behind this fault, among those of names: the first of the tree's that stand later, or none where none does
abbrev pub IsNext : TreeValue → FrontFault → Option FrontFault → Type 0
IsNext t f None = (g : FrontFault) → HasNameFault t g → IsEarlier f g → ⊥
IsNext t f (Some n) = HasNameFault t n × IsEarlier f n × ((g : FrontFault) → HasNameFault t g → IsEarlier f g → IsNoLater n g)

-- The fault is the one of the tree that is reported: the first of F5, F6, F7, F8, F11, F12 and F15, and where there is none of them F9.
pub record IsReported (t : TreeValue) (f : FrontFault) : Type 0 where
  pub there : HasFault t f
  pub first : (g : FrontFault) → HasNameFault t g → HasNameFault t f × IsNoLater f g
