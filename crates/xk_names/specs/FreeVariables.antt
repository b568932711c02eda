-- The free variables of the body of an `async`: the numbers that it uses and that are declared outside of it. This project's own.
use Rattle.std.specs.Prelude.{◌≡◌, ◌↔◌, ℕ, ◌<◌, ◌≤◌, List, ◌∷◌, ◌++◌, length, Option, Some}
use Rattle.xk_tree.specs.declared.fault.FrontFault.{FrontFault}
use Rattle.xk_tree.specs.Tree.{Clocks, Statement, Async, MethodValue, TreeValue}
use Rattle.xk_names.specs.declared.binding.Known.{Known}
use Rattle.xk_names.specs.declared.binding.NameKind.TheVariants as kind
use Rattle.xk_names.specs.Scope.{find, Has, Scope}
use Rattle.xk_names.specs.Uses.{Use, Signatures, signatures, uses}
use Rattle.xk_names.specs.Places.{Way, Here, First, Later, Inside, Else, StandsAmong}
use Rattle.xk_names.specs.Faults.{scope_in, HasNameFault}
use Rattle.xk_names.specs.Captures.{shared_texts, captures}

-- a body of `async` in a method of the tree
pub record Body (t : TreeValue) : Type 0 where
  pub method : MethodValue
  pub there : Has t.methods method
  pub way : Way
  pub at : ℕ
  pub clocks : Option Clocks
  pub statement : Statement
  pub stands : StandsAmong method.body way (Async at clocks statement)

-- a way, and from its end on another
abbrev pub onward : Way → Way → Way
onward Here v = v
onward (First w) v = First (onward w v)
onward (Later w) v = Later (onward w v)
onward (Inside w) v = Inside (onward w v)
onward (Else w) v = Else (onward w v)

-- the way from the method on to a place in the body, which is given by the way from the body on
abbrev pub way_in : (t : TreeValue) → Body t → Way → Way
way_in t b v = onward b.way (Inside v)

-- what that place sees
abbrev pub scope_of : (t : TreeValue) → Body t → Way → Scope
scope_of t b v = scope_in t b.method (way_in t b v)

-- an occurrence of a name in the body, or in a body within: the use that a statement makes of it behind these of its uses
pub record Occurrence (t : TreeValue) (b : Body t) : Type 0 where
  pub way : Way
  pub statement : Statement
  pub stands : StandsAmong b.method.body (way_in t b way) statement
  pub before : List Use
  pub used : Use
  pub after : List Use
  pub uses_are : uses (signatures t.methods) (scope_of t b way).names statement ≡ before ++ used ∷ after

-- It is free: it means a number that stays (a `val`, a number parameter or a loop's name), and that is declared outside of the body.
pub record IsFree (t : TreeValue) (b : Body t) (o : Occurrence t b) : Type 0 where
  pub known : Known
  pub means : find (scope_of t b o.way).names o.used.name.text ≡ Some known
  pub stays : known.kind ≡ kind.Val
  pub outside : known.depth ≤ length (scope_in t b.method b.way).bodies

-- the name is a free variable of the body
pub record OccursFree (t : TreeValue) (b : Body t) (x : List ℕ) : Type 0 where
  pub place : Occurrence t b
  pub free : IsFree t b place
  pub name : place.used.name.text ≡ x

-- The order of the text, in which a statement's own uses stand before those of the statements that it holds: the use behind i others of the
-- statement at the end of the one way stands before that behind j others at the end of the other.
abbrev pub StandsBefore : Way → ℕ → Way → ℕ → Type 0
StandsBefore Here i Here j = i < j
StandsBefore Here i _ j = Unit {0}
StandsBefore (First v) i (First w) j = StandsBefore v i w j
StandsBefore (First v) i (Later w) j = Unit {0}
StandsBefore (Later v) i (Later w) j = StandsBefore v i w j
StandsBefore (Inside v) i (Inside w) j = StandsBefore v i w j
StandsBefore (Inside v) i (Else w) j = Unit {0}
StandsBefore (Else v) i (Else w) j = StandsBefore v i w j
StandsBefore _ i _ j = ⊥

abbrev pub IsEarlier : (t : TreeValue) (b : Body t) → Occurrence t b → Occurrence t b → Type 0
IsEarlier t b o p = StandsBefore o.way (length o.before) p.way (length p.before)

-- the name is a free variable, and what occurs free before it are these alone
pub record ComesNext (t : TreeValue) (b : Body t) (these : List (List ℕ)) (x : List ℕ) : Type 0 where
  pub first : OccursFree t b x
  pub earlier : (o : Occurrence t b) → IsFree t b o → IsEarlier t b o first.place → Has these o.used.name.text

-- what the code takes for them
abbrev pub captured : (t : TreeValue) → Body t → List (List ℕ)
captured t b = captures (signatures t.methods) (shared_texts t.shared) b.statement

-- ---- the laws

abbrev pub HasNoNameFault : TreeValue → Type 0
HasNoNameFault t = (f : FrontFault) → HasNameFault t f → ⊥

-- a body takes exactly its free variables
abbrev pub TakesFree : Type 0
TakesFree = (t : TreeValue) → HasNoNameFault t → (b : Body t) (x : List ℕ) → Has (captured t b) x ↔ OccursFree t b x

-- each once
abbrev pub TakesOnce : Type 0
TakesOnce = (ms : Signatures) (shared : List (List ℕ)) (s : Statement) (before : List (List ℕ)) (x : List ℕ) (after : List (List ℕ))
    → captures ms shared s ≡ before ++ x ∷ after → Has before x → ⊥

-- in the order of their first free occurrences
abbrev pub TakesInOrder : Type 0
TakesInOrder = (t : TreeValue) → HasNoNameFault t → (b : Body t) (before : List (List ℕ)) (x : List ℕ) (after : List (List ℕ))
    → captured t b ≡ before ++ x ∷ after → ComesNext t b before x
