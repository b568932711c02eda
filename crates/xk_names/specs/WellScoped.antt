-- What later passes may rely on in a tree without faults of names: each name that is used is visible, and is what is wanted. This project's own.
use Rattle.std.specs.Prelude.{◌≡◌, ℕ, true, false, List, [], ◌∷◌, ◌++◌, length, Some, None}
use Rattle.xk_tree.specs.declared.fault.FrontFault.{FrontFault}
use Rattle.xk_tree.specs.Tree.{Word, Expression, Statement, Statements, Done, More, Block, If, IfElse, For, Async, Finish, ParamValue, MethodValue, TreeValue}
use Rattle.xk_names.specs.declared.binding.Known.{Known}
use Rattle.xk_names.specs.Scope.{find, has, texts, Has, Declaration, entries, Scope, sees, fits}
use Rattle.xk_names.specs.Uses.{Use, Signatures, signatures, uses, declares, misfits, clocks_given, clocks_listed, calls}
use Rattle.xk_names.specs.Places.{behind}
use Rattle.xk_names.specs.Faults.{declared_before, RepeatsName, RepeatsMethod, HasMain}

-- the name is visible, is what is wanted, and is seen from the body of `async` that uses it
pub record IsRight (sc : Scope) (u : Use) : Type 0 where
  pub known : Known
  pub found : find sc.names u.name.text ≡ Some known
  pub right : fits u.want known.kind ≡ true
  pub seen : sees sc u.name.text known ≡ true

-- a method of as many parameters is there
pub record IsCallable (ms : Signatures) (g : Word) (es : List Expression) : Type 0 where
  pub params : List ParamValue
  pub found : find ms g.text ≡ Some params
  pub count : length params ≡ length es

-- what a statement itself does with names is right
pub record IsSound (ms : Signatures) (sc : Scope) (t : Statement) : Type 0 where
  pub used : (u : Use) → Has (uses ms sc.names t) u → IsRight sc u
  pub new : (d : Declaration) → Has (declares (length sc.bodies) t) d → find sc.names d.name.text ≡ None
  pub fitting : (at : ℕ) → Has (misfits ms t) at → ⊥
  pub callable : (g : Word) (es : List Expression) → calls t ≡ Some (g, es) → IsCallable ms g es
  pub apart : (before : List Word) (c : Word) (after : List Word) → clocks_given ms t ≡ before ++ c ∷ after → has (texts before) c.text ≡ false

-- where these are declared
abbrev pub with_all : Scope → List Declaration → Scope
with_all sc ds = record { names = sc.names ++ entries ds; bodies = sc.bodies }

-- in the body of an `async` that is given these clocks
abbrev pub with_body : Scope → List Word → Scope
with_body sc cs = record { names = sc.names; bodies = texts cs ∷ sc.bodies }

abbrev mutual
  -- so is what the statements do that it holds
  pub IsSoundInside : Signatures → Scope → Statement → Type 0
  IsSoundInside ms sc (Block close ss) = AreSound ms sc ss
  IsSoundInside ms sc (If at l c r s) = IsSound ms sc s × IsSoundInside ms sc s
  IsSoundInside ms sc (IfElse at l c r s t) = (IsSound ms sc s × IsSoundInside ms sc s) × (IsSound ms sc t × IsSoundInside ms sc t)
  IsSoundInside ms sc (For at i lo hi s) =
      let there = with_all sc (declares (length sc.bodies) (For at i lo hi s)) in IsSound ms there s × IsSoundInside ms there s
  IsSoundInside ms sc (Async at cs s) = let there = with_body sc (clocks_listed cs) in IsSound ms there s × IsSoundInside ms there s
  IsSoundInside ms sc (Finish at s) = IsSound ms sc s × IsSoundInside ms sc s
  IsSoundInside ms sc _ = Unit {0}

  -- so are statements one after another
  pub AreSound : Signatures → Scope → Statements → Type 0
  AreSound ms sc Done = Unit {0}
  AreSound ms sc (More s ss) = (IsSound ms sc s × IsSoundInside ms sc s) × AreSound ms (with_all sc (behind (length sc.bodies) s)) ss

-- what a method's body sees where it begins
abbrev pub method_scope : TreeValue → MethodValue → Scope
method_scope t m = record { names = entries (declared_before t m); bodies = [] }

pub record IsScoped (t : TreeValue) : Type 0 where
  pub bodies : (m : MethodValue) → Has t.methods m → AreSound (signatures t.methods) (method_scope t m) m.body
  -- parameters and shared numbers have names of their own, and so have methods
  pub apart : (m : MethodValue) → Has t.methods m → (f : FrontFault) → RepeatsName (declared_before t m) f → ⊥
  pub methods_apart : (f : FrontFault) → RepeatsMethod t.methods f → ⊥
  pub main : HasMain t
