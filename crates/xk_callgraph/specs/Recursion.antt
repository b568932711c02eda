-- Calls that lead back to the method that makes them. X10 has recursion; that a program here has none is this project's own.
use Rattle.std.specs.Prelude.{◌≡◌, ◌⊎◌, ℕ, suc, List, [], ◌∷◌, Option, Some, None, slice_get, codes, if◌then◌else◌}
use Rattle.xk_tree.specs.declared.fault.FrontRule.TheVariants as rule
use Rattle.xk_tree.specs.declared.fault.FrontFault.{FrontFault}
use Rattle.xk_tree.specs.Tree.{Word, Expression, Call, MethodValue, TreeValue}
use Rattle.xk_names.specs.Scope.{is_text}
use Rattle.xk_names.specs.Places.{Way, StandsAmong}
use Rattle.xk_names.specs.Faults.{fault}

-- the number of the first method that has the name, where the first of these has number i
abbrev pub number_among : ℕ → List MethodValue → List ℕ → Option ℕ
number_among i [] x = None
number_among i (m ∷ ms) x = if is_text x m.name.text then Some i else number_among (suc i) ms x

-- the number of the method that a name means
abbrev pub method_number : TreeValue → List ℕ → Option ℕ
method_number t x = number_among 0 t.methods x

-- Method number d has a call with this name: in its body, the bodies of `async` and the loops without a turn in it included.
pub record HasCall (t : TreeValue) (d : ℕ) (g : Word) : Type 0 where
  pub method : MethodValue
  pub is : slice_get t.methods d ≡ Some method
  pub way : Way
  pub paren : ℕ
  pub arguments : List Expression
  pub stands : StandsAmong method.body way (Call g paren arguments)

-- method d calls method e by this name
abbrev pub CallsBy : TreeValue → ℕ → Word → ℕ → Type 0
CallsBy t d g e = HasCall t d g × (method_number t g.text ≡ Some e)

-- calls lead from method d through these methods to method e
abbrev pub LeadTo : TreeValue → List ℕ → ℕ → ℕ → Type 0
LeadTo t [] d e = d ≡ e
LeadTo t (n ∷ ns) d e = ((g : Word) × CallsBy t d g n) × LeadTo t ns n e

-- method e is d itself, or is reached from it by calls
abbrev pub IsReached : TreeValue → ℕ → ℕ → Type 0
IsReached t d e = (ns : List ℕ) × LeadTo t ns d e

-- `main` is called
pub record IsMainCalled (t : TreeValue) (f : FrontFault) : Type 0 where
  pub caller : ℕ
  pub name : Word
  pub has_call : HasCall t caller name
  pub is_main : name.text ≡ codes "main"
  pub is : f ≡ fault rule.Recursive name.at

-- a method is called from which the method that calls is reached again
pub record ComesBack (t : TreeValue) (f : FrontFault) : Type 0 where
  pub caller : ℕ
  pub called : ℕ
  pub name : Word
  pub calls : CallsBy t caller name called
  pub reaches : IsReached t called caller
  pub is : f ≡ fault rule.Recursive name.at

-- the tree has the fault F10
abbrev pub HasRecursion : TreeValue → FrontFault → Type 0
HasRecursion t f = IsMainCalled t f ⊎ ComesBack t f
