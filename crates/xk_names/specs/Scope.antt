-- What is visible at a place, and what may be done with it there. The rules are this project's own.
use Rattle.std.specs.Prelude.{◌≡◌, ◌⊎◌, ℕ, nat_eq, Bool, true, false, ◌||◌, List, [], ◌∷◌, length, Option, map}
use Rattle.std.specs.List.{list_any}
use Rattle.std.specs.Cmp.Lexicographic.{pointwise}
use Rattle.std.specs.Map.{lookup}
use Rattle.xk_names.specs.declared.binding.Known.{Known}
use Rattle.xk_names.specs.declared.binding.NameKind.{NameKind}
use Rattle.xk_names.specs.declared.binding.NameKind.TheVariants as kind
use Rattle.xk_names.specs.declared.binding.Want.{Want}
use Rattle.xk_names.specs.declared.binding.Want.TheVariants as want
use Rattle.xk_tree.specs.Tree.{Word}

-- two texts are the same
abbrev pub is_text : List ℕ → List ℕ → Bool
is_text = pointwise nat_eq

-- a text is among some
abbrev pub has : List (List ℕ) → List ℕ → Bool
has texts x = list_any (is_text x) texts

-- texts, each with what it stands for, the oldest first
abbrev pub Table : Type 0 → Type 0
Table A = List (List ℕ × A)

-- what a text stands for, by the first entry that has it
abbrev pub find : {A : Type 0} → Table A → List ℕ → Option A
find table x = lookup (is_text x) table

-- x is an element
abbrev pub Has : {A : Type 0} → List A → A → Type 0
Has [] x = ⊥
Has (y ∷ ys) x = (x ≡ y) ⊎ Has ys x

-- a name that is declared, and what is known of it then
pub record Declaration : Type 0 where
  pub name : Word
  pub known : Known

abbrev pub known : NameKind → ℕ → Known
known k n = record { kind = k; depth = n }

abbrev pub declared : Word → NameKind → ℕ → Declaration
declared w k n = record { name = w; known = known k n }

abbrev pub entry : Declaration → List ℕ × Known
entry d = (d.name.text, d.known)

abbrev pub entries : List Declaration → Table Known
entries = map entry

abbrev pub texts : List Word → List (List ℕ)
texts = map (λ w. w.text)

-- what a place in a method's body sees
pub record Scope : Type 0 where
  -- the declarations whose scopes hold the place
  pub names : Table Known
  -- the bodies of `async` that hold it, the innermost first, each with the clocks that it was given
  pub bodies : List (List (List ℕ))

-- it is declared in the body that holds the place most closely
abbrev pub is_own : Scope → Known → Bool
is_own sc k = nat_eq k.depth (length sc.bodies)

abbrev pub has_first : List (List (List ℕ)) → List ℕ → Bool
has_first [] x = false
has_first (clocks ∷ outer) x = has clocks x

-- a clock that the innermost body was given
abbrev pub is_given : Scope → List ℕ → Bool
is_given sc = has_first sc.bodies

-- Numbers that stay, and shared numbers, are seen in all bodies further in, a `var` only in its own; a clock also where it is given.
abbrev pub sees_as : NameKind → Scope → List ℕ → Known → Bool
sees_as kind.Shared sc x k = true
sees_as kind.Val sc x k = true
sees_as kind.Var sc x k = is_own sc k
sees_as kind.Clock sc x k = is_own sc k || is_given sc x

abbrev pub sees : Scope → List ℕ → Known → Bool
sees sc x k = sees_as k.kind sc x k

abbrev pub is_number : NameKind → Bool
is_number kind.Val = true
is_number kind.Var = true
is_number kind.Shared = false
is_number kind.Clock = false

abbrev pub is_readable : NameKind → Bool
is_readable kind.Val = true
is_readable kind.Var = true
is_readable kind.Shared = true
is_readable kind.Clock = false

abbrev pub is_clock : NameKind → Bool
is_clock kind.Clock = true
is_clock kind.Val = false
is_clock kind.Var = false
is_clock kind.Shared = false

abbrev pub is_assigned : NameKind → Bool
is_assigned kind.Var = true
is_assigned kind.Shared = true
is_assigned kind.Val = false
is_assigned kind.Clock = false

abbrev pub is_shared : NameKind → Bool
is_shared kind.Shared = true
is_shared kind.Val = false
is_shared kind.Var = false
is_shared kind.Clock = false

-- a name of this kind may stand where that is wanted
abbrev pub fits : Want → NameKind → Bool
fits want.Number = is_number
fits want.Readable = is_readable
fits want.Clock = is_clock
fits want.Assigned = is_assigned
fits want.Shared = is_shared
