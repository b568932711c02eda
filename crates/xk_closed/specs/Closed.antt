-- Sets of activities whose steps suffice: as long as nobody of such a set moves, what others do has nothing to do with the steps that these
-- are about to take. In the field they are persistent sets, or strong stubborn sets. And exploration by such sets, up to worlds that are
-- the same in some way.
use Rattle.std.specs.Prelude.{◌≡◌, ℕ, ℤ, ◌⊎◌, Bool, true, false, List, [], ◌∷◌, ◌++◌, None}
use Rattle.std.specs.Option.{option_to_list}
use Rattle.xk_types.specs.declared.world.Event.{Event}
use Rattle.xk_types.specs.Code.{ModuleValue}
use Rattle.xk_types.specs.World.{World}
use Rattle.xk_types.specs.Step.{Stepped, step}
use Rattle.xk_types.specs.Schedule.{Through, run, IsReached, is_enabled, all_ended, number_printed}
use Rattle.xk_law_commute.specs.Conflicts.{AreConflictFree}

-- nobody of the set takes one of these steps
abbrev pub AreOutside : (ℕ → Bool) → List ℕ → Type 0
AreOutside set [] = Unit {0}
AreOutside set (b ∷ list) = (set b ≡ false) × AreOutside set list

-- one of the two prints nothing
abbrev pub NotBothPrint : Event → Event → Type 0
NotBothPrint e f = (number_printed e ≡ None) ⊎ (number_printed f ≡ None)

-- As long as others move alone: no step of another's conflicts with a step of one of the set, nor do both print; and nobody of the set can
-- take a step who couldn't at first.
pub record IsClosed (m : ModuleValue) (w : World) (set : ℕ → Bool) : Type 0 where
  pub apart : (list : List ℕ) (v : World) → AreOutside set list → run m list w ≡ Through v → (a b : ℕ) → set a ≡ true → set b ≡ false
      → (x y : World) (e f : Event) → step m v a ≡ Stepped x e → step m v b ≡ Stepped y f → AreConflictFree m v b a × NotBothPrint e f
  pub held : (list : List ℕ) (v x : World) (e : Event) → AreOutside set list → run m list w ≡ Through v → (a : ℕ) → set a ≡ true
      → step m v a ≡ Stepped x e → is_enabled m w a ≡ true

-- as long as nobody of the set moves, activity r takes no step
abbrev pub IsStuck : ModuleValue → World → (ℕ → Bool) → ℕ → Type 0
IsStuck m w set r = (list : List ℕ) (v x : World) (e : Event) → AreOutside set list → run m list w ≡ Through v → step m v r ≡ Stepped x e
    → ⊥

-- ---- exploration

-- Who can take a step in one of two worlds that are the same can take one in the other, by a number of its own there, with the same event,
-- to worlds that are the same; and all have ended in both or in neither.
pub record IsCarried (m : ModuleValue) (Same : World → World → Type 0) : Type 0 where
  pub steps : (w v u : World) (a : ℕ) (e : Event) → IsReached m w → Same w v → step m w a ≡ Stepped u e
      → (b : ℕ) × (z : World) × (step m v b ≡ Stepped z e) × Same u z
  pub ends : (w v : World) → Same w v → all_ended w ≡ all_ended v

-- one was found that is the same, these numbers being printed by then
pub record HasSame (Same : World → World → Type 0) (Found : World → List ℤ → Type 0) (w : World) (numbers : List ℤ) : Type 0 where
  pub other : World
  pub found : Found other numbers
  pub same : Same w other

-- where activity a can take a step here, one was found that is the same as where that leads
abbrev pub HasNextSame : ModuleValue → (World → World → Type 0) → (World → List ℤ → Type 0) → World → List ℤ → ℕ → Type 0
HasNextSame m Same Found w numbers a = (u : World) (e : Event) → step m w a ≡ Stepped u e
    → HasSame Same Found u (numbers ++ option_to_list (number_printed e))

-- from here others were found by the steps of a closed set, in which somebody can take one
pub record HasClosed (m : ModuleValue) (Same : World → World → Type 0) (Found : World → List ℤ → Type 0) (w : World)
    (numbers : List ℤ) : Type 0 where
  pub set : ℕ → Bool
  pub closed : IsClosed m w set
  pub free : ℕ
  pub inside : set free ≡ true
  pub enabled : is_enabled m w free ≡ true
  pub next : (a : ℕ) → set a ≡ true → HasNextSame m Same Found w numbers a

-- from each that was found others were: by the steps of a closed set, or by each step
abbrev pub AreExploredBySets : ModuleValue → (World → World → Type 0) → (World → List ℤ → Type 0) → Type 0
AreExploredBySets m Same Found = (w : World) (numbers : List ℤ) → Found w numbers
    → HasClosed m Same Found w numbers ⊎ ((a : ℕ) → HasNextSame m Same Found w numbers a)
