-- Races, as the laws over all schedules mean them: two activities can take steps next that conflict. Those that `x10clock races` shows of
-- one run are defined over its log (Races.antt of xk_races); a law of xk_law_races says that a run without any of those has none of these.
use Rattle.std.specs.Prelude.{◌≡◌, ℕ, Bool, true, List}
use Rattle.xk_types.specs.declared.world.Event.{Event}
use Rattle.xk_types.specs.Code.{ModuleValue}
use Rattle.xk_types.specs.World.{World}
use Rattle.xk_types.specs.Step.{Stepped, step}
use Rattle.xk_types.specs.Schedule.{is_enabled}
use Rattle.xk_law_commute.specs.Conflicts.{AreConflictFree}
use Rattle.xk_law_traces.specs.Classes.{IsMet}

-- No schedule of the class of s comes to a world where two activities can take steps that conflict on a shared number. (To look along s
-- alone isn't enough: proofs/Examples.antt.)
abbrev pub HasNoRace : ModuleValue → World → List ℕ → Type 0
HasNoRace m w s = (v : World) → IsMet m w s v → (a b : ℕ) → (b ≡ a → ⊥)
    → is_enabled m v a ≡ true → is_enabled m v b ≡ true → AreConflictFree m v a b

-- No schedule of the class of s comes to a world where two activities can take steps both of whose events pass the test.
abbrev pub HasNeverTwo : (Event → Bool) → ModuleValue → World → List ℕ → Type 0
HasNeverTwo test m w s = (v : World) → IsMet m w s v → (a b : ℕ) → (b ≡ a → ⊥) → (x y : World) (e f : Event)
    → step m v a ≡ Stepped x e → step m v b ≡ Stepped y f → test e ≡ true → test f ≡ true → ⊥
