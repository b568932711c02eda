-- Which steps a pass of a clock waited for, by the worlds of a run. X10 Language Specification 2.4, chapter Clocks: an `advanceAll` blocks
-- until each clock of the activity has advanced, and a clock advances when all that are registered on it have resumed it (Advancing clocks,
-- and the chapter's beginning); dropping, or ending, ends a registration (Dropping clocks). So whoever is registered on a clock holds it: in
-- the phase that it is in, or, where it has resumed the clock, in the next one, in which it is registered, too, if it hasn't left. Who passes
-- in a later phase has waited for the step by which that one let the clock go.
use Rattle.std.specs.Prelude.{◌≡◌, ℕ, ℤ, ◌<◌, ◌≤◌, ◌⊎◌, pred, true, List, Some, slice_get}
use Rattle.xk_types.specs.declared.world.Entry.{Entry}
use Rattle.xk_types.specs.declared.world.Event.TheVariants as event
use Rattle.xk_types.specs.Code.{ModuleValue}
use Rattle.xk_types.specs.World.{World}
use Rattle.xk_types.specs.Step.{Stepped, is_registered, step}
use Rattle.xk_types.specs.Logs.{schedule_of}
use Rattle.xk_law_traces.specs.Edges.{standing_on, phase_of, held_in}
use Rattle.xk_races.specs.declared.deeds.Deed.{Deed}
use Rattle.xk_races.specs.declared.deeds.Part.TheVariants as part
use Rattle.xk_races.specs.Deeds.{deeds_of_run}
use Rattle.xk_races.specs.Order.{IsAt, IsCounted}
use Rattle.xk_law_races.specs.Finishes.{IsWorldOf}

-- the last phase that clock c comes to as long as activity x, where it is registered on the clock in this world, does nothing
abbrev pub phase_held : World → ℕ → ℕ → ℕ
phase_held here x c = held_in (phase_of here c) (standing_on here x c)

-- Activity x is registered on clock c in this world, and doesn't let it go further than phase p.
pub record IsHeld (here : World) (x c p : ℕ) : Type 0 where
  pub registered : is_registered (standing_on here x c) ≡ true
  pub held : phase_held here x c ≡ p

-- Deed number k of the run is one by which activity x lets clock c go: x was registered on it, and didn't let it go further than phase p.
pub record IsLetGo (m : ModuleValue) (args : List ℤ) (log : List Entry) (k x c p : ℕ) : Type 0 where
  pub deed : Deed
  pub at : IsAt (deeds_of_run m args log) k deed
  pub lets : (deed.part ≡ part.Signal c) ⊎ (deed.part ≡ part.Leave c)
  pub mine : deed.step.act ≡ x
  pub here : World
  pub there : IsWorldOf m args log deed.step.number here
  pub holds : IsHeld here x c p

-- Deed number j of the run passes clock c, which is in phase q there.
pub record IsPassOf (m : ModuleValue) (args : List ℤ) (log : List Entry) (j c q : ℕ) : Type 0 where
  pub deed : Deed
  pub at : IsAt (deeds_of_run m args log) j deed
  pub passes : deed.part ≡ part.Pass c
  pub here : World
  pub there : IsWorldOf m args log deed.step.number here
  pub registered : is_registered (standing_on here deed.step.act c) ≡ true
  pub phase : phase_of here c ≡ q

-- By step number n of the run, counted from 1, activity a passes an `advance`, registered on clock c, which is in phase q there.
pub record IsStepPast (m : ModuleValue) (args : List ℤ) (log : List Entry) (n a c q : ℕ) : Type 0 where
  pub some : 0 < n
  pub whose : slice_get (schedule_of log) (pred n) ≡ Some a
  pub here : World
  pub there : IsWorldOf m args log n here
  pub next : World
  pub passes : step m here a ≡ Stepped next event.Passed
  pub registered : is_registered (standing_on here a c) ≡ true
  pub phase : phase_of here c ≡ q

-- The order of a run has a deed at a clock right before a pass of that clock exactly where by that deed somebody let the clock go who had
-- held it in an earlier phase. Whoever holds it in an earlier phase, in any world of the run, lets it go by such a deed, in that world or
-- later: nobody who had to do something is forgotten. And each pass is a deed, for each clock on which who passes is registered.
pub record PassesAreExact (m : ModuleValue) (args : List ℤ) (log : List Entry) : Type 0 where
  pub sound : (k j c : ℕ) (e : Deed) → IsAt (deeds_of_run m args log) j e → e.part ≡ part.Pass c → IsCounted (deeds_of_run m args log) j c k
      → (x p q : ℕ) × IsLetGo m args log k x c p × IsPassOf m args log j c q × (p < q)
  pub complete : (k j x c p q : ℕ) → IsLetGo m args log k x c p → IsPassOf m args log j c q → p < q
      → IsCounted (deeds_of_run m args log) j c k
  pub all : (n j x c p q : ℕ) (here : World) → IsWorldOf m args log n here → IsHeld here x c p → IsPassOf m args log j c q → p < q
      → (k : ℕ) × (l : IsLetGo m args log k x c p) × (n ≤ l.deed.step.number)
  pub each : (n a c q : ℕ) → IsStepPast m args log n a c q
      → (j : ℕ) × (r : IsPassOf m args log j c q) × (r.deed.step.act ≡ a) × (r.deed.step.number ≡ n)
