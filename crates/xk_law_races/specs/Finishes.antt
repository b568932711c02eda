-- Which finish governs an activity that ends, and which one is closed, by the worlds of a run. X10 Language Specification 2.4, chapter
-- Activities, Finish: `finish S` waits for the end of all activities that S started, and that these started in turn. A finish is named by
-- who opened it and by how many that one then had open (`World.antt` of `xk_types`): one that is opened later may have the name of one
-- that was closed, but none that is open has the name of another.
use Rattle.std.specs.Prelude.{◌≡◌, ℕ, ℤ, ◌<◌, pred, true, List, length, take, Some, slice_get}
use Rattle.xk_types.specs.declared.world.Entry.{Entry}
use Rattle.xk_types.specs.Code.{ModuleValue}
use Rattle.xk_types.specs.World.{Activity, Finish, World, opening}
use Rattle.xk_types.specs.Step.{innermost, is_under}
use Rattle.xk_types.specs.Schedule.{Through, run}
use Rattle.xk_types.specs.Logs.{schedule_of}
use Rattle.xk_races.specs.declared.deeds.Deed.{Deed}
use Rattle.xk_races.specs.declared.deeds.Part.TheVariants as part
use Rattle.xk_races.specs.Deeds.{deeds_of_run}
use Rattle.xk_races.specs.Order.{IsAt, IsEnd, Before, finish_at}

-- step number n of the run, counted from 1, is taken in this world
abbrev pub IsWorldOf : ModuleValue → List ℤ → List Entry → ℕ → World → Type 0
IsWorldOf m args log n here = run m (take (pred n) (schedule_of log)) (opening m args) ≡ Through here

-- deed number k of the run ends activity x
abbrev pub IsEndOf : ModuleValue → List ℤ → List Entry → ℕ → ℕ → Type 0
IsEndOf m args log k x = (d : Deed) × IsAt (deeds_of_run m args log) k d × (d.part ≡ part.End) × (d.step.act ≡ x)

-- Deed number k of the run ends an activity that the finish governs.
pub record IsEndUnder (m : ModuleValue) (args : List ℤ) (log : List Entry) (k : ℕ) (f : Finish) : Type 0 where
  pub deed : Deed
  pub at : IsAt (deeds_of_run m args log) k deed
  pub ends : deed.part ≡ part.End
  pub here : World
  pub there : IsWorldOf m args log deed.step.number here
  pub who : Activity
  pub found : slice_get here.activities deed.step.act ≡ Some who
  pub governed : who.governed ≡ f

-- Deed number j of the run closes the finish: it is the one that who closes it opened last.
pub record IsCloseOf (m : ModuleValue) (args : List ℤ) (log : List Entry) (j : ℕ) (f : Finish) : Type 0 where
  pub deed : Deed
  pub at : IsAt (deeds_of_run m args log) j deed
  pub closes : deed.part ≡ part.Close
  pub here : World
  pub there : IsWorldOf m args log deed.step.number here
  pub who : Activity
  pub found : slice_get here.activities deed.step.act ≡ Some who
  pub deepest : innermost deed.step.act who ≡ f

-- deed number j is the first one behind number k that closes a finish of this name
abbrev pub IsNextClose : ModuleValue → List ℤ → List Entry → Finish → ℕ → ℕ → Type 0
IsNextClose m args log f k j = (k < j) × IsCloseOf m args log j f × ((i : ℕ) → k < i → i < j → IsCloseOf m args log i f → ⊥)

-- The order of a run has an end right before a close exactly where that is the first close behind it of the finish that governs who ended.
-- (That finish is open as long as this one lives.) And all that are under the finish that is closed have ended before the close in the order,
-- be it by ends and closes in between.
pub record ClosesAreExact (m : ModuleValue) (args : List ℤ) (log : List Entry) : Type 0 where
  pub sound : (k j : ℕ) (e : Deed) → IsAt (deeds_of_run m args log) j e → e.part ≡ part.Close
      → IsEnd (deeds_of_run m args log) j (finish_at (deeds_of_run m args log) j e.step.act) k
      → (f : Finish) × IsEndUnder m args log k f × IsNextClose m args log f k j
  pub complete : (k j : ℕ) (e : Deed) (f : Finish) → IsAt (deeds_of_run m args log) j e → IsEndUnder m args log k f
      → IsNextClose m args log f k j → IsEnd (deeds_of_run m args log) j (finish_at (deeds_of_run m args log) j e.step.act) k
  pub all : (j : ℕ) (f : Finish) (c : IsCloseOf m args log j f) (x : ℕ) → x < length c.here.activities → is_under c.here.activities f x ≡ true
      → (k : ℕ) × IsEndOf m args log k x × Before (deeds_of_run m args log) k j
