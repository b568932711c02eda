-- What one run without a race tells of others.
use Rattle.std.specs.Prelude.{◌≡◌, ℕ, ℤ, Bool, true, false, List, map, ◌++◌, All}
use Rattle.xk_types.specs.declared.instr.Instr.{Instr}
use Rattle.xk_types.specs.declared.instr.Instr.TheVariants as instr
use Rattle.xk_types.specs.Code.{UnitValue, ModuleValue}
use Rattle.xk_types.specs.World.{World, opening}
use Rattle.xk_types.specs.Schedule.{Through, run, all_ended}
use Rattle.xk_law_names.specs.Names.{Exchange, all_named, AreSameBy}
use Rattle.xk_law_traces.specs.Moments.{moments, printed_by, printed_at, times_printed, started_by}
use Rattle.xk_law_traces.specs.Classes.{AreOneClass, names_along, name_in}

-- Schedule t, which is of the class of s, is legal; it leads to the world to which s leads, but for names; and each activity has, by its
-- number there, the same events in the same order, and starts the same activities, by their numbers there. Each number is printed as often.
pub record GoesAsWell (m : ModuleValue) (w : World) (s t : List ℕ) (member : AreOneClass m w s t) (z : World) : Type 0 where
  pub last : World
  pub legal : run m t w ≡ Through last
  pub alike : AreSameBy (names_along member.between) z last
  pub same : (a : ℕ) → moments m s w a ≡ moments m t w (name_in member a)
  pub starts : (a : ℕ) → map (name_in member) (started_by m s w a) ≡ started_by m t w (name_in member a)
  pub numbers : (n : ℤ) → times_printed m s w n ≡ times_printed m t w n

-- a schedule of the class of s begins with t
pub record IsBegun (m : ModuleValue) (w : World) (s t : List ℕ) : Type 0 where
  pub rest : List ℕ
  pub member : AreOneClass m w s (t ++ rest)

-- this schedule of the module with these arguments is one by which all have ended, and leads to world z
pub record IsWholeRun (m : ModuleValue) (args : List ℤ) (s : List ℕ) (z : World) : Type 0 where
  pub legal : run m s (opening m args) ≡ Through z
  pub ended : all_ended z ≡ true

-- Two whole runs of a module with these arguments have the same shared numbers at the end, and each activity, by its number there, prints
-- the same in both. Numbers of activities are exchanged between neighbours, so that no two become one; main keeps its own; and what an
-- activity starts first, second and so on in one run it starts so in the other. So an activity is known by its path from main, who started
-- it and as which: by that it prints the same. Whoever prints it, and when, each number is printed as often in both.
pub record ComeToOne (m : ModuleValue) (args : List ℤ) (s t : List ℕ) (y z : World) : Type 0 where
  pub names : List Exchange
  pub main : all_named names 0 ≡ 0
  pub cells : y.cells ≡ z.cells
  pub starts : (a : ℕ) → map (all_named names) (started_by m s (opening m args) a) ≡ started_by m t (opening m args) (all_named names a)
  pub prints : (a : ℕ) → printed_by m s (opening m args) a ≡ printed_by m t (opening m args) (all_named names a)
  pub paths : (path : List ℕ) → printed_at m s (opening m args) path ≡ printed_at m t (opening m args) path
  pub numbers : (n : ℤ) → times_printed m s (opening m args) n ≡ times_printed m t (opening m args) n

-- it reads a shared number, or writes it whatever it was
abbrev pub gets_or_puts : Instr → Bool
gets_or_puts (instr.Get d s) = true
gets_or_puts (instr.Put s x) = true
gets_or_puts _ = false

-- no instruction of the unit does: it adds to shared numbers at most
abbrev pub AddsInUnit : UnitValue → Type 0
AddsInUnit u = All (λ i. gets_or_puts i ≡ false) u.code

-- no instruction of the module does
abbrev pub AddsAtMost : ModuleValue → Type 0
AddsAtMost m = All AddsInUnit m.units
