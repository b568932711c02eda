-- Schedules that differ in the order of steps that commute alone, which are one run as far as anybody can see. In the field these are the
-- traces of Mazurkiewicz. Steps commute here up to names: two may make a clock each, or start an activity each, in either order.
use Rattle.std.specs.Prelude.{◌≡◌, ℕ, List, [], ◌∷◌, ◌++◌, map}
use Rattle.xk_types.specs.declared.world.Event.{Event}
use Rattle.xk_types.specs.Code.{ModuleValue}
use Rattle.xk_types.specs.World.{World}
use Rattle.xk_types.specs.Step.{Stepped, step}
use Rattle.xk_types.specs.Schedule.{Through, run}
use Rattle.xk_law_commute.specs.Conflicts.{AreConflictFree}
use Rattle.xk_law_names.specs.Names.{Exchange, all_named, exchange_of}

-- Here activities a and b can both take a step, and the two don't conflict on a shared number: so they commute.
pub record DoCommute (m : ModuleValue) (w : World) (a b : ℕ) : Type 0 where
  pub differ : b ≡ a → ⊥
  pub first_world : World
  pub first_event : Event
  pub first_steps : step m w a ≡ Stepped first_world first_event
  pub second_world : World
  pub second_event : Event
  pub second_steps : step m w b ≡ Stepped second_world second_event
  pub apart : AreConflictFree m w a b

-- Of two schedules from world w, the second has two neighbours of the first in the other order, whose steps commute where the first
-- comes to them; what follows names activities as that order has them, by these exchanges.
pub record AreSwapped (m : ModuleValue) (w : World) (s : List ℕ) (names : List Exchange) (t : List ℕ) : Type 0 where
  pub before : List ℕ
  pub first : ℕ
  pub second : ℕ
  pub after : List ℕ
  pub here : World
  pub leads : run m before w ≡ Through here
  pub commute : DoCommute m here first second
  pub exchanges : names ≡ exchange_of m here first second
  pub this : s ≡ before ++ first ∷ second ∷ after
  pub other : t ≡ before ++ second ∷ first ∷ map (all_named names) after

-- exchanges, and a schedule to which they lead
abbrev pub Turn : Type 0
Turn = List Exchange × List ℕ

-- from s to each of these schedules in turn, and then to t
abbrev pub AreJoined : ModuleValue → World → List ℕ → List Turn → List ℕ → Type 0
AreJoined m w s [] t = s ≡ t
AreJoined m w s (u ∷ us) t = AreSwapped m w s u.0 u.1 × AreJoined m w u.1 us t

-- Some swaps lead from one schedule to the other: they are in one class.
pub record AreOneClass (m : ModuleValue) (w : World) (s t : List ℕ) : Type 0 where
  pub between : List Turn
  pub joined : AreJoined m w s between t

-- all exchanges along that way
abbrev pub names_along : List Turn → List Exchange
names_along [] = []
names_along (u ∷ us) = u.0 ++ names_along us

-- the number in t of the activity that is a in s
abbrev pub name_in : {m : ModuleValue} {w : World} {s t : List ℕ} → AreOneClass m w s t → ℕ → ℕ
name_in h a = all_named (names_along h.between) a

-- a schedule of the class of s comes to world v
pub record IsMet (m : ModuleValue) (w : World) (s : List ℕ) (v : World) : Type 0 where
  pub before : List ℕ
  pub after : List ℕ
  pub member : AreOneClass m w s (before ++ after)
  pub leads : run m before w ≡ Through v
