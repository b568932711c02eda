-- Worlds that are found one from another. This project's own.
use Rattle.std.specs.Prelude.{◌≡◌, ℕ, ℤ, ◌<◌, ◌⊎◌, Bool, true, List, [], ◌∷◌, ◌++◌, length, Option, Some, slice_get, map}
use Rattle.std.specs.Option.{option_to_list}
use Rattle.std.specs.Prelude.{if◌then◌else◌}
use Rattle.xk_types.specs.declared.world.Event.{Event}
use Rattle.xk_types.specs.Code.{ModuleValue}
use Rattle.xk_types.specs.World.{World}
use Rattle.xk_types.specs.Step.{Stepped, step}
use Rattle.xk_types.specs.Schedule.{Through, run, all_ended, is_enabled, printed}
use Rattle.xk_closed.specs.Closed.{IsClosed}
use Rattle.xk_outcomes.specs.PrivateSteps.{has_private_step}
use Rattle.xk_core.specs.Core.{CoreValue}
use Rattle.xk_outcomes.specs.Alikeness.{Alikeness, AreAsOne, counted}
use Rattle.xk_outcomes.specs.Found.{FoundValue, at_rest, next}
use Rattle.xk_outcomes.specs.Ways.{LeadsAlone}
use Rattle.xk_readings.specs.declared.edge.Edge.{Edge}
use Rattle.xk_outcomes.specs.declared.order.Order.{Order}
use Rattle.xk_ranks.specs.Reads.{read_part}
use Rattle.xk_rank_digests.specs.RankDigest.{rank_digest}
use Rattle.xk_digests.specs.Digest.{with_numbers}
use Rattle.xk_outcomes.specs.Links.{HasLink, LeadTo}
use Rattle.xk_outcomes.specs.Outcomes.{IsAtRest}
use Rattle.xk_outcomes.specs.Rising.{key}

-- ---- one that was found

-- this schedule leads to its core from the start, and prints its numbers
pub record IsFoundBy (start : CoreValue) (schedule : List ℕ) (x : FoundValue) : Type 0 where
  pub module_is : x.core.module_run ≡ start.module_run
  pub legal : run start.module_run schedule start.world ≡ Through x.core.world
  pub prints : printed start.module_run schedule start.world ≡ x.printed

-- some schedule does
abbrev pub IsFound : CoreValue → FoundValue → Type 0
IsFound start x = (schedule : List ℕ) × IsFoundBy start schedule x

-- these steps are private, and lead from w to v
abbrev pub LeadsPrivately : ModuleValue → List ℕ → World → World → Type 0
LeadsPrivately m [] w v = w ≡ v
LeadsPrivately m (a ∷ list) w v = (has_private_step m w a ≡ true) × (u : World) × (e : Event) × (step m w a ≡ Stepped u e) × LeadsPrivately m list u v

-- whatever start the first schedule led from to x, from there the second one leads to y
abbrev pub LeadsOn : List ℕ → FoundValue → List ℕ → FoundValue → Type 0
LeadsOn old x new y = (start : CoreValue) → IsFoundBy start old x → IsFoundBy start new y

-- ---- all that were found

abbrev pub AreFound : CoreValue → List FoundValue → Type 0
AreFound start all = (k : ℕ) (x : FoundValue) → slice_get all k ≡ Some x → IsFound start x

-- it was found, and then private steps were taken as long as there was one
abbrev pub IsSettled : CoreValue → FoundValue → Type 0
IsSettled start x = (y : FoundValue) × IsFound start y × (x ≡ at_rest y)

abbrev pub AreSettled : CoreValue → List FoundValue → Type 0
AreSettled start all = (k : ℕ) (x : FoundValue) → slice_get all k ≡ Some x → IsSettled start x

-- nobody has a private step in any of their worlds
abbrev pub AreAtRest : List FoundValue → Type 0
AreAtRest all = (k : ℕ) (x : FoundValue) → slice_get all k ≡ Some x → IsAtRest x.core.module_run x.core.world

-- what was there stays where it is
abbrev pub IsGrown : {X : Type 0} → List X → List X → Type 0
IsGrown {X} old new = (k : ℕ) (x : X) → slice_get old k ≡ Some x → slice_get new k ≡ Some x

-- from its world on the same can happen as from this one, and these numbers being printed by then doesn't tell it apart
abbrev pub IsAt : Alikeness → FoundValue → World → List ℤ → Type 0
IsAt like x w numbers = AreAsOne (counted like) w x.core.world × (key like.order x.printed ≡ key like.order numbers)

-- the one of a number is
abbrev pub IsThere : Alikeness → List FoundValue → World → List ℤ → ℕ → Type 0
IsThere like all w numbers k = (x : FoundValue) × (slice_get all k ≡ Some x) × IsAt like x w numbers

-- one of them is
abbrev pub Has : Alikeness → List FoundValue → World → List ℤ → Type 0
Has like all w numbers = (k : ℕ) × IsThere like all w numbers k

-- It was there already, at this number; or it was put behind the others.
abbrev pub IsAdded : Alikeness → List FoundValue → List FoundValue → FoundValue → ℕ → Type 0
IsAdded like old new x k = ((new ≡ old) × IsThere like old x.core.world x.printed k) ⊎ ((new ≡ old ++ x ∷ []) × (k ≡ length old))

-- no two of them are the same
abbrev pub AreDifferent : Alikeness → List FoundValue → Type 0
AreDifferent like all = (i j : ℕ) (x y : FoundValue) → slice_get all i ≡ Some x → slice_get all j ≡ Some y
    → IsAt like x y.core.world y.printed → i ≡ j

-- the digest of one that was found
abbrev pub found_digest : Alikeness → FoundValue → ℕ
found_digest like x =
    if all_ended x.core.world
    then with_numbers 0 (key like.order x.printed)
    else rank_digest (counted like).live (read_part (counted like).rest x.core.world) (key like.order x.printed)

-- their digests
abbrev pub AreDigests : Alikeness → List FoundValue → List ℕ → Type 0
AreDigests like all digests = digests ≡ map (found_digest like) all

-- A step of activity a leads from the one of a number to one of them, and steps behind it to which there was no choice; and so does a link,
-- with what is printed there.
pub record IsAfter (m : ModuleValue) (like : Alikeness) (all : List FoundValue) (links : List Edge) (number : ℕ) (x : FoundValue)
    (a : ℕ) : Type 0 where
  pub there : FoundValue
  pub more : List ℕ
  pub alone : LeadsAlone m more (next a x) there
  pub said : Option ℤ
  pub prints : there.printed ≡ x.printed ++ option_to_list said
  pub to : ℕ
  pub is : IsThere like all there.core.world there.printed to
  pub link : HasLink links number said to

-- so it is where the activity can take a step
abbrev pub HasAfter : ModuleValue → Alikeness → List FoundValue → List Edge → ℕ → FoundValue → ℕ → Type 0
HasAfter m like all links number x a = is_enabled m x.core.world a ≡ true → IsAfter m like all links number x a

-- so it is of each activity of a closed set in which somebody can take a step
pub record HasSetAfter (m : ModuleValue) (like : Alikeness) (all : List FoundValue) (links : List Edge) (number : ℕ) (x : FoundValue) : Type 0 where
  pub set : ℕ → Bool
  pub closed : IsClosed m x.core.world set
  pub free : ℕ
  pub inside : set free ≡ true
  pub enabled : is_enabled m x.core.world free ≡ true
  pub next : (a : ℕ) → set a ≡ true → HasAfter m like all links number x a

-- or of each activity
abbrev pub IsExpanded : ModuleValue → Alikeness → List FoundValue → List Edge → ℕ → FoundValue → Type 0
IsExpanded m like all links number x = HasSetAfter m like all links number x ⊎ ((a : ℕ) → HasAfter m like all links number x a)

-- so it is of each of them before this place
abbrev pub AreExpanded : ModuleValue → Alikeness → List FoundValue → List Edge → ℕ → Type 0
AreExpanded m like all links place = (k : ℕ) (x : FoundValue) → k < place → slice_get all k ≡ Some x → IsExpanded m like all links k x

-- Whatever a legal schedule prints by which all have ended stands along links to one of them, in which all have ended.
abbrev pub AreAllFound : Order → CoreValue → List FoundValue → List Edge → Type 0
AreAllFound order start all links = (list : List ℕ) (w : World) → run start.module_run list start.world ≡ Through w → all_ended w ≡ true
    → (k : ℕ) × (x : FoundValue) × (slice_get all k ≡ Some x) × (all_ended x.core.world ≡ true)
    × (key order x.printed ≡ key order (printed start.module_run list start.world)) × LeadTo links k (printed start.module_run list start.world)
