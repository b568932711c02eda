-- How far a search for outcomes goes. This project's own.
use Rattle.std.specs.Prelude.{◌≡◌, ℕ, ℤ, ◌+◌, ◌/◌, ◌<◌, ◌≤◌, ◌⊎◌, min, max, Bool, false, List, length, Option, unwrap_or}
use Rattle.xk_types.specs.Code.{ModuleValue}
use Rattle.xk_ranks.specs.Reads.{Counting, IsCounting}
use Rattle.xk_outcomes.specs.declared.all_outcomes.Limit.{Limit}
use Rattle.xk_outcomes.specs.declared.listing.Outcome.{Outcome}
use Rattle.xk_outcomes.specs.PlainRuns.{plain_runs}
use Rattle.xk_outcomes.specs.Sets.{AreApartAs, AreEndsListedAs}

-- As soon as more worlds are kept, or so many outcomes listed, a search leaves off, where nothing is said of that: fewer where there may be many
-- activities, since from each world a way that begins with a step of each is tried.
abbrev pub usual_limit : ℕ → ℕ
usual_limit activities = min (4_000_000 / (1 + activities)) 40_000

-- the limit that was given, for both, or else the usual one of a module with so many activities at most
abbrev pub limit_of : Option ℕ → ℕ → Limit
limit_of given activities = record { entries = unwrap_or given (usual_limit activities); outcomes = unwrap_or given (usual_limit activities) }

-- These schedules lead to so many worlds at rest that were kept, no two of which are alike by tables that have all that counts, nor have all
-- ended in two of them; or, where the order of numbers doesn't count, no two that printed the same numbers, too. What they print after which
-- all have ended is among these outcomes, as lists of numbers or without their order, unless these are as many as the limit says.
pub record HasKept (m : ModuleValue) (args : List ℤ) (sets : Bool) (limit : ℕ) (list : List Outcome) (entries : ℕ) : Type 0 where
  pub schedules : List (List ℕ)
  pub many : length schedules ≡ entries
  pub counts : Counting
  pub counting : IsCounting m counts
  pub apart : AreApartAs sets counts m args schedules
  pub ends : length list < limit → AreEndsListedAs sets m args schedules list

-- So many worlds were kept. If these outcomes aren't said to be all, those worlds are more than the limit says, or these outcomes are as many. These
-- outcomes are never more than it says, or than there are plain runs.
pub record GoesFar (m : ModuleValue) (args : List ℤ) (sets : Bool) (limit : Limit) (list : List Outcome) (complete : Bool) : Type 0 where
  pub entries : ℕ
  pub kept : HasKept m args sets limit.outcomes list entries
  pub met : complete ≡ false → (limit.entries < entries) ⊎ (limit.outcomes ≤ length list)
  pub few : length list ≤ max limit.outcomes plain_runs
