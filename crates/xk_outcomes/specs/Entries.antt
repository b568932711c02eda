-- Those that were found, each by a way from one before it. This project's own.
use Rattle.std.specs.Prelude.{◌≡◌, ℕ, ◌<◌, ◌≤◌, Bool, List, [], ◌∷◌, ◌++◌, length, Some, slice_get, get_or, fold}
use Rattle.xk_core.specs.Core.{CoreValue}
use Rattle.xk_outcomes.specs.declared.entries.Edge.{Edge}
use Rattle.xk_ranks.specs.Reads.{IsCounting}
use Rattle.xk_outcomes.specs.Alikeness.{Alikeness, counted}
use Rattle.xk_outcomes.specs.Checkpoints.{AreCheckpoints}
use Rattle.xk_outcomes.specs.declared.checkpoint.Checkpoint.{Checkpoint}
use Rattle.xk_outcomes.specs.Found.{FoundValue, first_found, through}
use Rattle.xk_outcomes.specs.Ways.{way_of}
use Rattle.xk_outcomes.specs.Links.{ends}
use Rattle.xk_outcomes.specs.Search.{AreDifferent, AreDigests}

-- where the search starts, by what those are told apart that are alike, and all that were found
pub record EntriesValue : Type 0 where
  pub start : CoreValue
  pub like : Alikeness
  pub ways : List (List ℕ)
  pub all : List FoundValue

-- with one more: by a way from one of these
abbrev pub with_edge : List (List ℕ) → FoundValue → List FoundValue → Edge → List FoundValue
with_edge ways first all e = all ++ through (way_of ways e.way) (get_or all e.from first) ∷ []

-- the first one, and behind it what each of these edges leads to
abbrev pub led_by : List (List ℕ) → CoreValue → List Edge → List FoundValue
led_by ways start edges = fold (with_edge ways (first_found start)) (first_found start ∷ []) edges

-- the first one alone
abbrev pub first_entry : Alikeness → CoreValue → EntriesValue
first_entry like start = record { start = start; like = like; ways = []; all = first_found start ∷ [] }

-- each edge goes out, by one of the ways, from one that was found before it: edge number k leads to number k + 1
abbrev pub AreBehind : List (List ℕ) → List Edge → Type 0
AreBehind ways edges = (k : ℕ) (e : Edge) → slice_get edges k ≡ Some e → (e.from ≤ k) × (e.way < length ways)

-- The search starts with a core that has taken no step, in whose module no more counts than is told; these are
-- the digests of those that the edges lead to, of which no two are the same; in these all have ended; and these are
-- kept whole.
pub record AreEntries (start : CoreValue) (like : Alikeness) (ways : List (List ℕ)) (edges : List Edge) (digests : List ℕ)
    (over : List Bool)
    (checkpoints : List Checkpoint) : Type 0 where
  pub root : start.world.steps ≡ 0
  pub counting : IsCounting start.module_run (counted like)
  pub behind : AreBehind ways edges
  pub digests_are : AreDigests like (led_by ways start edges) digests
  pub over_are : over ≡ ends (led_by ways start edges)
  pub checkpoints_are : AreCheckpoints (led_by ways start edges) checkpoints
  pub different : AreDifferent like (led_by ways start edges)
