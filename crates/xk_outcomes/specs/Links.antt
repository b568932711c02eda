-- Links between those that were found: ways that lead from one to another. This project's own.
use Rattle.std.specs.Prelude.{◌≡◌, ℕ, zero, suc, ◌<◌, ℤ, Bool, List, [], ◌∷◌, ◌++◌, length, map, Option, Some, slice_get}
use Rattle.std.specs.Option.{option_to_list}
use Rattle.xk_types.specs.Code.{ModuleValue}
use Rattle.xk_types.specs.Schedule.{all_ended}
use Rattle.xk_ranks.specs.Reads.{Counting}
use Rattle.xk_outcomes.specs.Alikeness.{AreAsOneByRank}
use Rattle.xk_readings.specs.declared.edge.Edge.{Edge}
use Rattle.xk_outcomes.specs.Found.{FoundValue, through}
use Rattle.xk_outcomes.specs.Ways.{IsWay, way_of}

-- One can go from the one by the way of the link's number, which prints that, and comes to a world from which the same can happen as from
-- the other's.
pub record IsLink (counts : Counting) (m : ModuleValue) (ways : List (List ℕ)) (all : List FoundValue) (l : Edge) : Type 0 where
  pub source : FoundValue
  pub target : FoundValue
  pub out : slice_get all l.from ≡ Some source
  pub into : slice_get all l.to ≡ Some target
  pub known : l.act < length ways
  pub is_way : IsWay m source (way_of ways l.act) l.printed
  pub alike : AreAsOneByRank counts (through (way_of ways l.act) source).core.world target.core.world

-- one of them is a link from this one to that one, and prints that
abbrev pub HasLink : List Edge → ℕ → Option ℤ → ℕ → Type 0
HasLink links from printed to = (j : ℕ) × (l : Edge) × (slice_get links j ≡ Some l) × (l.from ≡ from) × (l.printed ≡ printed) × (l.to ≡ to)

-- n links lead from the first one to the one of number k: by these ways, on which these numbers are printed
abbrev pub Leads : List Edge → ℕ → ℕ → List ℕ → List ℤ → Type 0
Leads links zero k acts numbers = (k ≡ 0) × (acts ≡ []) × (numbers ≡ [])
Leads links (suc n) k acts numbers = (l : Edge) × (j : ℕ) × (slice_get links j ≡ Some l) × (l.to ≡ k) × (before : List ℕ) × (old : List ℤ)
    × Leads links n l.from before old × (acts ≡ before ++ l.act ∷ []) × (numbers ≡ old ++ option_to_list l.printed)

-- some do
abbrev pub LeadTo : List Edge → ℕ → List ℤ → Type 0
LeadTo links k numbers = (n : ℕ) × (acts : List ℕ) × Leads links n k acts numbers

-- Each is a link; and to each that was found some lead, which print what was printed by then.
pub record AreLinked (counts : Counting) (m : ModuleValue) (ways : List (List ℕ)) (all : List FoundValue) (links : List Edge) : Type 0 where
  pub each : (j : ℕ) (l : Edge) → slice_get links j ≡ Some l → IsLink counts m ways all l
  pub led : (k : ℕ) (x : FoundValue) → slice_get all k ≡ Some x → LeadTo links k x.printed

-- whether all have ended in it
abbrev pub ends : List FoundValue → List Bool
ends all = map (λ (x : FoundValue). all_ended x.core.world) all
