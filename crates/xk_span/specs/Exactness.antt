-- What the pass along a run tells is exactly the longest chains.
use Rattle.std.specs.Prelude.{◌≡◌, ℕ, ◌≤◌, ◌⊎◌, List, [], ◌∷◌}
use Rattle.xk_races.specs.declared.deeds.Deed.{Deed}
use Rattle.xk_races.specs.Lists.{number_at}
use Rattle.xk_races.specs.Order.{IsAt}
use Rattle.xk_span.specs.Chains.{Weights, IsChain, IsLong, IsTime, weight_of}
use Rattle.xk_span.specs.Times.{span_of, times_of}
use Rattle.xk_span.specs.Paths.{path_of}

-- A chain up to each deed weighs as much as is told of it, and none weighs more.
abbrev pub TimesAreExact : Weights → List Deed → Type 0
TimesAreExact w ds = (j : ℕ) (d : Deed) → IsAt ds j d → IsTime ds w j (number_at (times_of w ds) j)

-- Some chain weighs as much as the span (where there is anything to weigh), and none weighs more.
pub record SpanIsExact (w : Weights) (ds : List Deed) : Type 0 where
  pub reached : (span_of w ds ≡ 0) ⊎ ((j : ℕ) × IsLong ds w j (span_of w ds))
  pub most : (j n : ℕ) → IsLong ds w j n → n ≤ span_of w ds

-- these are a chain, the last first
abbrev pub AreChained : List Deed → List ℕ → Type 0
AreChained ds [] = ds ≡ ds
AreChained ds (j ∷ ks) = IsChain ds j ks

-- The path is a chain, and weighs as much as the span.
pub record PathIsExact (w : Weights) (ds : List Deed) : Type 0 where
  pub chain : AreChained ds (path_of w ds)
  pub long : weight_of w (path_of w ds) ≡ span_of w ds
