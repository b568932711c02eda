-- Chains of deeds that had to come one after another, and how much they weigh. In the field the weight of the greatest is called
-- the span, or the length of the critical path. Which deed comes right before which, `Order.antt` of `xk_races` says.
use Rattle.std.specs.Prelude.{◌≡◌, ℕ, ◌+◌, ◌≤◌, List, [], ◌∷◌}
use Rattle.xk_races.specs.declared.deeds.Deed.{Deed}
use Rattle.xk_races.specs.Order.{IsAt, Edge}

-- how much each deed weighs, by its number
abbrev pub Weights : Type 0
Weights = ℕ → ℕ

-- a chain of deeds up to number j: each of them comes right before the next one; the last one first
abbrev pub IsChain : List Deed → ℕ → List ℕ → Type 0
IsChain ds j [] = (d : Deed) × IsAt ds j d
IsChain ds j (k ∷ ks) = Edge ds k j × IsChain ds k ks

-- what these weigh together
abbrev pub weight_of : Weights → List ℕ → ℕ
weight_of w [] = 0
weight_of w (k ∷ ks) = w k + weight_of w ks

-- a chain up to deed number j weighs n
abbrev pub IsLong : List Deed → Weights → ℕ → ℕ → Type 0
IsLong ds w j n = (ks : List ℕ) × IsChain ds j ks × (weight_of w (j ∷ ks) ≡ n)

-- a chain up to deed number j weighs t, and none weighs more
pub record IsTime (ds : List Deed) (w : Weights) (j t : ℕ) : Type 0 where
  pub long : IsLong ds w j t
  pub most : (n : ℕ) → IsLong ds w j n → n ≤ t
