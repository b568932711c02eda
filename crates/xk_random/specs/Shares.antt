-- One run more in a list of shares. This project's own.
use Rattle.std.specs.Prelude.{◌≡◌, ℕ, ℤ, ◌+◌, ◌<◌, ◌^◌, zero, suc, List, [], ◌∷◌, Some, slice_get, if◌then◌else◌}
use Rattle.std.specs.Global.{Vec}
use Rattle.xk_random.specs.declared.share.Share.{Share as Declared}
use Rattle.xk_random.specs.Tally.{Share, are_same}

-- a list of numbers with its share, without where the numbers lie in memory
abbrev pub share_value : Vec ℤ × Declared → Share
share_value e = record { numbers = e.0.items; first = e.1.first; runs = e.1.runs }

-- one run more can be counted with each
abbrev pub HasRoom : List Share → Type 0
HasRoom shares = (k : ℕ) (s : Share) → slice_get shares k ≡ Some s → s.runs + 1 < 2 ^ 64

-- the share at this place, with one run more
abbrev pub once_more : ℕ → List Share → List Share
once_more k [] = []
once_more zero (s ∷ shares) = record s { runs = s.runs + 1 } ∷ shares
once_more (suc k) (s ∷ shares) = s ∷ once_more k shares

-- the shares, and behind them the run of this seed, which printed these numbers
abbrev pub noted : ℕ → List ℤ → List Share → List Share
noted seed numbers [] = record { numbers = numbers; first = seed; runs = 1 } ∷ []
noted seed numbers (s ∷ shares) = if are_same s.numbers numbers then record s { runs = s.runs + 1 } ∷ shares else s ∷ noted seed numbers shares
