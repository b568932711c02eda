-- Shares of steps: how many there are to a round, and how many rounds so many take. This project's own.
use Rattle.std.specs.Prelude.{ℕ, suc, ◌+◌, ◌*◌, ◌/◌, ◌%◌, max, nat_eq, List, [], ◌∷◌, if◌then◌else◌}
use Rattle.xk_races.specs.declared.deeds.Deed.{Deed}
use Rattle.xk_races.specs.Lists.{number_at}
use Rattle.xk_span.specs.Steps.{is_step}
use Rattle.xk_span_summary.specs.Counts.{counted}

-- how many hundredths n of d are, to the nearest one, half of one up; of nothing none
abbrev pub hundredths : ℕ → ℕ → ℕ
hundredths n d = if nat_eq d 0 then 0 else (200 * n + d) / (2 * d)

-- ---- widths

-- one more in this round, if the deed is a step itself
abbrev pub width_with : Deed → ℕ → List ℕ → List ℕ
width_with d round widths = if is_step d.part then counted round widths else widths

abbrev pub widths_from : List ℕ → ℕ → List ℕ → List Deed → List ℕ
widths_from times i widths [] = widths
widths_from times i widths (d ∷ ds) = widths_from times (suc i) (width_with d (number_at times i) widths) ds

-- how many steps each round has, by the times of deeds
abbrev pub widths_of : List ℕ → List Deed → List ℕ
widths_of times ds = widths_from times 0 [] ds

-- ---- on so many processors

-- the rounds that so many steps take on p processors
abbrev pub share : ℕ → ℕ → ℕ
share p n = n / p + (if nat_eq (n % p) 0 then 0 else 1)

-- no fewer rounds than that, and no fewer than a chain has steps
abbrev pub least_rounds : ℕ → ℕ → ℕ → ℕ
least_rounds p work span = max (share p work) span

-- so many rounds, and those of each width
abbrev pub rounds_from : ℕ → ℕ → List ℕ → ℕ
rounds_from p n [] = n
rounds_from p n (c ∷ widths) = rounds_from p (n + share p c) widths

-- the rounds that it takes if the steps of each round of an ideal machine are all taken before those of the next
abbrev pub level_rounds : ℕ → List ℕ → ℕ
level_rounds p widths = rounds_from p 0 widths
