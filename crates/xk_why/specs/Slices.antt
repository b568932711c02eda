-- Back along what steps made: a backward slice, by one pass that knows which locations are wanted. This project's own.
use Rattle.std.specs.Prelude.{ℕ, zero, suc, not, List, [], ◌∷◌, ◌++◌, length, filter, Option, Some, None, slice_get, if◌then◌else◌}
use Rattle.std.specs.List.{list_any}
use Rattle.xk_why.specs.declared.flows.Flow.{Flow}
use Rattle.xk_why.specs.declared.flows.Location.{Location}
use Rattle.xk_why.specs.Flows.{makes, overwrites, same_location}

-- these locations and this one, once
abbrev pub with_location : List Location → Location → List Location
with_location wanted l = if list_any (same_location l) wanted then wanted else wanted ++ l ∷ []

abbrev pub with_any : List Location → Option Location → List Location
with_any wanted None = wanted
with_any wanted (Some l) = with_location wanted l

-- before flow f, which makes something at one of these: what it overwrites isn't wanted from there, and what it uses is
abbrev pub wanted_before : Flow → List Location → List Location
wanted_before f wanted = with_any (with_any (filter (λ l. not (overwrites f l)) wanted) f.first) f.second

-- what is wanted before flow f
abbrev pub still_wanted : Flow → List Location → List Location
still_wanted f wanted = if list_any (makes f) wanted then wanted_before f wanted else wanted

-- with the number of flow f, if it makes something that is wanted
abbrev pub with_number : ℕ → Flow → List Location → List ℕ → List ℕ
with_number n f wanted list = if list_any (makes f) wanted then list ++ n ∷ [] else list

abbrev pub slice_over : ℕ → List Location → Option Flow → (List Location → List ℕ) → List ℕ
slice_over n wanted None go = go wanted
slice_over n wanted (Some f) go = if list_any (makes f) wanted then n ∷ go (wanted_before f wanted) else go wanted

-- of the first n flows, the numbers of those by which what is wanted behind them was made, the last first
abbrev pub slice_from : List Flow → ℕ → List Location → List ℕ
slice_from fs zero wanted = []
slice_from fs (suc n) wanted = slice_over n wanted (slice_get fs n) (slice_from fs n)

-- of them all
abbrev pub slice_of : List Flow → List Location → List ℕ
slice_of fs wanted = slice_from fs (length fs) wanted
