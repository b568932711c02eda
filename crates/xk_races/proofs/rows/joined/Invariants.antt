use Rattle.std.proofs.Common.{◌≡◌, [], ◌∷◌}
use Rattle.std.specs.Prelude.{max}
use Rattle.xk_show_events.specs.Worlds.{each_below}
use Rattle.xk_races.specs.Lists.{number_at}
use Rattle.xk_races.proofs.rows.joined.Given as goal

-- the greater ones so far
abbrev pub invariant-loop-k : goal.invariant-loop-k
invariant-loop-k l = l.numbers.items ≡ each_below (λ k. max (number_at l.row k) (number_at l.other k) ∷ []) l.k
