use Rattle.std.proofs.Common.{◌≡◌, drop, option_map}
use Rattle.xk_races.specs.Races.{gap_behind, gap_in}
use Rattle.xk_races.proofs.pairs.gap_in.Given as goal

-- the rest has what all have
abbrev pub invariant-loop-y : goal.invariant-loop-y
invariant-loop-y l = gap_behind (option_map (λ x. x.now) l.last) (drop l.y-index l.sights) ≡ gap_in l.sights
