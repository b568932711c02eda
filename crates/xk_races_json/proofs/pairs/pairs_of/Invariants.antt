use Rattle.std.proofs.Common.{◌≡◌, take}
use Rattle.std.specs.List.{flat_map}
use Rattle.xk_races_json.specs.Races.{kept_pair}
use Rattle.xk_races_json.proofs.pairs.pairs_of.Given as goal

-- the steps of the races so far
abbrev pub invariant-loop-race : goal.invariant-loop-race
invariant-loop-race l = l.pairs.items ≡ flat_map (kept_pair l.steps) (take l.race-index l.races)
