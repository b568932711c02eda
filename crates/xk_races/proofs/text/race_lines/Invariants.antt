use Rattle.std.proofs.Common.{◌≡◌, take}
use Rattle.std.specs.List.{flat_map}
use Rattle.xk_races.specs.Text.{race_line}
use Rattle.xk_races.proofs.text.race_lines.Given as goal

-- the lines so far
abbrev pub invariant-loop-race : goal.invariant-loop-race
invariant-loop-race l = l.out.items ≡ flat_map (race_line l.places) (take l.race-index l.races)
