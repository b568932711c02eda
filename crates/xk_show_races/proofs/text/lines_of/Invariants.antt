use Rattle.std.proofs.Common.{◌≡◌, take}
use Rattle.std.specs.List.{flat_map}
use Rattle.xk_show_races.specs.Accounts.{kept_lines}
use Rattle.xk_show_races.proofs.text.lines_of.Given as goal

-- the lines of the races so far
abbrev pub invariant-loop-race : goal.invariant-loop-race
invariant-loop-race l = l.out.items ≡ flat_map (kept_lines l.source l.names l.steps) (take l.race-index l.races)
