use Rattle.std.proofs.Common.{◌≡◌, ◌<◌, ◌^◌, map, take}
use Rattle.xk_show_lanes.specs.Fields.{longest}
use Rattle.xk_show_lanes.specs.Lanes.{spot}
use Rattle.xk_show_lanes.proofs.named_lanes.longest_spot.Given as goal

-- the longest so far
abbrev pub invariant-loop-account : goal.invariant-loop-account
invariant-loop-account l = (l.most ≡ longest (map (λ a. spot l.places a.step) (take l.account-index l.steps))) × (l.most < 2 ^ 63)
