use Rattle.std.proofs.Common.{◌≡◌}
use Rattle.xk_show_picture.specs.Picture.{widest_name}
use Rattle.xk_show_picture.proofs.words.widest_name.Given as goal

-- the longest so far
abbrev pub invariant-loop-clock : goal.invariant-loop-clock
invariant-loop-clock l = l.most ≡ widest_name l.names l.clock
