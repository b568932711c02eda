use Rattle.std.proofs.Common.{◌≡◌}
use Rattle.xk_show_where.specs.Pieces.{pieces_below}
use Rattle.xk_show_where.specs.Where.{held_words}
use Rattle.xk_show_where.proofs.holders.held_pieces.Given as goal

-- those of the clocks so far are made
abbrev pub invariant-loop-clock : goal.invariant-loop-clock
invariant-loop-clock l = l.pieces.items ≡ pieces_below (held_words l.core.world) l.clock
