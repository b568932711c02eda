use Rattle.std.proofs.Common.{◌≡◌, [], ◌∷◌}
use Rattle.xk_show_events.specs.Worlds.{each_below}
use Rattle.xk_show_where.specs.Awaited.{is_in_innermost}
use Rattle.xk_show_where.proofs.awaited.those_in_innermost.Given as goal

-- the answers on the activities so far are listed
abbrev pub invariant-loop-act : goal.invariant-loop-act
invariant-loop-act l = l.are.items ≡ each_below (λ b. is_in_innermost l.core.world b ∷ []) l.act
