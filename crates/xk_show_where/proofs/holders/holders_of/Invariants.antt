use Rattle.std.proofs.Common.{◌≡◌}
use Rattle.xk_types.specs.Step.{is_pending}
use Rattle.xk_show_events.specs.Worlds.{those_below}
use Rattle.xk_show_where.specs.Excerpts.{excerpt_of}
use Rattle.xk_show_where.specs.Where.{standing_on}
use Rattle.xk_show_where.proofs.holders.holders_of.Given as goal

-- those so far who hold the clock back are noted
abbrev pub invariant-loop-act : goal.invariant-loop-act
invariant-loop-act l = l.holders ≡ excerpt_of (those_below (λ a. is_pending (standing_on l.core.world a l.clock)) l.act)
