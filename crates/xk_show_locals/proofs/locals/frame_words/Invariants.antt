use Rattle.std.proofs.Common.{◌≡◌, map}
use Rattle.xk_show_events.specs.Worlds.{each_below}
use Rattle.xk_show_locals.specs.Locals.{slot_words}
use Rattle.xk_show_locals.proofs.locals.frame_words.Given as goal

-- the slots so far were added
abbrev pub invariant-loop-slot : goal.invariant-loop-slot
invariant-loop-slot l = l.out.items ≡ each_below (slot_words (map (λ x. x.now) l.names) l.code l.frames.frame.slots) l.slot
