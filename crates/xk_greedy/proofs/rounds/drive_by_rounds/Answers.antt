use Rattle.xk_greedy.proofs.RoundLemmas.{so_far_less, so_far_more, so_far_starts}
use Rattle.xk_greedy.proofs.rounds.drive_by_rounds.Goals as goal

pub loop-alloc-init : goal.loop-alloc-init
loop-alloc-init c =
    so_far_starts c.args.processors c.args.start c.in-Ok.run'.driver c.in-Ok.run'.log.items c.in-Ok.ensures.same c.in-Ok.ensures.empty c.requires.opening
    (c.module.ensures.opening c.requires.opening)

pub loop-alloc-smaller : goal.loop-alloc-smaller
loop-alloc-smaller c =
    so_far_less c.args.processors c.args.start c.loop-alloc.run.driver c.take_round.new.run.driver c.loop-alloc.run.log.items
    c.take_round.new.run.log.items c.loop-alloc.rounds c.loop-alloc.invariant c.in_ok-take_round.ensures

pub loop-alloc-preserved : goal.loop-alloc-preserved
loop-alloc-preserved c =
    so_far_more c.args.processors c.args.start c.loop-alloc.run.driver c.take_round.new.run.driver c.loop-alloc.run.log.items
    c.take_round.new.run.log.items c.loop-alloc.rounds c.loop-alloc.invariant c.in_ok-take_round.ensures
