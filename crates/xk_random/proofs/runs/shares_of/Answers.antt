use Rattle.std.proofs.Common.{◌∙◌, map, ap, subst, arith}
use Rattle.xk_random.specs.Shares.{noted, share_value}
use Rattle.xk_random.specs.Runs.{IsPrinted}
use Rattle.xk_random.proofs.RunLemmas.{has_room, no_shares, one_more}
use Rattle.xk_random.proofs.runs.shares_of.Goals as goal

pub loop-i-init : goal.loop-i-init
loop-i-init c =
    let none = ap (map share_value) c.new-shares.ensures.empty in
    no_shares c.args.verified.now c.args.arguments.now c.args.seed (map share_value c.new-shares.result.entries) none

pub note-requires : goal.note-requires
note-requires c =
    has_room c.args.verified.now c.args.arguments.now c.args.seed c.loop-i.i c.args.runs (map share_value c.loop-i.shares.entries)
    c.loop-i.invariant c.loop-i-test.true (omega (arith, c.ranges.runs.fits))

pub loop-i-preserved : goal.loop-i-preserved
loop-i-preserved c =
    let printed =
    subst (λ s. IsPrinted c.args.verified.now c.args.arguments.now s c.in_ok-numbers.numbers.items) c.seed_of-at.ensures c.in_ok-numbers.ensures in
    let new = c.in_ok-note.ensures ∙ ap (λ s. noted s c.in_ok-numbers.numbers.items (map share_value c.loop-i.shares.entries)) c.seed_of-at.ensures in
    one_more c.args.verified.now c.args.arguments.now c.args.seed c.loop-i.i c.in_ok-numbers.numbers.items (map share_value c.loop-i.shares.entries)
    (map share_value c.note.new.shares.entries) c.loop-i.invariant printed new
