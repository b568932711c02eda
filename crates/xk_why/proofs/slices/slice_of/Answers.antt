-- One flow after another, the last first.
use Rattle.std.proofs.Common.{◌≡◌, ◌∙◌, ◌+◌, ◌-◌, ◌<◌, length, refl, arith}
use Rattle.std.proofs.lemmas.Option.{slice_get-get_or}
use Rattle.xk_why.proofs.BackLemmas.{goes_over}
use Rattle.xk_why.proofs.slices.slice_of.Goals as goal

pub loop-done-preserved : goal.loop-done-preserved
loop-done-preserved c =
    let fs = c.args.flows.now in
    let done = c.loop-done.done in
    let lt : done < length fs = omega (arith, c.loop-done-test.true) in (
      refl,
      goes_over fs (length fs) done _ c.loop-done.wanted.items c.go_over.new.wanted.items
          c.loop-done.list.items c.go_over.new.list.items lt
          (slice_get-get_or fs (length fs - (done + 1)) _ (omega (arith, lt)))
          c.in_ok-go_over.ensures.list c.in_ok-go_over.ensures.wanted ∙ c.loop-done.invariant.1,
    )
