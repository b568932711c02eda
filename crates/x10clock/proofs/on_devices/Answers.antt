use Rattle.x10clock.proofs.on_devices.Goals as goal

pub returns-clause-answered : goal.returns-clause-answered
returns-clause-answered g c =
    rw c.in-ByHand.is (rw (c.new-source.ensures.inner, c.as_slice-arguments.ensures.value, c.is_some-keeps_log.ensures) at c.serve_asked.ensures.by_hand)

pub returns-clause-err_begins : goal.returns-clause-err_begins
returns-clause-err_begins g c =
    rw c.in-ByHand.is (rw (c.new-source.ensures.inner, c.as_slice-arguments.ensures.value) at c.serve_asked.ensures.err_begins)

pub returns-clause-by_some : goal.returns-clause-by_some
returns-clause-by_some g c memory device =
    rw c.in-ByHand.is
    (rw (c.new-source.ensures.inner, c.as_slice-arguments.ensures.value, c.is_some-keeps_log.ensures) at (c.serve_asked.ensures.by_some
    memory device))

pub returns-clause-out_begins : goal.returns-clause-out_begins
returns-clause-out_begins g c =
    rw c.in-ByHand.is
    (rw (c.new-source.ensures.inner, c.as_slice-arguments.ensures.value, c.is_some-keeps_log.ensures) at c.serve_asked.ensures.out_begins)
