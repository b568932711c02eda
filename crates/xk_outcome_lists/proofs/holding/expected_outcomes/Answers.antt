use Rattle.xk_outcome_lists.proofs.holding.expected_outcomes.Goals as goal

pub returns-in-Ok-clause-held : goal.returns-in-Ok-clause-held
returns-in-Ok-clause-held c = c.in-Ok.ensures c.args.list.now c.in_ok-expected.ensures.stands c.in_ok-expected.ensures.told
