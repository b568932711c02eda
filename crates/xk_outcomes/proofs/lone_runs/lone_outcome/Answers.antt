use Rattle.xk_outcomes.proofs.LoneOutcomeLemmas.{none_weaker}
use Rattle.xk_outcomes.proofs.lone_runs.lone_outcome.Goals as goal

pub returns-then-not-short-clause-many : goal.returns-then-not-short-clause-many
returns-then-not-short-clause-many c short = absurd (c.is_short-short.ensures.no c.if-not-short.true short)

pub returns-clause-many : goal.returns-clause-many
returns-clause-many c = none_weaker c.in_ok-lone.lone (λ many short. many) c.in_ok-lone.ensures.many
