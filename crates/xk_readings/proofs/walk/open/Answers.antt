use Rattle.xk_readings.proofs.WalkLemmas.{opened_by}
use Rattle.xk_readings.proofs.walk.open.Goals as goal

pub returns-clause-opened : goal.returns-clause-opened
returns-clause-opened c =
    opened_by c.args.graph.now c.args.group c.args.walk.now.ways c.truncate.new.self c.close.new.ways c.requires.group
    c.truncate.ensures.all c.truncate.ensures.room
    c.in_ok-close.ensures.spread c.in_ok-close.ensures.closed
