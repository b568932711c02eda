use Rattle.std.specs.Vec.{vec_capacity}
use Rattle.xk_activity.specs.Activities.{Takes}
use Rattle.xk_activity.proofs.ActivityListLemmas.{at_both, changed_itself}
use Rattle.xk_activity.proofs.activities.Activities.local.Goals as goal

pub returns-clause-takes : goal.returns-clause-takes
returns-clause-takes c = at_both c.self.inside.verified.now c.self.inside.list.items (vec_capacity c.self.inside.list) c.args.a c.index_mut-act.result.now c.args.self.now
    c.self.view_is c.requires.there c.index_mut-act.ensures.value c.local.new.self (λ m old new. Takes m old c.local.result new) c.self.invariant c.local.ensures.takes

pub returns-clause-others : goal.returns-clause-others
returns-clause-others c = changed_itself c.self.inside.verified.now c.self.inside.list.items (vec_capacity c.self.inside.list) c.args.a c.index_mut-act.result.now c.args.self.now
    c.self.view_is c.requires.there c.index_mut-act.ensures.value c.local.new.self
