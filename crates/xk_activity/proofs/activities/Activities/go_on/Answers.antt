use Rattle.std.specs.Vec.{vec_capacity}
use Rattle.xk_types.specs.Step.{onward}
use Rattle.xk_activity.proofs.ActivityListLemmas.{changed_by}
use Rattle.xk_activity.proofs.activities.Activities.go_on.Goals as goal

pub returns : goal.returns
returns c = changed_by c.self.inside.verified.now c.self.inside.list.items (vec_capacity c.self.inside.list) c.args.a c.index_mut-act.result.now c.args.self.now c.self.view_is
    c.requires.there c.index_mut-act.ensures.value c.go_on.new.self onward c.go_on.ensures
