use Rattle.std.proofs.Common.{◌∙◌, ap, take}
use Rattle.xk_names.specs.Scope.{Scope}
use Rattle.xk_names.proofs.ScopeCutLemmas.{left_scope, left}
use Rattle.xk_names.proofs.scope.Scope.leave.Goals as goal

pub returns : goal.returns
returns c = λ before clocks ds e h.
    ap (λ k. let r : Scope = record { names = k; bodies = c.pop_front-clocks.new.self.items } in r) c.truncate.ensures
    ∙ ap (λ k. let r : Scope = record { names = take c.args.len c.self.inside.names; bodies = k } in r) c.pop_front-clocks.ensures.rest
    ∙ ap (left_scope c.args.len) c.self.view_is ∙ left before clocks c.args.self.now ds c.args.len e h
