use Rattle.std.proofs.Common.{◌∙◌, ap}
use Rattle.xk_names.specs.Scope.{Scope}
use Rattle.xk_names.proofs.ScopeCutLemmas.{cut_scope, cut_behind, cut_after}
use Rattle.xk_names.proofs.scope.Scope.cut.Goals as goal

pub returns-clause-behind : goal.returns-clause-behind
returns-clause-behind c = λ before ds e h.
    ap (λ k. let r : Scope = record { names = k; bodies = c.self.inside.bodies.items } in r) c.truncate.ensures
    ∙ ap (cut_scope c.args.len) c.self.view_is ∙ cut_behind before c.args.self.now ds c.args.len e h

pub returns-clause-after : goal.returns-clause-after
returns-clause-after c = λ before ss e h.
    ap (λ k. let r : Scope = record { names = k; bodies = c.self.inside.bodies.items } in r) c.truncate.ensures
    ∙ ap (cut_scope c.args.len) c.self.view_is ∙ cut_after before c.args.self.now ss c.args.len e h
