use Rattle.std.proofs.Common.{◌∙◌, ap, map}
use Rattle.xk_tree.specs.Tree.{param_value}
use Rattle.xk_names.specs.FaultList.{put}
use Rattle.xk_names.proofs.TableLemmas.{put_values, valued}
use Rattle.xk_names.proofs.methods.Methods.put.Goals as goal

pub returns-clause-entry : goal.returns-clause-entry
returns-clause-entry c =
    ap (valued (λ ps. map param_value ps.now)) c.in_ok-put.ensures.entry
    ∙ put_values (λ ps. map param_value ps.now) c.self.inside.params c.args.name.now c.args.params
    ∙ ap (λ t. put t c.args.name.now (map param_value c.args.params.now)) c.self.view_is
