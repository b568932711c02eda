use Rattle.std.proofs.Common.{◌∙◌, ap, length}
use Rattle.std.specs.Prelude.{not, nat_lt}
use Rattle.xk_names.specs.Scope.{has}
use Rattle.xk_names.specs.FaultList.{put_text}
use Rattle.xk_names.proofs.TableLemmas.{names, put_grows, put_names}
use Rattle.xk_names.proofs.table.Texts.put.Goals as goal

pub returns-clause-new : goal.returns-clause-new
returns-clause-new c =
    ap (λ n. nat_lt n c.len.result) c.len-before.ensures ∙ ap (nat_lt (length c.self.inside.names)) (c.len.ensures ∙ ap length c.in_ok-put.ensures.entry)
    ∙ put_grows c.self.inside.names c.args.text.now _ ∙ ap (λ t. not (has t c.args.text.now)) c.self.view_is

pub returns-clause-texts : goal.returns-clause-texts
returns-clause-texts c =
    ap names c.in_ok-put.ensures.entry ∙ put_names c.self.inside.names c.args.text.now _ ∙ ap (λ t. put_text t c.args.text.now) c.self.view_is
