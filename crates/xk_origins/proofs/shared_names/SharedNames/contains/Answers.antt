use Rattle.std.proofs.Common.{◌∙◌, ap}
use Rattle.std.specs.Prelude.{is_some}
use Rattle.xk_names.specs.Scope.{has}
use Rattle.xk_names.proofs.TableLemmas.{has_names}
use Rattle.xk_origins.proofs.shared_names.SharedNames.contains.Goals as goal

pub returns : goal.returns
returns c =
    c.is_some.ensures ∙ ap is_some c.find.ensures ∙ has_names c.self.inside.names c.args.x.text.now ∙ ap (λ t. has t c.args.x.text.now) c.self.view_is
