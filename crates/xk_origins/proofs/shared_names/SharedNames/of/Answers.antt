use Rattle.std.proofs.Common.{◌∙◌, sym}
use Rattle.xk_names.proofs.TableLemmas.{has_names}
use Rattle.xk_origins.proofs.shared_names.SharedNames.of.Goals as goal

pub returns : goal.returns
returns c = λ x. sym (has_names c.add_names.new.table x) ∙ c.in_ok-add_names.ensures x
