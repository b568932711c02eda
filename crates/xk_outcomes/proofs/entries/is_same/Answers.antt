use Rattle.std.proofs.Common.{◌∙◌, ap, sym}
use Rattle.xk_outcomes.specs.Found.{FoundValue}
use Rattle.xk_outcomes.proofs.entries.is_same.Goals as goal

pub are_alike-requires : goal.are_alike-requires
are_alike-requires c =
    ap (λ (y : FoundValue). y.core.module_run) c.x.view_is ∙ c.requires
    ∙ sym (ap (λ (y : FoundValue). y.core.module_run) c.new.view_is)
