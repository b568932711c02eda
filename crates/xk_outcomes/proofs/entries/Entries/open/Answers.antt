use Rattle.std.proofs.Common.{◌∙◌, subst}
use Rattle.xk_types.specs.Code.{ModuleValue}
use Rattle.xk_ranks.specs.Reads.{IsCounting}
use Rattle.xk_outcomes.specs.Alikeness.{counts_of}
use Rattle.xk_outcomes.proofs.EntriesLemmas.{alone, entries_first}
use Rattle.xk_outcomes.proofs.entries.Entries.open.Goals as goal

pub invariant_of-result : goal.invariant_of-result
invariant_of-result c = entries_first _ _ _ _ _ _ _ c.requires
    (subst (λ (m : ModuleValue). IsCounting m (counts_of c.in_ok-counts.counts)) c.module.ensures.same c.in_ok-counts.ensures)
    c.new-2.ensures.items
    (alone _ _ _ c.in_ok-put_first.ensures.digests c.new-digests.ensures)
    (alone _ _ _ c.in_ok-put_first.ensures.over c.new-over.ensures.items)
    (alone _ _ _ c.in_ok-put_first.ensures.checkpoints c.new-checkpoints.ensures.items)
