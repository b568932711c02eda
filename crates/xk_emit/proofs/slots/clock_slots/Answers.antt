use Rattle.std.proofs.Common.{All, option_map, subst, sym}
use Rattle.std.proofs.lemmas.Result.{err_from_is_err_and}
use Rattle.xk_tree.specs.Tree.{clock_list, words}
use Rattle.xk_names.specs.Scope.{texts}
use Rattle.xk_names.specs.Uses.{clocks_listed}
use Rattle.xk_emit.specs.NameCoverage.{IsFound}
use Rattle.xk_emit.proofs.CodeErrorLemmas.{denies}
use Rattle.xk_emit.proofs.slots.clock_slots.Goals as goal

pub returns-in_err-push_names-clause-refused : goal.returns-in_err-push_names-clause-refused
returns-in_err-push_names-clause-refused c =
    let p = err_from_is_err_and c.from_residual.result c.from_residual.ensures.1 in
    let scope = c.args.scope.now in
    rw (p.1, p.2) (denies c.in_err-push_names.field-0.0 c.in_err-push_names.ensures.refused
    (λ k. subst (λ ns. All (IsFound scope) (texts (words ns))) (sym c.deref.ensures.value)
    (subst (λ o. All (IsFound scope) (texts (clocks_listed (option_map clock_list o)))) c.in-Some.is k)) (λ m. tt))
