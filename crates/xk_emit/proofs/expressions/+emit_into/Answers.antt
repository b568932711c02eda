use Rattle.std.proofs.Common.{◌≡◌, length, ap, ◌∙◌, subst, rules, length-append}
use Rattle.std.proofs.lemmas.Result.{err_from_is_err_and}
use Rattle.xk_tree.specs.declared.tree.Expr.{the_lemmas}
use Rattle.xk_tree.specs.Tree.{Expression, Negation, Binary, expression}
use Rattle.xk_emit.proofs.CodeErrorLemmas.{DeniesInto, into_negated, into_both}
use Rattle.xk_emit.proofs.expressions.+emit_into.Goals as goal

pub returns-in_err-y-in-Negation-clause-refused : goal.returns-in_err-y-in-Negation-clause-refused
returns-in_err-y-in-Negation-clause-refused t c =
    let p = err_from_is_err_and c.from_residual-in_err-y-in-Negation.result c.from_residual-in_err-y-in-Negation.ensures.1 in
    let err = c.in_err-y-in-Negation.field-0.0 in
    let scope = c.args.scope.now in
    let code = c.args.code.now.items in
    let e = c.deref-in-Negation.result.now in
    let at = c.in-Negation.field-0 in
    let seen : Negation at (expression e) ≡ expression c.args.e.now =
    ap (λ x. Negation at (expression x)) c.deref-in-Negation.ensures ∙ rw c.in-Negation.is (search (rules, the_lemmas)) in
    rw (p.1, p.2) (subst (λ (x : Expression). DeniesInto err scope (length code) c.args.t x c.args.d) seen
    (into_negated err scope (length code) _ c.args.t _ at c.args.d (expression e) c.in_err-y-in-Negation.ensures.refused
    c.in_ok-after-in-Negation.ensures.next (ap length c.in_ok-push-in-Negation.ensures.code ∙ length-append code _)))

pub returns-in_err-x-in-Binary-clause-refused : goal.returns-in_err-x-in-Binary-clause-refused
returns-in_err-x-in-Binary-clause-refused t c =
    let p = err_from_is_err_and c.from_residual-in_err-x-in-Binary.result c.from_residual-in_err-x-in-Binary.ensures.1 in
    let f = c.in-Binary in
    let err = c.in_err-x-in-Binary.field-0.0 in
    let l = c.deref-in-Binary.result.now in
    let r = c.deref-in-Binary-2.result.now in
    let seen : Binary f.operator (expression l) f.field-2 (expression r) ≡ expression c.args.e.now =
    ap (λ x. Binary f.operator (expression x) f.field-2 (expression r)) c.deref-in-Binary.ensures
    ∙ ap (λ x. Binary f.operator (expression f.l.value) f.field-2 (expression x)) c.deref-in-Binary-2.ensures ∙ rw f.is (search (rules, the_lemmas)) in
    rw (p.1, p.2) (subst (λ (x : Expression). DeniesInto err c.args.scope.now (length c.args.code.now.items) c.args.t x c.args.d) seen
    (into_both err c.args.scope.now (length c.args.code.now.items) c.args.t f.field-2 c.args.d f.operator (expression l) (expression r) c.in_err-x-in-Binary.ensures.refused))
