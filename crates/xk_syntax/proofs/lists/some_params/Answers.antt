use Rattle.std.proofs.Common.{List, [], ◌∷◌, ◌++◌, map, sym, ap, subst, ◌∙◌}
use Rattle.std.proofs.lemmas.Result.{err_from_is_err_and}
use Rattle.std.proofs.lemmas.List.{map_push}
use Rattle.xk_lexer.specs.declared.token.Sign.TheVariants as sign
use Rattle.xk_tree.specs.Tree.{param_value}
use Rattle.xk_tree.specs.declared.tree.Param.{Param}
use Rattle.xk_exprs.specs.Marks.{marks}
use Rattle.xk_exprs.specs.ReaderCombinators.{Refuses}
use Rattle.xk_syntax.specs.Readers.{param_at, sign_at}
use Rattle.xk_syntax.proofs.ListLoopLemmas.{comma_shortens, first_refused, first_read, more_refused, more_read, no_more, shorter}
use Rattle.xk_syntax.proofs.SoundnessLemmas.{param_takes}
use Rattle.xk_syntax.proofs.lists.some_params.Goals as goal

pub returns-in_err-first : goal.returns-in_err-first
returns-in_err-first c =
    let p = err_from_is_err_and c.from_residual.result c.from_residual.ensures.1 in
    rw (p.1, p.2) (first_refused c.in_err-first.field-0.0 param_at (marks c.args.tokens.now) c.in_err-first.ensures)

pub loop-after-init : goal.loop-after-init
loop-after-init c =
    let items = c.in_ok-push.ensures.items ∙ ap (λ (xs : List Param). xs ++ c.in_ok-first.first ∷ []) c.new-params.ensures.items in
    first_read param_at (marks c.args.tokens.now) (param_value c.in_ok-first.first, marks c.in_ok-first.rest.now)
    (map param_value c.push.new.self.items) c.in_ok-first.ensures (ap (map param_value) items)

pub returns-in_err-another : goal.returns-in_err-another
returns-in_err-another c =
    let p = err_from_is_err_and c.from_residual-in_err-another.result c.from_residual-in_err-another.ensures.1 in
    let e = c.in_err-another.field-0.0 in
    let more = more_refused e (sign_at sign.Comma) param_at (map param_value c.loop-after.params.items) (marks c.loop-after.rest.now)
    (marks c.in-Some.after.now) c.in-Some.ensures c.in_err-another.ensures in
    rw (p.1, p.2) (subst (Refuses e) c.loop-after.invariant more)

pub loop-after-smaller : goal.loop-after-smaller
loop-after-smaller c =
    shorter (sign_at sign.Comma) param_at (comma_shortens param_at param_takes) c.loop-after.rest.now c.in-Some.after.now c.in_ok-another.left.now
    (param_value c.in_ok-another.another) c.in-Some.ensures c.in_ok-another.ensures

pub loop-after-preserved : goal.loop-after-preserved
loop-after-preserved c =
    let items = ap (map param_value) c.in_ok-push-2.ensures.items ∙ map_push param_value c.loop-after.params.items c.in_ok-another.another in
    more_read (sign_at sign.Comma) param_at (comma_shortens param_at param_takes) (map param_value c.loop-after.params.items) (marks c.loop-after.rest.now)
    (marks c.in-Some.after.now) (param_value c.in_ok-another.another, marks c.in_ok-another.left.now)
    (map param_value c.push-in-Some.new.self.items) _ c.in-Some.ensures c.in_ok-another.ensures items c.loop-after.invariant

pub returns : goal.returns
returns c = sym c.loop-after.invariant ∙ no_more (sign_at sign.Comma) param_at (map param_value c.loop-after.params.items) (marks c.loop-after.rest.now) c.in_default.ensures
