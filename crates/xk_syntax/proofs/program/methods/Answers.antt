use Rattle.std.proofs.Common.{map, sym, ap, subst, ◌∙◌}
use Rattle.std.proofs.lemmas.Result.{err_from_is_err_and}
use Rattle.std.proofs.lemmas.List.{map_push}
use Rattle.xk_lexer.specs.declared.token.Keyword.TheVariants as keyword
use Rattle.xk_tree.specs.Tree.{method_value}
use Rattle.xk_exprs.specs.Marks.{marks}
use Rattle.xk_exprs.specs.ReaderCombinators.{Refuses}
use Rattle.xk_syntax.specs.Readers.{keyword_at, method_at}
use Rattle.xk_syntax.proofs.ListLoopLemmas.{more_refused, more_read, no_more, shorter}
use Rattle.xk_syntax.proofs.ProgramLemmas.{method_shortens}
use Rattle.xk_syntax.proofs.program.methods.Goals as goal

pub returns-in_err-method : goal.returns-in_err-method
returns-in_err-method c =
    let p = err_from_is_err_and c.from_residual.result c.from_residual.ensures.1 in
    let e = c.in_err-method.field-0.0 in
    let more = more_refused e (keyword_at keyword.Def) method_at (map method_value c.loop-after.methods.items) (marks c.loop-after.rest.now)
    (marks c.in-Some.after.now) c.in-Some.ensures c.in_err-method.ensures in
    rw (p.1, p.2) (subst (Refuses e) c.loop-after.invariant more)

pub loop-after-smaller : goal.loop-after-smaller
loop-after-smaller c =
    shorter (keyword_at keyword.Def) method_at method_shortens c.loop-after.rest.now c.in-Some.after.now c.in_ok-method.left.now
    (method_value c.in_ok-method.method) c.in-Some.ensures c.in_ok-method.ensures

pub loop-after-preserved : goal.loop-after-preserved
loop-after-preserved c =
    let items = ap (map method_value) c.in_ok-push.ensures.items ∙ map_push method_value c.loop-after.methods.items c.in_ok-method.method in
    more_read (keyword_at keyword.Def) method_at method_shortens (map method_value c.loop-after.methods.items) (marks c.loop-after.rest.now) (marks c.in-Some.after.now)
    (method_value c.in_ok-method.method, marks c.in_ok-method.left.now) (map method_value c.push.new.self.items) _ c.in-Some.ensures c.in_ok-method.ensures items
    c.loop-after.invariant

pub returns : goal.returns
returns c = sym c.loop-after.invariant ∙ no_more (keyword_at keyword.Def) method_at (map method_value c.loop-after.methods.items) (marks c.loop-after.rest.now) c.in_default.ensures
