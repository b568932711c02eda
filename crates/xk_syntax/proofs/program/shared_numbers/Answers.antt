use Rattle.std.proofs.Common.{map, sym, ap, subst, ◌∙◌}
use Rattle.std.proofs.lemmas.Result.{err_from_is_err_and}
use Rattle.std.proofs.lemmas.List.{map_push}
use Rattle.xk_lexer.specs.declared.token.Keyword.TheVariants as keyword
use Rattle.xk_tree.specs.Tree.{shared_value}
use Rattle.xk_exprs.specs.Marks.{marks}
use Rattle.xk_exprs.specs.ReaderCombinators.{Refuses}
use Rattle.xk_syntax.specs.Readers.{keyword_at, shared_at}
use Rattle.xk_syntax.proofs.ListLoopLemmas.{more_refused, more_read, no_more, shorter}
use Rattle.xk_syntax.proofs.ProgramLemmas.{shared_shortens}
use Rattle.xk_syntax.proofs.program.shared_numbers.Goals as goal

pub returns-in_err-number : goal.returns-in_err-number
returns-in_err-number c =
    let p = err_from_is_err_and c.from_residual.result c.from_residual.ensures.1 in
    let e = c.in_err-number.field-0.0 in
    let more = more_refused e (keyword_at keyword.Shared) shared_at (map shared_value c.loop-after.numbers.items) (marks c.loop-after.rest.now)
    (marks c.in-Some.after.now) c.in-Some.ensures c.in_err-number.ensures in
    rw (p.1, p.2) (subst (Refuses e) c.loop-after.invariant more)

pub loop-after-smaller : goal.loop-after-smaller
loop-after-smaller c =
    shorter (keyword_at keyword.Shared) shared_at shared_shortens c.loop-after.rest.now c.in-Some.after.now c.in_ok-number.left.now
    (shared_value c.in_ok-number.number) c.in-Some.ensures c.in_ok-number.ensures

pub loop-after-preserved : goal.loop-after-preserved
loop-after-preserved c =
    let items = ap (map shared_value) c.in_ok-push.ensures.items ∙ map_push shared_value c.loop-after.numbers.items c.in_ok-number.number in
    more_read (keyword_at keyword.Shared) shared_at shared_shortens (map shared_value c.loop-after.numbers.items) (marks c.loop-after.rest.now) (marks c.in-Some.after.now)
    (shared_value c.in_ok-number.number, marks c.in_ok-number.left.now) (map shared_value c.push.new.self.items) _ c.in-Some.ensures c.in_ok-number.ensures items
    c.loop-after.invariant

pub returns : goal.returns
returns c = sym c.loop-after.invariant ∙ no_more (keyword_at keyword.Shared) shared_at (map shared_value c.loop-after.numbers.items)
    (marks c.loop-after.rest.now) c.in_default.ensures
