-- Whole expressions and terms: what was read is spelled, and no operator follows.
use Rattle.std.proofs.Common.{◌≡◌, List, Some, subst}
use Rattle.xk_exprs.specs.Marks.{Mark}
use Rattle.xk_tree.specs.Tree.{Expression}
use Rattle.xk_exprs.specs.Spelling.{Ends}
use Rattle.xk_exprs.specs.ExprReaders.{terms, sums, factor_at, whole_at, whole_term_at}
use Rattle.xk_exprs.specs.Laws.{ExpressionFound, TermFound}
use Rattle.xk_exprs.proofs.LoopLemmas.{bind_some}
use Rattle.xk_exprs.proofs.SoundnessLemmas.{expression_found, term_found}
use Rattle.xk_exprs.proofs.LongestMatchLemmas.{terms_end, sums_end}

pub expressions : ExpressionFound
unfolding whole_at
expressions d ts e rest h =
    let f = expression_found d ts e rest h in
    let b = bind_some (sums (factor_at d) 64 ts) (λ x. Some (x.0.0, x.1)) (e, rest) h in
    let q : (b.0.0.0, b.0.1) ≡ (e, rest) = cc in
    (f.0, f.1, f.2, subst (λ (z : Expression × List Mark). Ends 2 z.1) q (sums_end d 64 ts b.0 b.1))

pub terms_whole : TermFound
unfolding whole_term_at
terms_whole d ts e rest h =
    let f = term_found d ts e rest h in
    let b = bind_some (terms (factor_at d) 64 ts) (λ x. Some (x.0.0, x.1)) (e, rest) h in
    let q : (b.0.0.0, b.0.1) ≡ (e, rest) = cc in
    (f.0, f.1, f.2, subst (λ (z : Expression × List Mark). Ends 1 z.1) q (terms_end d 64 ts b.0 b.1))
