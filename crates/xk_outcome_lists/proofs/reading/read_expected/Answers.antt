use Rattle.std.proofs.Common.{◌≡◌, ◌∙◌, ◌+◌, ◌-◌, ◌≤◌, ◌++◌, length, take, drop, not, ap, sym, subst, arith, length-drop}
use Rattle.std.specs.Prelude.{◌==◌}
use Rattle.std.specs.List.{filter_map}
use Rattle.std.proofs.lemmas.List.{take_rest}
use Rattle.std.proofs.lemmas.List.Sums.{prefix_len-le-length}
use Rattle.std.proofs.lemmas.Result.{err_from_is_err_and}
use Rattle.xk_outcome_lists.specs.Expected.{line_feed, stray_from, stray_line, told_by, told_in}
use Rattle.xk_outcome_lists.proofs.ExpectedLemmas.{left, next_line, stray_here, stray_more, told_more, until_feed}
use Rattle.xk_outcome_lists.proofs.reading.read_expected.Goals as goal

pub returns-in_err-keep-clause-stray : goal.returns-in_err-keep-clause-stray
returns-in_err-keep-clause-stray c =
    let l = c.loop-from in
    let text = c.args.text.now in
    let rest = take_rest text l.from in
    let size = c.until_feed-length.ensures ∙ ap until_feed rest in
    let line = ap (λ xs. take c.until_feed-length.result xs) rest ∙ ap (λ n. take n (drop l.from text)) size in
    let p = err_from_is_err_and c.from_residual.result c.from_residual.ensures.1 in
    rw (p.1, p.2) (stray_here text (take (until_feed (drop l.from text)) (drop l.from text)) (left l.from text)
    (left (l.from + (until_feed (drop l.from text) + 1)) text) l.number _ (next_line l.from text (omega arith)) l.invariant.stray
    (rw line at c.in_err-keep.ensures.stray))

pub loop-from-preserved : goal.loop-from-preserved
loop-from-preserved c =
    let l = c.loop-from in
    let text = c.args.text.now in
    let from = l.from in
    let rest = take_rest text from in
    let n = until_feed (drop from text) in
    let size : c.until_feed-length.result ≡ n = c.until_feed-length.ensures ∙ ap until_feed rest in
    let line = ap (λ xs. take c.until_feed-length.result xs) rest ∙ ap (λ k. take k (drop from text)) size in
    let next = next_line from text (omega arith) in
    let moved : left (from + (n + 1)) text ≡ left (from + (c.until_feed-length.result + 1)) text = ap (λ k. left (from + (k + 1)) text) (sym size) in
    let bound : n ≤ length (drop from text) = prefix_len-le-length (λ b. not (b == line_feed)) (drop from text) in
    let span : length (drop from text) ≡ length text - from = length-drop from text in
    record {
      few = omega (arith, l.invariant.few);
      within = omega (arith, size, bound, span);
      told = subst (λ lines. c.keep.new.told ++ filter_map told_in lines ≡ told_by text) moved
          (told_more (take n (drop from text)) (left from text) (left (from + (n + 1)) text) l.told _ (told_by text) next
          (rw line at c.in_ok-keep.ensures.kept) l.invariant.told);
      stray = subst (λ lines. stray_from (l.number + 1) lines ≡ stray_line text) moved
          (stray_more (take n (drop from text)) (left from text) (left (from + (n + 1)) text) l.number (stray_line text) next
          (rw line at c.in_ok-keep.ensures.stands) l.invariant.stray);
    }
