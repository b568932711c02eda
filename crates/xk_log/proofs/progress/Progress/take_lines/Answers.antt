use Rattle.std.proofs.Common.{◌≡◌, ◌+◌, ◌-◌, ◌<◌, ◌≤◌, ◌∷◌, ◌++◌, length, take, drop, ap, sym, ◌∙◌, subst, arith, length-drop}
use Rattle.std.specs.List.{prefix_len}
use Rattle.std.proofs.lemmas.List.Sums.{prefix_len-le-length}
use Rattle.std.proofs.lemmas.List.{take_rest, drop-drop}
use Rattle.std.proofs.lemmas.Result.{err_from_is_err_and}
use Rattle.xk_log.specs.LogText.{isnt, line_feed, ended}
use Rattle.xk_log.specs.Verdicts.{before, IsOneLine}
use Rattle.xk_log.specs.Reading.{place}
use Rattle.xk_log.proofs.ReaderLemmas.{taken_one, line_here, all_here, refused_at}
use Rattle.xk_log.proofs.progress.Progress.take_lines.Goals as goal

pub overflow_add-from : goal.overflow_add-from
overflow_add-from c =
    let l = c.loop-from in
    let bound : prefix_len (isnt line_feed) (drop l.from c.args.text.now) ≤ length (drop l.from c.args.text.now) =
    prefix_len-le-length (isnt line_feed) (drop l.from c.args.text.now) in
    let size : length (drop l.from c.args.text.now) ≡ length c.args.text.now - l.from = length-drop l.from c.args.text.now in
    omega (arith, bound, size, l.invariant.found, l.invariant.within)

pub returns-in_err-take-clause-stopped : goal.returns-in_err-take-clause-stopped
returns-in_err-take-clause-stopped c =
    let l = c.loop-from in
    let rest = drop l.from c.args.text.now in
    let some : l.length < length rest = omega (arith, length-drop l.from c.args.text.now) in
    let q = err_from_is_err_and c.from_residual.result c.from_residual.ensures.1 in
    rw (q.1, q.2) (refused_at l.self.stage l.self.entries.items rest l.from l.length _ _ l.invariant.ready l.invariant.taken l.invariant.found
    some c.in_err-take.ensures.refused)

pub loop-from-preserved : goal.loop-from-preserved
loop-from-preserved c =
    let l = c.loop-from in
    let text = c.args.text.now in
    let rest = drop l.from text in
    let size : length rest ≡ length text - l.from = length-drop l.from text in
    let some : l.length < length rest = omega arith in
    let here : rest ≡ take l.length rest ++ line_feed ∷ drop (l.length + 1) rest = line_here rest l.length l.invariant.found some in
    let slice : l.from + l.length - l.from ≡ l.length = omega arith in
    let same : take (l.from + l.length - l.from) rest ≡ take l.length rest = ap (λ k. take k rest) slice in
    let moved : drop (l.length + 1) rest ≡ drop (l.from + (l.length + 1)) text = drop-drop (l.length + 1) l.from text in
    let took = c.in_ok-take.ensures.took ∙ ap (λ x. before (place l.self) ++ ended x) same in
    record {
      ready = c.in_ok-take.ensures.ready;
      within = omega arith;
      taken = ap (λ x. before (place c.take.new.self) ++ x) (sym moved)
          ∙ taken_one _ _ (take l.length rest) rest (drop (l.length + 1) rest) took here ∙ l.invariant.taken;
      found = c.until-length-in-loop-from.ensures ∙ ap (λ x. prefix_len (isnt line_feed) x) (take_rest text (l.from + (l.length + 1)));
    }

pub returns-clause-one_line : goal.returns-clause-one_line
returns-clause-one_line c =
    let l = c.loop-from in
    let text = c.args.text.now in
    let rest = drop l.from text in
    let size : length rest ≡ length text - l.from = length-drop l.from text in
    let all : length rest ≤ l.length = omega arith in
    let back : l.from ≡ length text - (length text - l.from) = omega arith in
    subst (λ k. IsOneLine (drop k text)) back (all_here rest l.length l.invariant.found all)
