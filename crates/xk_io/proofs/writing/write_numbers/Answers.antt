use Rattle.std.proofs.Common.{◌≡◌, ◌-◌, ◌≤◌, ◌++◌, List, ℕ, length, take, drop, subst, ap, ◌∙◌, arith, sym}
use Rattle.std.proofs.Math.Seq.{take-length}
use Rattle.std.proofs.lemmas.List.{take_all}
use Rattle.std.specs.Io.KnownBytes.{Appends}
use Rattle.xk_io.specs.Writing.{AppendsBeginning}
use Rattle.xk_io.proofs.DeviceLemmas.{appends_then, beginning_more, beginning_then}
use Rattle.xk_io.specs.Lines.{number_lines}
use Rattle.xk_io.proofs.LineLemmas.{lines_at, lines_then}
use Rattle.xk_io.proofs.writing.write_numbers.Goals as goal

pub returns-in_err-write_some-clause-beginning : goal.returns-in_err-write_some-clause-beginning
returns-in_err-write_some-clause-beginning g c =
    let ns = c.args.numbers.now in
    let d = c.loop-done.done in
    let n = c.min-next.result in
    let first = number_lines (take d ns) in
    let part = number_lines (take (n - d) (drop d ns)) in
    let rest = number_lines (drop n ns) in
    let order : d ≤ n = omega arith in
    let whole : (first ++ part) ++ rest ≡ number_lines ns = ap (λ l. l ++ rest) (lines_then _ d n ns order) ∙ lines_at _ n ns in
    let P : List ℕ → Type 0 = AppendsBeginning (g.W.Sink.contents c.args.sink.now) (g.W.Sink.contents c.write_some.new.sink) in
    subst P whole (beginning_more _ _ (first ++ part) rest
    (beginning_then _ _ _ first part c.loop-done.invariant.appended c.write_some.ensures.beginning))

pub loop-done-preserved : goal.loop-done-preserved
loop-done-preserved g c =
    let ns = c.args.numbers.now in
    let d = c.loop-done.done in
    let n = c.min-next.result in
    let first = number_lines (take d ns) in
    let part = number_lines (take (n - d) (drop d ns)) in
    let order : d ≤ n = omega arith in
    let P : List ℕ → Type 0 = Appends (g.W.Sink.contents c.args.sink.now) (g.W.Sink.contents c.write_some.new.sink) in
    record {
      within = omega arith;
      appended = subst P (lines_then _ d n ns order) (appends_then _ _ _ first part c.loop-done.invariant.appended c.in_ok-write_some.ensures.all);
      no_fault = c.in_ok-write_some.ensures.no_fault ∙ c.loop-done.invariant.no_fault;
    }

pub returns-clause-beginning : goal.returns-clause-beginning
returns-clause-beginning g c =
    let ns = c.args.numbers.now in
    let d = c.loop-done.done in
    let text = number_lines (take d ns) in
    let all : take d ns ≡ ns = take_all d ns (omega arith) in
    let P : List ℕ → Type 0 = AppendsBeginning (g.W.Sink.contents c.args.sink.now) (g.W.Sink.contents c.loop-done.sink) in
    subst P (ap number_lines all) (length text, subst (Appends _ _) (sym (take-length text)) c.loop-done.invariant.appended)
