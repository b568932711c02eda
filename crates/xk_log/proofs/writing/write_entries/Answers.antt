use Rattle.std.proofs.Common.{◌≡◌, ◌-◌, ◌≤◌, ◌++◌, List, ℕ, length, take, drop, subst, ap, ◌∙◌, arith, append_assoc}
use Rattle.std.proofs.lemmas.List.{take_all}
use Rattle.std.specs.Io.KnownBytes.{Appends}
use Rattle.xk_io.specs.Writing.{AppendsBeginning}
use Rattle.xk_io.proofs.DeviceLemmas.{appends_then, beginning_more, beginning_then}
use Rattle.xk_io.proofs.LineLemmas.{lines_then}
use Rattle.xk_log.specs.LogText.{head_line, ended, end_line, entry_lines, log_text}
use Rattle.xk_log.proofs.TextLemmas.{log_at}
use Rattle.xk_log.proofs.writing.write_entries.Goals as goal

pub returns-in_err-write_all-clause-beginning : goal.returns-in_err-write_all-clause-beginning
returns-in_err-write_all-clause-beginning g c =
    let es = c.args.entries.now in
    beginning_more _ _ (ended head_line) (entry_lines es ++ ended (end_line (length es))) c.write_all.ensures.beginning

pub returns-in_err-write_some-clause-beginning : goal.returns-in_err-write_some-clause-beginning
returns-in_err-write_some-clause-beginning g c =
    let es = c.args.entries.now in
    let d = c.loop-done.done in
    let n = c.min-next.result in
    let first = ended head_line ++ entry_lines (take d es) in
    let part = entry_lines (take (n - d) (drop d es)) in
    let rest = entry_lines (drop n es) ++ ended (end_line (length es)) in
    let order : d ≤ n = omega arith in
    let joined : first ++ part ≡ ended head_line ++ entry_lines (take n es) =
    append_assoc (ended head_line) (entry_lines (take d es)) part ∙ ap (λ l. ended head_line ++ l) (lines_then _ d n es order) in
    let whole : (first ++ part) ++ rest ≡ log_text es = ap (λ l. l ++ rest) joined ∙ log_at n es in
    let P : List ℕ → Type 0 = AppendsBeginning (g.W.Sink.contents c.args.sink.now) (g.W.Sink.contents c.write_some.new.sink) in
    subst P whole (beginning_more _ _ (first ++ part) rest
    (beginning_then _ _ _ first part c.loop-done.invariant.appended c.write_some.ensures.beginning))

pub loop-done-preserved : goal.loop-done-preserved
loop-done-preserved g c =
    let es = c.args.entries.now in
    let d = c.loop-done.done in
    let n = c.min-next.result in
    let first = ended head_line ++ entry_lines (take d es) in
    let part = entry_lines (take (n - d) (drop d es)) in
    let order : d ≤ n = omega arith in
    let joined : first ++ part ≡ ended head_line ++ entry_lines (take n es) =
    append_assoc (ended head_line) (entry_lines (take d es)) part ∙ ap (λ l. ended head_line ++ l) (lines_then _ d n es order) in
    let P : List ℕ → Type 0 = Appends (g.W.Sink.contents c.args.sink.now) (g.W.Sink.contents c.write_some.new.sink) in
    record {
      within = omega arith;
      appended = subst P joined (appends_then _ _ _ first part c.loop-done.invariant.appended c.in_ok-write_some.ensures.all);
      no_fault = c.in_ok-write_some.ensures.no_fault ∙ c.loop-done.invariant.no_fault;
    }

pub returns-clause-beginning : goal.returns-clause-beginning
returns-clause-beginning g c =
    let es = c.args.entries.now in
    let d = c.loop-done.done in
    let all : take d es ≡ es = take_all d es (omega arith) in
    let first = ended head_line ++ entry_lines (take d es) in
    let last = ended (end_line (length es)) in
    let whole : first ++ last ≡ log_text es =
    append_assoc (ended head_line) (entry_lines (take d es)) last ∙ ap (λ l. ended head_line ++ (entry_lines l ++ last)) all in
    let P : List ℕ → Type 0 = AppendsBeginning (g.W.Sink.contents c.args.sink.now) (g.W.Sink.contents c.write_end.new.sink) in
    subst P whole (beginning_then _ _ _ first last c.loop-done.invariant.appended c.write_end.ensures.beginning)
