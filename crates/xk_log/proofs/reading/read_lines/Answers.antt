use Rattle.std.proofs.Common.{◌<◌, ◌≤◌, length, ap, sym, ◌∙◌, subst, arith}
use Rattle.std.specs.Io.KnownBytes.{Consumes}
use Rattle.xk_log.specs.Verdicts.{before}
use Rattle.xk_log.specs.Reading.{place}
use Rattle.xk_log.proofs.ReaderLemmas.{device_told, some_finished, some_stopped, tells_stopped, counts_stopped, tells_finished, read_joined, read_grows, read_nothing, falls, held_short}
use Rattle.xk_log.proofs.reading.read_lines.Goals as goal

pub returns-in-Err-clause-told : goal.returns-in-Err-clause-told
returns-in-Err-clause-told g c =
    let l = c.loop-progress in
    let within : l.held ≤ length l.piece = omega arith in
    tells_stopped _ _ _ c.in-Err.fault
    (read_joined _ _ _ (before (place l.progress)) l.piece c.read.new.buf l.held c.in_ok-count.count _ within c.in_ok-count.ensures.bound.0
    l.invariant.consumed c.in_ok-count.ensures.bytes.0)
    c.in-Err.ensures.stopped

pub returns-in-Err-clause-of_some : goal.returns-in-Err-clause-of_some
returns-in-Err-clause-of_some g c =
    let l = c.loop-progress in
    let within : l.held ≤ length l.piece = omega arith in
    some_stopped _ _ _ c.in-Err.fault
    (read_joined _ _ _ (before (place l.progress)) l.piece c.read.new.buf l.held c.in_ok-count.count _ within c.in_ok-count.ensures.bound.0
    l.invariant.consumed c.in_ok-count.ensures.bytes.0)
    c.in-Err.ensures.stopped

pub returns-in-Err-clause-device : goal.returns-in-Err-clause-device
returns-in-Err-clause-device g c =
    counts_stopped _ _ _ c.in-Err.fault (c.in_ok-count.ensures.faults ∙ c.loop-progress.invariant.no_fault) c.in-Err.ensures.stopped

pub returns-then-count-eq0-clause-told : goal.returns-then-count-eq0-clause-told
returns-then-count-eq0-clause-told g c =
    let l = c.loop-progress in
    let room : 0 < length c.read.new.buf = omega arith in
    tells_finished _ _ l.progress.stage l.progress.entries.items l.piece l.held _ l.invariant.ready l.invariant.one_line l.invariant.short
    l.invariant.none_behind c.finish.ensures
    (read_nothing _ _ _ _ c.read.new.buf c.in_ok-count.count c.if-count-eq0.true l.invariant.consumed c.in_ok-count.ensures.bytes.0)
    (c.in_ok-count.ensures.bytes.1 c.if-count-eq0.true room)

pub returns-then-count-eq0-clause-of_some : goal.returns-then-count-eq0-clause-of_some
returns-then-count-eq0-clause-of_some g c =
    let l = c.loop-progress in
    let room : 0 < length c.read.new.buf = omega arith in
    some_finished _ _ l.progress.stage l.progress.entries.items l.piece l.held _ l.invariant.ready l.invariant.one_line l.invariant.short
    l.invariant.none_behind c.finish.ensures
    (read_nothing _ _ _ _ c.read.new.buf c.in_ok-count.count c.if-count-eq0.true l.invariant.consumed c.in_ok-count.ensures.bytes.0)
    (c.in_ok-count.ensures.bytes.1 c.if-count-eq0.true room)

pub loop-progress-preserved : goal.loop-progress-preserved
loop-progress-preserved g c =
    let l = c.loop-progress in
    let within : l.held ≤ length l.piece = omega arith in
    let joined = read_joined _ _ _ (before (place l.progress)) l.piece c.read.new.buf l.held c.in_ok-count.count _ within
    c.in_ok-count.ensures.bound.0
    l.invariant.consumed c.in_ok-count.ensures.bytes.0 in
    record {
      ready = c.in-Ok.ensures.ready;
      short = c.in-Ok.ensures.short;
      one_line = c.in-Ok.ensures.one_line;
      none_behind = c.in-Ok.ensures.none_behind;
      consumed = subst (Consumes _ _) (sym c.in-Ok.ensures.taken) joined;
      no_fault = c.in_ok-count.ensures.faults ∙ l.invariant.no_fault;
    }

pub loop-progress-smaller : goal.loop-progress-smaller
loop-progress-smaller g c =
    let l = c.loop-progress in
    let p = c.take_piece.new.progress in
    let within : l.held ≤ length l.piece = omega arith in
    let grown = read_grows (before (place l.progress)) l.piece c.read.new.buf l.held c.in_ok-count.count _ within c.in_ok-count.ensures.bound.0 in
    falls _ _ c.in_ok-count.count (ap length c.in-Ok.ensures.taken ∙ grown) (omega arith)
    (held_short p.stage p.entries.items c.take_piece.new.piece c.in-Ok.left c.in-Ok.ensures.ready c.in-Ok.ensures.short)
