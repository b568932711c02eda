use Rattle.std.proofs.Common.{◌+◌, arith}
use Rattle.std.proofs.lemmas.Result.{err_from_is_err_and}
use Rattle.xk_log.proofs.LineReaderLemmas.{refused_full, refused_memory}
use Rattle.xk_log.proofs.progress.Progress.take_body.Goals as goal

pub returns-then-count-ge-MOST_ENTRIES-clause-refused : goal.returns-then-count-ge-MOST_ENTRIES-clause-refused
returns-then-count-ge-MOST_ENTRIES-clause-refused c =
    let p = c.args.self.now in
    refused_full p.stage p.entries.items c.in-Some.entry c.args.line.now (c.len-count.result + 2) c.requires.stage (omega arith)
    c.in-Some.ensures.fits c.in-Some.ensures.found (omega arith)

pub returns-in_err-push-in-Some-clause-refused : goal.returns-in_err-push-in-Some-clause-refused
returns-in_err-push-in-Some-clause-refused c =
    let p = c.args.self.now in
    let q = err_from_is_err_and c.from_residual.result c.from_residual.ensures.1 in
    rw (q.1, q.2) (refused_memory p.stage p.entries.items c.in-Some.entry c.args.line.now c.requires.stage c.in-Some.ensures.fits
    c.in-Some.ensures.found)
