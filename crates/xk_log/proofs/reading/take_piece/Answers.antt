use Rattle.std.proofs.Common.{◌≡◌, ◌-◌, ◌<◌, ◌≤◌, ◌++◌, length, take, drop, ap, sym, ◌∙◌, subst, arith, length-take}
use Rattle.xk_log.specs.Verdicts.{before, IsOneLine, longest_line}
use Rattle.xk_log.specs.Reading.{place, HasSurplus}
use Rattle.xk_log.proofs.ReaderLemmas.{stops_long, stops_surplus, kept_front, left_size}
use Rattle.xk_log.proofs.reading.take_piece.Goals as goal

pub returns-then-left-gt-LONGEST_LINE-clause-stopped : goal.returns-then-left-gt-LONGEST_LINE-clause-stopped
returns-then-left-gt-LONGEST_LINE-clause-stopped c =
    let p = c.take_lines.new.self in
    let text = take c.args.filled c.args.piece.now in
    let left = c.in_ok-left.left in
    let size : length (drop (length text - left) text) ≡ left = left_size text left c.in_ok-left.ensures.within in
    let long : longest_line < length (drop (length text - left) text) = omega (arith, size, c.if-left-gt-LONGEST_LINE.true) in
    stops_long p.stage p.entries.items (drop (length text - left) text) _ c.line.result c.in_ok-left.ensures.ready c.in_ok-left.ensures.taken
    c.in_ok-left.ensures.one_line
    long c.line.ensures

pub returns-then-has_surplus-clause-stopped : goal.returns-then-has_surplus-clause-stopped
returns-then-has_surplus-clause-stopped c =
    let p = c.take_lines.new.self in
    let text = take c.args.filled c.args.piece.now in
    let left = c.in_ok-left.left in
    let size : length (drop (length text - left) text) ≡ left = left_size text left c.in_ok-left.ensures.within in
    stops_surplus p.stage p.entries.items (drop (length text - left) text) _ c.line-then-has_surplus.result c.in_ok-left.ensures.ready
    c.in_ok-left.ensures.taken
    (subst (HasSurplus p.stage) (sym size) (c.has_surplus.ensures.0 c.if-has_surplus.true)) c.line-then-has_surplus.ensures

pub returns-clause-one_line : goal.returns-clause-one_line
returns-clause-one_line c =
    let piece = c.args.piece.now in
    let left = c.in_ok-left.left in
    let within : left ≤ c.args.filled = omega (arith, c.in_ok-left.ensures.within, length-take c.args.filled piece) in
    subst IsOneLine (sym (kept_front piece c.copy_within.new.self c.args.filled left within c.requires.within c.copy_within.ensures.after))
    c.in_ok-left.ensures.one_line

pub returns-clause-taken : goal.returns-clause-taken
returns-clause-taken c =
    let piece = c.args.piece.now in
    let left = c.in_ok-left.left in
    let within : left ≤ c.args.filled = omega (arith, c.in_ok-left.ensures.within, length-take c.args.filled piece) in
    ap (λ l. before (place c.take_lines.new.self) ++ l) (kept_front piece c.copy_within.new.self c.args.filled left within c.requires.within
    c.copy_within.ensures.after)
    ∙ c.in_ok-left.ensures.taken
