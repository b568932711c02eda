-- one mark more
use Rattle.std.proofs.Common.{◌≡◌, ◌*◌, ap, take, drop, ◌∙◌, arith}
use Rattle.xk_lines.specs.Lines.{columns}
use Rattle.xk_lines.proofs.ColumnLemmas.{columns_few, marks_more, one_longer, seen_more}
use Rattle.xk_lines.proofs.columns.marks_of.Goals as goal

pub loop-k-preserved : goal.loop-k-preserved
loop-k-preserved c =
    let text = c.args.text.now in
    let k = c.loop-k.k in
    let marks = c.loop-k.marks.items in
    let inv = c.loop-k.invariant in
    let more : c.columns-seen.result ≡ columns (take 64 (drop (k * 64) text)) = c.columns-seen.ensures.count ∙ ap columns c.stretch.ensures in
    let seen = seen_more text k c.loop-k.seen c.columns-seen.result inv.seen more in
    let few = columns_few (drop (k * 64) text) 64 in
    let small = inv.small in
    record {
      so_many = one_longer marks c.push.new.self.items k c.loop-k.seen c.in_ok-push.ensures.items inv.so_many;
      each = marks_more text marks c.push.new.self.items k c.loop-k.seen c.in_ok-push.ensures.items inv.so_many inv.each inv.seen;
      seen = seen;
      small = omega (arith, more, few, small);
    }
