-- from behind the blanks up to the line's end
use Rattle.std.proofs.Common.{◌≡◌, ◌-◌, ◌≤◌, length, Some, slice_get, sym, ap, ◌∙◌, arith}
use Rattle.xk_lines.specs.Lines.{line_start, line_starts, words_at}
use Rattle.xk_lines.proofs.ExtentLemmas.{extent_read, stands_in, words_read}
use Rattle.xk_lines.proofs.lines.LineStarts.words_at.Goals as goal

pub part_of-requires : goal.part_of-requires
part_of-requires c =
    let text = c.self.inside.text.now in
    let line = c.line-line.result in
    let extent = c.index-extent.result.now in
    let listed : slice_get (line_starts text) (line.number - 1) ≡ Some line.start =
    ap (λ t. slice_get (line_starts t) (line.number - 1)) c.self.view_is ∙ c.line-line.ensures.listed in
    let read = extent_read text c.self.inside.extents.items (line.number - 1) line.start extent c.self.invariant.1 listed c.index-extent.ensures in
    let len = ap length c.self.view_is in
    let before = c.line-line.ensures.before in
    let inside = c.requires in
    stands_in text line.start extent (omega (arith, len, before, inside)) read

pub returns : goal.returns
returns c =
    let text = c.self.inside.text.now in
    let line = c.line-line.result in
    let extent = c.index-extent.result.now in
    let listed : slice_get (line_starts text) (line.number - 1) ≡ Some line.start =
    ap (λ t. slice_get (line_starts t) (line.number - 1)) c.self.view_is ∙ c.line-line.ensures.listed in
    let read = extent_read text c.self.inside.extents.items (line.number - 1) line.start extent c.self.invariant.1 listed c.index-extent.ensures in
    let begins : line.start ≡ line_start text c.args.offset = c.line-line.ensures.start ∙ ap (λ t. line_start t c.args.offset) (sym c.self.view_is) in
    c.part_of.ensures ∙ words_read text c.args.offset line.start extent begins read ∙ ap (λ t. words_at t c.args.offset) c.self.view_is
