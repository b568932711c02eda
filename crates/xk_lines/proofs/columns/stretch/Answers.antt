-- no more than the text has
use Rattle.std.proofs.Common.{◌≡◌, ◌-◌, length, drop, min, take, arith}
use Rattle.std.proofs.lemmas.List.{length-drop, length-take}
use Rattle.xk_lines.proofs.ColumnLemmas.{stretch_is}
use Rattle.xk_lines.proofs.columns.stretch.Goals as goal

pub returns : goal.returns
returns c =
    let text = c.args.text.now in
    let from = c.args.from in
    let rest = length-drop from text in
    let all = length-take (length text - from) (drop from text) in
    let least = c.min.ensures in
    let size : c.min.result ≡ min (length text - from) 64 = omega (arith, rest, all, least) in
    stretch_is text from c.min.result c.requires size
