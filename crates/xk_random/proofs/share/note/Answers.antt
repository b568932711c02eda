use Rattle.std.proofs.Common.{◌∙◌, ap, sym, map}
use Rattle.xk_random.specs.Shares.{share_value}
use Rattle.xk_random.proofs.ShareLemmas.{noted_at, noted_new}
use Rattle.xk_random.proofs.share.note.Goals as goal

pub returns-in-Some : goal.returns-in-Some
returns-in-Some c =
    c.count.ensures ∙ noted_at c.args.seed c.args.numbers.items c.args.shares.now.entries c.in-Some.place (sym c.in-Some.ensures.index)

pub returns : goal.returns
returns c =
    ap (map share_value) c.in_ok-insert.ensures.entries
    ∙ noted_new c.args.seed c.args.numbers c.args.shares.now.entries (sym c.in_default.ensures.index)
