use Rattle.std.proofs.Common.{sym, ap, ◌∙◌, ◌-◌, take, drop, arith}
use Rattle.std.proofs.lemmas.List.{drop-take}
use Rattle.xk_activity.proofs.slots.part.Goals as goal

pub returns : goal.returns
returns c =
    sym (drop-take c.args.base (c.args.top - c.args.base) c.args.words.now)
    ∙ ap (λ n. drop c.args.base (take n c.args.words.now)) (let b = c.requires.base in omega arith)
