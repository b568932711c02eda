use Rattle.std.proofs.Common.{◌++◌, ◌∙◌, List, ℕ, ap, codes, decimal}
use Rattle.std.proofs.lemmas.Result.{IfOk-weaker}
use Rattle.xk_io.specs.Row.{numbers_text}
use Rattle.xk_random.proofs.text.share_line.Goals as goal

pub returns : goal.returns
returns c =
    IfOk-weaker c.format.result _ _
    (λ text h. h
    ∙ ap (λ (t : List ℕ).
    codes "runs " ++ (decimal c.args.share.now.runs ++ (codes " first seed " ++ (decimal c.args.share.now.first ++ (codes " prints" ++ (t ++ codes "\n"))))))
    (c.in_ok-numbers.ensures ∙ ap numbers_text c.deref.ensures.value))
    c.format.ensures.ok
