use Rattle.std.proofs.Common.{◌≡◌, ◌∙◌, length, min, take, ap, arith}
use Rattle.std.proofs.lemmas.List.{take_min}
use Rattle.xk_explain_faults.proofs.further.first_of.Goals as goal

-- fewer are all of them
pub returns : goal.returns
returns c =
    let faults = c.args.faults.now in
    let least = c.min.ensures in
    let size : c.min.result ≡ min 9 (length faults) = omega (arith, least) in
    ap (λ k. take k faults) size ∙ take_min 9 faults
