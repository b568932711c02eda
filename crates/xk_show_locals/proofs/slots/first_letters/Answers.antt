use Rattle.std.proofs.Common.{◌≡◌, ◌∙◌, length, min, take, ap, arith}
use Rattle.std.proofs.lemmas.List.{take_min}
use Rattle.xk_show_locals.proofs.slots.first_letters.Goals as goal

-- a shorter name is all of its first letters
pub returns : goal.returns
returns c =
    let name = c.args.name.now in
    let least = c.min.ensures in
    let size : c.min.result ≡ min 30 (length name) = omega (arith, least) in
    ap (λ k. take k name) size ∙ take_min 30 name
