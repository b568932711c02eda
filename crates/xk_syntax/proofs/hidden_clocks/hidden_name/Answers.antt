use Rattle.std.proofs.Common.{◌≡◌, ℕ, suc, replicate, ap, ◌∙◌, arith, min}
use Rattle.std.proofs.lemmas.List.{take-replicate}
use Rattle.xk_syntax.proofs.hidden_clocks.hidden_name.Goals as goal

pub returns-clause-spaces : goal.returns-clause-spaces
returns-clause-spaces c =
    let n : ℕ = c.min-spaces.result in
    let is : n ≡ min (suc c.args.levels) 64 = omega (arith, c.min-spaces.ensures) in
    take-replicate n 64 32 (omega (arith, is)) ∙ ap (λ (k : ℕ). replicate {A = ℕ} k 32) is
