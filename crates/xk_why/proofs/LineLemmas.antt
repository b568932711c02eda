-- What is told goes by places, names, steps and what a step rests on alone.
use Rattle.std.proofs.Common.{◌≡◌, ◌∙◌, ℕ, List, ap}
use Rattle.xk_show_events.specs.Events.{PlacesValue}
use Rattle.xk_show_names.specs.declared.accounts.Account.{Account}
use Rattle.xk_show_names.specs.ClockNames.{NamesValue}
use Rattle.xk_why.specs.Lines.{why_lines}

pub same_lines : (p q : PlacesValue) (n k : NamesValue) (steps others : List Account) (number : ℕ) (rest more : List ℕ) → p ≡ q → n ≡ k
    → steps ≡ others → rest ≡ more → why_lines p n steps number rest ≡ why_lines q k others number more
same_lines p q n k steps others number rest more places names same is =
    ap (λ x. why_lines x n steps number rest) places
    ∙ ap (λ x. why_lines q x steps number rest) names
    ∙ ap (λ x. why_lines q k x number rest) same
    ∙ ap (λ x. why_lines q k others number x) is
