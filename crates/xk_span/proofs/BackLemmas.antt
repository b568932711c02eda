-- Going back along links, step by step.
use Rattle.std.proofs.Common.{◌≡◌, ◌∙◌, ℕ, suc, ◌+◌, ◌-◌, ◌<◌, nat_eq, Bool, true, false, List, [], ◌∷◌, ap, arith, if◌then◌else◌}
use Rattle.std.proofs.Common.{eq-eqb, ne_eqb}
use Rattle.xk_span.specs.declared.marks.Mark.{Mark}
use Rattle.xk_span.specs.Times.{mark_at}
use Rattle.xk_span.specs.Paths.{back_from}

-- who it goes back to, by whether anything weighs up to there
abbrev turn : List Mark → ℕ → Mark → Bool → List ℕ
turn links n l b = if b then [] else l.from ∷ back_from links n l.from

one : (links : List Mark) (n c j : ℕ) → c < n
    → back_from links (n - c) j ≡ turn links (n - (c + 1)) (mark_at links j) (nat_eq (mark_at links j).time 0)
one links n c j lt = let e : n - c ≡ suc (n - (c + 1)) = omega (arith, lt) in ap (λ k. back_from links k j) e

-- where nothing does, the path begins
pub back_ends : (links : List Mark) (n c j : ℕ) → c < n → (mark_at links j).time ≡ 0 → back_from links (n - c) j ≡ []
back_ends links n c j lt none =
    one links n c j lt ∙ ap (turn links (n - (c + 1)) (mark_at links j)) (eq-eqb (mark_at links j).time 0 none)

-- else it goes on
pub back_goes_on : (links : List Mark) (n c j : ℕ) → c < n → ((mark_at links j).time ≡ 0 → ⊥)
    → back_from links (n - c) j ≡ (mark_at links j).from ∷ back_from links (n - (c + 1)) (mark_at links j).from
back_goes_on links n c j lt some =
    one links n c j lt ∙ ap (turn links (n - (c + 1)) (mark_at links j)) (ne_eqb (mark_at links j).time 0 some)
