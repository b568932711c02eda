-- The line of a place with carets, put together.
use Rattle.std.proofs.Common.{◌≡◌, ◌∙◌, ℕ, List, [], ◌∷◌, ◌++◌, drop, append_assoc, ap}
use Rattle.xk_lines.specs.Excerpts.{excerpt}
use Rattle.xk_explain.specs.Explanations.{excerpt_lines, marked_from}

-- what was added to a text is the excerpt and a line feed
pub excerpt_added : (out text lines shown made mid new : List ℕ) (at marked : ℕ) → new ≡ mid ++ 10 ∷ [] → mid ≡ out ++ shown → shown ≡ made
    → made ≡ excerpt lines at marked → lines ≡ text → marked ≡ marked_from (drop at text) → new ≡ out ++ excerpt_lines text at
unfolding excerpt_lines
excerpt_added out text lines shown made mid new at marked pushed added same is lines_are marked_is =
    let made_is : made ≡ excerpt text at (marked_from (drop at text)) = is ∙ ap (λ t. excerpt t at marked) lines_are ∙ ap (excerpt text at) marked_is in
    pushed ∙ ap (λ m. m ++ 10 ∷ []) (added ∙ ap (λ s. out ++ s) (same ∙ made_is)) ∙ append_assoc out (excerpt text at (marked_from (drop at text))) (10 ∷ [])
