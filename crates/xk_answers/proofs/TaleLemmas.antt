-- What is told, and whether it is whole.
use Rattle.std.proofs.Common.{◌≡◌, ◌∙◌, ℕ, Bool, List, ap}

pub both_told : (text said : List ℕ) (whole free : Bool) → text ≡ said → whole ≡ free
    → ◌≡◌ {A = List ℕ × Bool} (text, whole) (said, free)
both_told text said whole free told is =
    ap {A = List ℕ} {B = List ℕ × Bool} (λ t. (t, whole)) told ∙ ap {A = Bool} {B = List ℕ × Bool} (λ w. (said, w)) is
