-- Who holds a clock up, and whom. X10 Language Specification 2.4, chapter Clocks: a clock advances when all that are
-- registered on it have resumed it.
use Rattle.std.specs.Prelude.{◌≡◌, ℕ, ◌<◌, ◌⊎◌, true, List, [], ◌∷◌, length}
use Rattle.xk_types.specs.declared.world.Standing.TheVariants as standing
use Rattle.xk_types.specs.World.{World}
use Rattle.xk_types.specs.Step.{is_pending}
use Rattle.xk_law_traces.specs.Edges.{standing_on}

-- none of these steps is activity d's
abbrev pub AreOthers : ℕ → List ℕ → Type 0
AreOthers d [] = Unit {0}
AreOthers d (a ∷ list) = (d ≡ a → ⊥) × AreOthers d list

-- Activity d is registered on clock c, and hasn't resumed it in this phase; b is registered on it, and has passed the
-- phase before, or had not to.
pub record IsHeldUp (w : World) (c b d : ℕ) : Type 0 where
  pub holder : is_pending (standing_on w d c) ≡ true
  pub waiter : (standing_on w b c ≡ standing.Open) ⊎ (standing_on w b c ≡ standing.Signalled)
  pub first : b < length w.activities
  pub second : d < length w.activities
