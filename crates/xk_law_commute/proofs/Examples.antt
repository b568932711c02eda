-- Why worlds are compared without phases, and why one who passes mustn't be signalled: by evaluation.
use Rattle.std.proofs.Common.{◌≡◌, [], ◌∷◌, refl}
use Rattle.xk_types.specs.declared.world.Standing.TheVariants as standing
use Rattle.xk_types.specs.World.{Clock}
use Rattle.xk_law_commute.specs.ClockChanges.{Resumes, Passes, Drops, after_change}

-- activity 0 is signalled, activity 1 is open, nobody else is registered
two : Clock
two = record { phase = 0; last = 0; standings = standing.Signalled ∷ standing.Open ∷ [] }

-- 1 drops, and the clock advances, and then 0 drops
drops_last : after_change 2 0 Drops (after_change 1 1 Drops two) ≡ record { phase = 1; last = 1; standings = standing.Apart ∷ standing.Apart ∷ [] }
unfolding two
drops_last = refl

-- 0 drops, and then 1: nobody is left for whom it could advance
drops_first : after_change 2 1 Drops (after_change 1 0 Drops two) ≡ record { phase = 0; last = 0; standings = standing.Apart ∷ standing.Apart ∷ [] }
unfolding two
drops_first = refl

-- if 0 passed, though it is signalled, and then 1 resumed, the clock would advance only then
passes_first : (after_change 2 1 Resumes (after_change 1 0 Passes two)).standings ≡ standing.Ahead ∷ standing.Ahead ∷ []
unfolding two
passes_first = refl

-- in the other order it would pass after the advance
passes_last : (after_change 2 0 Passes (after_change 1 1 Resumes two)).standings ≡ standing.Open ∷ standing.Ahead ∷ []
unfolding two
passes_last = refl
