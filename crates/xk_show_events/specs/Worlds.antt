-- Words that all that is told of runs has in common: lists number by number, clocks by their numbers, and where a run comes to. What worlds and runs
-- are, `xk_types` says in `World.antt` and `Schedule.antt`.
use Rattle.std.specs.Prelude.{ℕ, zero, suc, Bool, List, [], ◌∷◌, ◌++◌, slice_get, if◌then◌else◌}
use Rattle.std.specs.Option.{option_map_or}
use Rattle.xk_types.specs.World.{World}
use Rattle.xk_types.specs.Schedule.{Course, Through, Held, Wronged}

-- what comes of each number below this one, in order
abbrev pub each_below : {X : Type 0} → (ℕ → List X) → ℕ → List X
each_below told zero = []
each_below told (suc n) = each_below told n ++ told n

-- those below this number who pass, rising
abbrev pub those_below : (ℕ → Bool) → ℕ → List ℕ
those_below test n = each_below (λ k. if test k then k ∷ [] else []) n

-- the phase of clock c
abbrev pub phase_of : World → ℕ → ℕ
phase_of w c = option_map_or (λ k. k.phase) (slice_get w.clocks c) 0

-- the world in which a run comes to its end, or before the first step that can't be taken
abbrev pub last_world : Course → World
last_world (Through w) = w
last_world (Held w) = w
last_world (Wronged w c) = w
