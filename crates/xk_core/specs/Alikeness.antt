-- What two cores have to have in common, for their worlds to be alike.
use Rattle.std.specs.Prelude.{◌≡◌, ℕ, Bool, IsTrue, option_map, slice_get}
use Rattle.xk_types.specs.World.{Activity, World, standing_of}
use Rattle.xk_law_commute.specs.PlainWorlds.{plain_activity, plain_clock}
use Rattle.xk_core.specs.Core.{CoreValue}

-- two activities have as many finishes open, and the same governs them
abbrev pub AreUnderSameFinishes : Activity → Activity → Type 0
AreUnderSameFinishes x y = (x.opened ≡ y.opened) × (x.governed ≡ y.governed)

-- activity a is the same in both worlds, but for its last pass
abbrev pub IsAlikeActivity : World → World → ℕ → Type 0
IsAlikeActivity w v a = option_map plain_activity (slice_get w.activities a) ≡ option_map plain_activity (slice_get v.activities a)

-- clock k is the same in both, but for its phase and its last advance
abbrev pub IsAlikeClock : World → World → ℕ → Type 0
IsAlikeClock w v k = option_map plain_clock (slice_get w.clocks k) ≡ option_map plain_clock (slice_get v.clocks k)

-- activity a stands on it in both where it stands in one
abbrev pub StandsAlike : World → World → ℕ → ℕ → Type 0
StandsAlike w v k a = option_map (λ c. standing_of c a) (slice_get w.clocks k) ≡ option_map (λ c. standing_of c a) (slice_get v.clocks k)

-- a yes says that it holds; and of two cores of one module a no says that it doesn't
abbrev pub Tells : CoreValue → CoreValue → Bool → Type 0 → Type 0
Tells c d answer P = (IsTrue answer → P) × (c.module_run ≡ d.module_run → P → IsTrue answer)
