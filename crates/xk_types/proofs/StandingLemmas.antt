-- What an advance makes of standings.
use Rattle.std.proofs.Common.{◌≡◌, false, List, [], ◌∷◌, map, refl}
use Rattle.std.specs.List.{list_any}
use Rattle.xk_types.specs.declared.world.Standing.{Standing}
use Rattle.xk_types.specs.declared.world.Standing.TheVariants as standing
use Rattle.xk_types.specs.Step.{is_signalled, advanced}

-- an advance of an advanced standing changes nothing
pub advanced_twice : (s : Standing) → advanced (advanced s) ≡ advanced s
advanced_twice standing.Apart = refl
advanced_twice standing.Open = refl
advanced_twice standing.Signalled = refl
advanced_twice standing.Ahead = refl

-- nobody is signalled after an advance
pub advanced_quiet : (s : Standing) → is_signalled (advanced s) ≡ false
advanced_quiet standing.Apart = refl
advanced_quiet standing.Open = refl
advanced_quiet standing.Signalled = refl
advanced_quiet standing.Ahead = refl

pub all_quiet : (xs : List Standing) → list_any is_signalled (map advanced xs) ≡ false
all_quiet [] = refl
all_quiet (s ∷ xs) = rw (advanced_quiet s) (all_quiet xs)
