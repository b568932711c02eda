-- Where no clock advanced none is listed.
use Rattle.std.proofs.Common.{◌≡◌, ℕ, zero, suc, List, [], ◌∷◌, Bool, true, false, not, ◌&&◌, ◌==◌, slice_get, refl}
use Rattle.std.specs.List.{list_all}
use Rattle.std.specs.Option.{option_map_or}
use Rattle.xk_types.specs.World.{Clock, World}
use Rattle.xk_core.specs.Core.{advanced_now, has_advanced, is_quiet}
use Rattle.xk_scheduler.proofs.WakeLemmas.{none_pass}

both : (b r : Bool) → (not b && r) ≡ true → (b ≡ false) × (r ≡ true)
both false r h = (refl, h)
both true r h = cc

quiet_at : (now : ℕ) (ks : List Clock) (c : ℕ) → list_all (λ (k : Clock). not (k.last == now)) ks ≡ true
    → option_map_or (λ (k : Clock). k.last == now) (slice_get ks c) false ≡ false
quiet_at now [] c h = refl
quiet_at now (k ∷ ks) zero h = (both (k.last == now) (list_all (λ (x : Clock). not (x.last == now)) ks) h).0
quiet_at now (k ∷ ks) (suc c) h = quiet_at now ks c (both (k.last == now) (list_all (λ (x : Clock). not (x.last == now)) ks) h).1

pub none_advanced : (v : World) → is_quiet v ≡ true → advanced_now v ≡ []
none_advanced v quiet = none_pass (has_advanced v) _ (λ c. quiet_at v.steps v.clocks c quiet)
