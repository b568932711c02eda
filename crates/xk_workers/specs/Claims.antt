-- Claims: whose local steps somebody computes, so that nobody else takes a step of it. This project's own.
use Rattle.std.specs.Prelude.{◌≡◌, ℕ, suc, Bool, true, false, List, [], ◌∷◌, ◌++◌, length, slice_index_or}
use Rattle.std.specs.Vec.{vec_capacity}
use Rattle.xk_types.specs.declared.world.Event.{Event}
use Rattle.xk_types.specs.declared.world.Event.TheVariants as event
use Rattle.xk_core.specs.Core.{CoreValue, is_next_local}
use Rattle.xk_workers.specs.declared.claims.Claims.{Claims}

-- who is claimed, by number
abbrev pub claims_in : Claims → List Bool
claims_in c = c.main ∷ c.children.items

-- how many claims there is room for without more memory
abbrev pub claims_room : Claims → ℕ
claims_room c = suc (vec_capacity c.children)

-- activity a is claimed
abbrev pub is_claimed : List Bool → ℕ → Bool
is_claimed claims a = slice_index_or claims a false

-- the claims after a step that is seen so: nobody has claimed an activity that it started
abbrev pub claims_after : Event → List Bool → List Bool
claims_after event.Spawned claims = claims ++ false ∷ []
claims_after _ claims = claims

-- Each activity has a place among the claims, and can so be claimed once at a time; the next step of each that is claimed is local.
pub record AreClaims (c : CoreValue) (claims : List Bool) : Type 0 where
  pub wide : length claims ≡ length c.world.activities
  pub local : (a : ℕ) → is_claimed claims a ≡ true → is_next_local c a ≡ true
