-- The places of parts, as they are looked up. This project's own.
use Rattle.std.specs.Prelude.{◌≡◌, ℕ, nat_eq, List, length, unwrap_or}
use Rattle.std.specs.Map.{lookup}
use Rattle.xk_names.specs.Scope.{Table, find}
use Rattle.xk_source_semantics.specs.Parts.{Part, Run, Calls, Starts, method_among, body_among}

-- the places of methods by their names, and of bodies by the offsets of their `async`; and one that stands for all that aren't there
pub record Places : Type 0 where
  pub methods : Table ℕ
  pub bodies : List (ℕ × ℕ)
  pub other : ℕ

abbrev pub place_in : Places → Run → ℕ
place_in q (Calls g) = unwrap_or (find q.methods g.text) q.other
place_in q (Starts at) = unwrap_or (lookup (nat_eq at) q.bodies) q.other

-- they are the places of these parts
pub record ArePlaces (ps : List Part) (q : Places) : Type 0 where
  pub methods : (x : List ℕ) → find q.methods x ≡ method_among 0 ps x
  pub bodies : (at : ℕ) → lookup (nat_eq at) q.bodies ≡ body_among 0 ps at
  pub other : q.other ≡ length ps
