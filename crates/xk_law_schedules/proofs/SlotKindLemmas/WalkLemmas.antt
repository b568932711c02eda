-- Walks of an accepted module: where one ends the table doesn't refuse, and the walk goes on to the kinds that the table gives.
use Rattle.std.proofs.Common.{◌≡◌, ℕ, ◌<◌, Some, sym, ap, ◌∙◌, subst}
use Rattle.std.specs.Prelude.{slice_get}
use Rattle.xk_types.specs.declared.instr.Instr.{Instr}
use Rattle.xk_types.specs.declared.rules.Rule.{Rule}
use Rattle.xk_types.specs.declared.rules.Kind.{Kind}
use Rattle.xk_types.specs.Code.{UnitValue, ModuleValue}
use Rattle.xk_types.specs.Order.{Has}
use Rattle.xk_types.specs.Walk.{After, Refused, MayBecome, IsVisited, places_after, row, row_of, after, after_to, way_of, successors}
use Rattle.xk_types.specs.Acceptance.{IsAccepted}
use Rattle.xk_types.proofs.WalkLemmas.{visited_on}

-- the row doesn't refuse
abbrev pub Allowed : After → Type 0
Allowed row = (r : Rule) → row ≡ Refused r → ⊥

-- where a walk ends, the table goes on
pub visited_allowed : (m : ModuleValue) → IsAccepted m → (unit : ℕ) (u : UnitValue) → slice_get m.units unit ≡ Some u
    → (s : ℕ) → s < u.slots → (i : Instr) (at : ℕ) → slice_get u.code at ≡ Some i → (k : Kind)
    → IsVisited m u s (record { at = at; kind = k }) → Allowed (after m u i s k)
visited_allowed m ok unit u found s inside i at here k v r e =
    ok.kinds unit s (record { at = at; kind = k }) r
    (record { u = u; found = found; slot = inside; visited = v; refused = ap (row_of m u s k) here ∙ e })

-- and to the kind that it gives, at the next place
pub visited_next : (m : ModuleValue) (u : UnitValue) (s : ℕ) (i : Instr) (at : ℕ) → slice_get u.code at ≡ Some i → (to : ℕ) (k new : Kind)
    → Has (successors i at) to → MayBecome (after_to m u i to s k) new
    → IsVisited m u s (record { at = at; kind = k }) → IsVisited m u s (record { at = to; kind = new })
visited_next m u s i at here to k new place may v =
    visited_on m u s (record { at = at; kind = k }) (record { at = to; kind = new }) v
    (record {
      place = subst (λ o. Has (places_after o at) to) (sym here) place;
      kind = subst (λ o. MayBecome (way_of m u to s k o) new) (sym here) may;
    })
