-- Edges of walks: where they lead, with which kind, and that they stay inside the code.
use Rattle.std.proofs.Common.{◌≡◌, ℕ, ◌<◌, List, length, Option, Some, None, slice_get, get_or, refl, sym, ap, ◌∙◌, subst}
use Rattle.std.proofs.lemmas.Option.{slice_get_read}
use Rattle.xk_types.specs.declared.instr.Instr.{Instr}
use Rattle.xk_types.specs.declared.rules.Kind.{Kind}
use Rattle.xk_types.specs.declared.rules.Visit.{Visit}
use Rattle.xk_types.specs.Code.{UnitValue, ModuleValue}
use Rattle.xk_types.specs.Order.{Has}
use Rattle.xk_types.specs.Walk.{After, MayBecome, IsEdge, places_after, way_of, after_to, stays, passes_over, successors}
use Rattle.xk_typestate.specs.KindSet.{KindsValue, kinds_have}
use Rattle.xk_typestate.specs.Transfer.{way_kinds}
use Rattle.std.specs.Prelude.{◌↔◌, IsTrue, Bool, true, false, if◌then◌else◌}
use Rattle.xk_typestate.specs.Place.{visit}
use Rattle.xk_typestate.specs.Search.{IsClosed}

-- a stop is its place and its kind
pub same_visit : (p q : Visit) → p.at ≡ q.at → p.kind ≡ q.kind → p ≡ q
same_visit p q e f = ap (λ n. visit n p.kind) e ∙ ap (visit q.at) f

-- what may be left on the way to a place
pub way_may : (i : Instr) (k : Kind) (a : After) (on past : KindsValue) → ((j : Kind) → IsTrue (kinds_have on j) ↔ MayBecome a j)
    → ((j : Kind) → IsTrue (kinds_have past j) ↔ MayBecome (stays k a) j)
    → (to : ℕ) (j : Kind) → IsTrue (kinds_have (way_kinds i to on past) j) ↔ MayBecome (if passes_over i to then stays k a else a) j
way_may i k a on past h g to j = by (passes_over i to)
  where
    by : (b : Bool) → IsTrue (kinds_have (if b then past else on) j) ↔ MayBecome (if b then stays k a else a) j
    by true = g j
    by false = h j

module _ (m : ModuleValue) (u : UnitValue) (s : ℕ) where
  -- an edge, where the instruction is known
  pub edge_of : (p : Visit) (i : Instr) (to : ℕ) (k : Kind) → slice_get u.code p.at ≡ Some i → Has (successors i p.at) to → MayBecome (after_to m u i to s p.kind) k
      → IsEdge m u s p (visit to k)
  edge_of p i to k found place kind = record {
    place = let P : Option Instr → Type 0 = λ o. Has (places_after o p.at) to in subst P (sym found) place;
    kind = let P : Option Instr → Type 0 = λ o. MayBecome (way_of m u to s p.kind o) k in subst P (sym found) kind;
  }

  -- where an edge leads
  pub edge_place : (p q : Visit) (i : Instr) → slice_get u.code p.at ≡ Some i → IsEdge m u s p q → Has (successors i p.at) q.at
  edge_place p q i found edge = let P : Option Instr → Type 0 = λ o. Has (places_after o p.at) q.at in subst P found edge.place

  -- and with which kind
  pub edge_kind : (p q : Visit) (i : Instr) → slice_get u.code p.at ≡ Some i → IsEdge m u s p q → MayBecome (after_to m u i q.at s p.kind) q.kind
  edge_kind p q i found edge = let P : Option Instr → Type 0 = λ o. MayBecome (way_of m u q.at s p.kind o) q.kind in subst P found edge.kind

  place_inside : IsClosed u → (at to : ℕ) (o : Option Instr) → slice_get u.code at ≡ o → Has (places_after o at) to → to < length u.code
  place_inside closed at to None found h = absurd h
  place_inside closed at to (Some i) found h = closed.inside at i to found h

  -- edges stay inside the code
  pub edge_inside : IsClosed u → (p q : Visit) → IsEdge m u s p q → q.at < length u.code
  edge_inside closed p q edge = place_inside closed p.at q.at (slice_get u.code p.at) refl edge.place

-- ---- as loops read code

-- an element of a list
pub found_read : (xs code : List Instr) (n : ℕ) (i : Instr) → xs ≡ code → n < length xs → i ≡ get_or xs n i → slice_get code n ≡ Some i
found_read xs code n i same lt read = ap (λ ys. slice_get ys n) (sym same) ∙ slice_get_read xs (length xs) n i refl lt read
