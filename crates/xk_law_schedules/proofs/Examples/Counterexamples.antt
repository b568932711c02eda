-- The premises of the laws are needed: a module for each, of which the law is false without it.
use Rattle.xk_law_schedules.proofs.Examples.Opening.{fresh}
use Rattle.std.proofs.Common.{◌≡◌, ℕ, zero, suc, inl, inr, [], ◌∷◌, refl, sym, subst, arith}
use Rattle.std.specs.Prelude.{slice_get}
use Rattle.std.proofs.lemmas.List.Elements.{All-cons, All-nil, All-from_recursion}
use Rattle.std.proofs.lemmas.Option.{none-some, same_Some}
use Rattle.xk_types.specs.declared.instr.Instr.TheVariants as instr
use Rattle.xk_types.specs.declared.unit.UnitKind.TheVariants as unit_kind
use Rattle.xk_types.specs.declared.world.Value.TheVariants as value
use Rattle.xk_types.specs.declared.rules.Kind.{Kind}
use Rattle.xk_types.specs.declared.rules.Kind.TheVariants as kind
use Rattle.xk_types.specs.declared.rules.Visit.{Visit}
use Rattle.xk_types.specs.Code.{UnitValue, ModuleValue, IsUnitWithinLimits, IsWithinLimits}
use Rattle.xk_types.specs.Order.{Has}
use Rattle.xk_types.specs.World.{main_of}
use Rattle.xk_types.specs.Step.{Missing, OutOfRange}
use Rattle.xk_types.specs.World.{World}
use Rattle.xk_types.specs.Schedule.{Course, Through, Held, Wronged, run}
use Rattle.xk_types.specs.Acceptance.{IsAccepted, EverySchedule}
use Rattle.xk_types.specs.Walk.{MayBecome, IsVisited, places_after, way_of, overwritten, becomes}
use Rattle.xk_types.specs.Kinds.{KindsAreSound}
use Rattle.xk_types.proofs.WalkLemmas.{visited_closed}
use Rattle.xk_law_schedules.proofs.Examples.AcceptanceTest.{HasFewArguments}

-- a clock that was never made is dropped
abbrev drop_unit : UnitValue
drop_unit = record { kind = unit_kind.Main; params = []; slots = 1; code = instr.Drop 0 ∷ instr.Ret ∷ [] }

-- a module of it alone
abbrev drop_row : ModuleValue
drop_row = record { shared = []; units = drop_unit ∷ [] }

-- it is within the limits
drop_limits : IsWithinLimits drop_row
drop_limits = record {
  some = omega arith;
  units = omega arith;
  shared = omega arith;
  each = All-cons IsUnitWithinLimits drop_unit []
      (record { slots = omega arith; params = omega arith; code = omega arith; arguments = All-from_recursion HasFewArguments drop_unit.code (omega arith) })
      (All-nil IsUnitWithinLimits);
}

-- not every module within the limits keeps the law
pub accepted_needed : ((m : ModuleValue) → IsWithinLimits m → EverySchedule m) → ⊥
accepted_needed h = (h drop_row drop_limits).never_wrong [] refl (0 ∷ []) (fresh drop_row) Missing refl

-- a module of no unit
abbrev no_unit : ModuleValue
no_unit = record { shared = []; units = [] }

-- it is accepted
no_unit_accepted : IsAccepted no_unit
unfolding Rattle.xk_types.specs.Bound.total_within
no_unit_accepted = record {
  shape = λ r unit at. refl;
  kinds = λ unit s q r h. none-some h.u h.found;
  bounds = record { steps = omega arith; activities = omega arith; clocks = omega arith; stack = omega arith };
}

-- nor does every module that is accepted
pub limits_needed : ((m : ModuleValue) → IsAccepted m → EverySchedule m) → ⊥
limits_needed h = (h no_unit no_unit_accepted).never_wrong [] refl (0 ∷ []) (fresh no_unit) OutOfRange refl

-- ---- the kinds

-- a clock's name is overwritten while the activity is registered on the clock
abbrev leak_unit : UnitValue
leak_unit = record { kind = unit_kind.Main; params = []; slots = 1; code = instr.Make 0 ∷ instr.Make 0 ∷ instr.Ret ∷ [] }

-- a module of it alone
abbrev leak_row : ModuleValue
leak_row = record { shared = []; units = leak_unit ∷ [] }

-- it is within the limits
leak_limits : IsWithinLimits leak_row
leak_limits = record {
  some = omega arith;
  units = omega arith;
  shared = omega arith;
  each = All-cons IsUnitWithinLimits leak_unit []
      (record { slots = omega arith; params = omega arith; code = omega arith; arguments = All-from_recursion HasFewArguments leak_unit.code (omega arith) })
      (All-nil IsUnitWithinLimits);
}

-- walks come to its second `make` with live, and no further
abbrev Comes : ℕ → Kind → Type 0
Comes zero k = Unit {0}
Comes (suc zero) k = k ≡ kind.Live
Comes (suc (suc at)) k = ⊥

-- what the first `make` leaves
made_live : (k new : Kind) → MayBecome (overwritten k (becomes kind.Live)) new → new ≡ kind.Live
made_live kind.Unset new (inl e) = sym e
made_live kind.Unset new (inr none) = absurd none
made_live kind.Number new (inl e) = sym e
made_live kind.Number new (inr none) = absurd none
made_live kind.Live new may = absurd may
made_live kind.Resumed new may = absurd may
made_live kind.Out new (inl e) = sym e
made_live kind.Out new (inr none) = absurd none

-- where its walks come
leak_comes : (q : Visit) → IsVisited leak_row leak_unit 0 q → Comes q.at q.kind
leak_comes q v = visited_closed leak_row leak_unit 0 (λ p. Comes p.at p.kind) (λ p first entry. subst (λ at. Comes at p.kind) (sym first) tt)
    (λ p r h e. along p.at p.kind r.at r.kind h e.place e.kind) q v
  where
    along : (at : ℕ) (k : Kind) (to : ℕ) (new : Kind) → Comes at k → Has (places_after (slice_get leak_unit.code at) at) to
        → MayBecome (way_of leak_row leak_unit to 0 k (slice_get leak_unit.code at)) new → Comes to new
    along zero k to new h (inl on) may = subst (λ t. Comes t new) on (made_live k new may)
    along zero k to new h (inr none) may = absurd none
    along (suc zero) k to new h place may = absurd (subst (λ x. MayBecome (way_of leak_row leak_unit to 0 x (slice_get leak_unit.code 1)) new) h may)
    along (suc (suc at)) k to new h place may = absurd h

-- where two steps lead, if they do
abbrev through : Course → World
through (Through w) = w
through (Held w) = w
through (Wronged w c) = w

abbrev leaked : World
leaked = through (run leak_row (0 ∷ 0 ∷ []) (fresh leak_row))

-- not every module within the limits has sound kinds
pub accepted_needed_by_kinds : ((m : ModuleValue) → IsWithinLimits m → KindsAreSound m) → ⊥
accepted_needed_by_kinds h =
    let k = h leak_row leak_limits (0 ∷ 0 ∷ []) leaked (refl, refl) 0 _ refl refl in
    leak_comes (record { at = 2; kind = kind.Live })
    (subst (λ u. IsVisited leak_row u 0 (record { at = 2; kind = kind.Live })) (sym (same_Some leak_unit k.u k.found)) (k.visited 0 (value.Clock 1) refl))

-- nor has every module that is accepted
pub limits_needed_by_kinds : ((m : ModuleValue) → IsAccepted m → KindsAreSound m) → ⊥
limits_needed_by_kinds h = let k = h no_unit no_unit_accepted [] (fresh no_unit) (refl, refl) 0 (main_of no_unit []) refl refl in none-some k.u k.found
