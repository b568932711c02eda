-- The opening world keeps the invariants.
use Rattle.std.proofs.Common.{◌≡◌, ℕ, ℤ, zero, suc, true, false, not, ◌==◌, List, [], ◌∷◌, length, map, replicate, Some, refl, sym, ap, ◌∙◌, subst, arith, inl, inr, eqb-true}
use Rattle.std.specs.Prelude.{slice_get}
use Rattle.std.specs.Option.{option_map_or}
use Rattle.std.proofs.lemmas.Bool.{false≢true, not-false, and_parts, or_parts}
use Rattle.std.proofs.lemmas.List.{length-replicate, nil_from_length}
use Rattle.std.proofs.lemmas.List.Sums.{sum_by-cons}
use Rattle.std.proofs.lemmas.Option.{none-some, same_Some}
use Rattle.xk_types.specs.declared.instr.Instr.{Instr}
use Rattle.xk_types.specs.declared.world.Value.{Value}
use Rattle.xk_types.specs.declared.world.Value.TheVariants as value
use Rattle.xk_types.specs.declared.world.Status.TheVariants as status
use Rattle.xk_types.specs.declared.rules.Rule.TheVariants as rule
use Rattle.xk_types.specs.declared.rules.Kind.TheVariants as kind
use Rattle.xk_types.specs.Code.{UnitValue, ModuleValue, IsWithinLimits, is_main, params_of, clock_arguments}
use Rattle.xk_types.specs.Order.{Has}
use Rattle.xk_types.specs.World.{opening, main_of, start_of, slots_of, AreArguments}
use Rattle.xk_types.specs.Shape.{instr_is, is_in_place, runs_amiss, has_twice, HasShape}
use Rattle.xk_types.specs.Walk.{entry_kinds, entry_of}
use Rattle.xk_types.specs.Bound.{steps_weight, activities_weight, clocks_weight, total}
use Rattle.xk_types.specs.Acceptance.{IsAccepted}
use Rattle.xk_law_schedules.proofs.Invariant.{Each, IsFrameSound, IsActivitySound, IsSound, stands_on, looks, owed, owing}
use Rattle.xk_law_schedules.proofs.SafetyLemmas.ArgumentLemmas.{IsGivenTo, AreGiven, Begun, frame_begun}
use Rattle.xk_types.specs.declared.unit.ParamKind.{ParamKind}
use Rattle.xk_types.specs.declared.unit.ParamKind.TheVariants as param
use Rattle.xk_types.specs.declared.world.Standing.{Standing}
use Rattle.xk_types.proofs.MembershipLemmas.{none_has}
use Rattle.std.specs.List.{list_any}
use Rattle.std.proofs.lemmas.List.{length-map}
use Rattle.std.proofs.lemmas.Option.{slice_get_within}
use Rattle.std.proofs.lemmas.Bool.{not-true}
use Rattle.xk_types.proofs.ListLemmas.{get_inside, get-replicate}
use Rattle.xk_law_schedules.proofs.BoundLemmas.MeasureLemmas.{owed_first}
use Rattle.xk_law_schedules.proofs.BoundLemmas.TotalLemmas.{stack_within_bound}
use Rattle.xk_types.proofs.WalkLemmas.{visited_entry}
use Rattle.xk_law_schedules.proofs.ShapeLemmas.UnitLemmas.{unit_fits, unbroken}
use Rattle.xk_types.specs.Blocks.{depth_at, takes_clock}
use Rattle.xk_law_schedules.proofs.ShapeLemmas.BlockLemmas.{block_start}
use Rattle.xk_law_schedules.proofs.ScopeLemmas.Invariant.{opened_in, IsScopedIn, IsScoped}

-- what holds of the only element
each_one : {X : Type 0} (P : ℕ → X → Type 0) (x : X) → P 0 x → Each P (x ∷ [])
each_one P x h zero y e = subst (P zero) (same_Some x y e) h
each_one P x h (suc i) y e = absurd (none-some y e)

-- an element at a place is one
get_has : {X : Type 0} (xs : List X) (s : ℕ) (x : X) → slice_get xs s ≡ Some x → Has xs x
get_has [] s x h = absurd (none-some x h)
get_has (y ∷ ys) zero x h = inl (same_Some y x h)
get_has (y ∷ ys) (suc s) x h = inr (get_has ys s x h)

-- a parameter that takes no clock takes a number
takes_number : (p : ParamKind) → takes_clock (Some p) ≡ false → p ≡ param.Number
takes_number param.Number h = refl
takes_number param.Clock h = absurd (false≢true (sym h))

-- numbers are given to parameters that take no clock
numbers_given : (stands : ℕ → Standing) (slots : List Value) (ps : List ParamKind) (args : List ℤ) → length args ≡ length ps → list_any (λ p. takes_clock (Some p)) ps ≡ false
    → AreGiven stands slots ps [] (map (λ n. value.Number n) args)
numbers_given stands slots ps args width none = record {
  width = length-map args (λ n. value.Number n) ∙ width;
  each = λ s v h. number s v (any_mapped args s v h) (get_inside ps s (let g = slice_get_within (map (λ n. value.Number n) args) s v h in omega (arith, length-map args (λ n. value.Number n))));
}
  where
    any_mapped : (ns : List ℤ) (s : ℕ) (v : Value) → slice_get (map (λ n. value.Number n) ns) s ≡ Some v → (n : ℤ) × (value.Number n ≡ v)
    any_mapped [] s v h = absurd (none-some v h)
    any_mapped (n ∷ ns) zero v h = (n, same_Some (value.Number n) v h)
    any_mapped (n ∷ ns) (suc s) v h = any_mapped ns s v h

    number : (s : ℕ) (v : Value) → (n : ℤ) × (value.Number n ≡ v) → (p : ParamKind) × (slice_get ps s ≡ Some p) → IsGivenTo stands slots (slice_get ps s) (slice_get [] s) v
    number s v n p = subst (IsGivenTo stands slots (slice_get ps s) (slice_get [] s)) n.1
        (p.1 ∙ ap (λ x. Some x) (takes_number p.0 (none_has (λ q. takes_clock (Some q)) ps p.0 none (get_has ps s p.0 p.1))))

-- main takes numbers alone
main_takes : (m : ModuleValue) → HasShape m → (u : UnitValue) → slice_get m.units 0 ≡ Some u → list_any (λ p. takes_clock (Some p)) u.params ≡ false
main_takes m shape u found = not-true (list_any (λ p. takes_clock (Some p)) u.params)
    (and_parts (is_main u.kind) (not (list_any (λ p. takes_clock (Some p)) u.params)) in_place).1
  where
    in_place : is_in_place 0 u ≡ true
    in_place = not-false (is_in_place 0 u) (or_parts (not (is_in_place 0 u)) (instr_is (runs_amiss m 0) (slice_get u.code 0)) (unbroken m shape rule.Unit 0 u found 0)).0

-- main owes all that its unit weighs
owing_main : (weight : Instr → ℕ) (half : ℕ) (m : ModuleValue) → HasShape m → (u : UnitValue) → slice_get m.units 0 ≡ Some u
    → (args : List ℤ) → owing weight half m (main_of m args ∷ []) ≡ total weight m 0
owing_main weight half m shape u found args =
    let h = sum_by-cons (owed weight half m) (main_of m args) [] in
    let g = owed_first weight half m shape (main_of m args) u found refl refl refl in
    omega arith

-- the opening world of an accepted module is sound
pub opening_sound : (m : ModuleValue) → IsWithinLimits m → IsAccepted m → (args : List ℤ) → AreArguments m args → IsSound m (opening m args)
opening_sound m limits ok args taken = record {
  limits = limits;
  activities = each_one (λ a act. IsActivitySound m (looks [] a) 0 0 act) (main_of m args) main;
  clocks = λ k c h. absurd (none-some c h);
  cells = refl;
  steps = let h = owing_main steps_weight 1 m ok.shape first.0 first.1 args in omega arith;
  started = let h = owing_main activities_weight 0 m ok.shape first.0 first.1 args in omega arith;
  made = let h = owing_main clocks_weight 0 m ok.shape first.0 first.1 args in omega arith;
}
  where
    first : (u : UnitValue) × (slice_get m.units 0 ≡ Some u)
    first = get_inside m.units 0 limits.some

    unset : (s : ℕ) (v : Value) → slice_get (replicate (slots_of m 0) value.Unset) s ≡ Some v → value.Unset ≡ v
    unset s v h = get-replicate (slots_of m 0) value.Unset v s h

    -- a frame of nothing
    bare : IsFrameSound first.0 0 (start_of m 0)
    bare = record {
      slots = length-replicate (slots_of m 0) value.Unset ∙ ap (λ o. option_map_or (λ u. u.slots) o 0) first.1;
      place = (unit_fits m ok.shape 0 first.0 first.1).some;
      known = λ s c h. absurd (let e = unset s (value.Clock c) h in grind arith);
      apart = λ s t c h g. absurd (let e = unset s (value.Clock c) h in grind arith);
    }

    params : params_of m 0 ≡ first.0.params
    params = ap (λ o. option_map_or (λ u. u.params) o []) first.1

    values : List Value
    values = map (λ n. value.Number n) args

    given : AreGiven (stands_on [] 0) (start_of m 0).slots first.0.params [] values
    given = numbers_given (stands_on [] 0) (start_of m 0).slots first.0.params args (taken ∙ ap length params) (main_takes m ok.shape first.0 first.1)

    once : (ps : List ParamKind) → has_twice (clock_arguments ps []) ≡ false
    once [] = refl
    once (p ∷ ps) = refl

    begins : Begun m (stands_on [] 0) (looks [] 0) 0 (start_of m 0).slots 0 first.0 [] (main_of m args).frame
    begins = frame_begun m limits ok.shape (stands_on [] 0) (looks [] 0) 0 first.0 (start_of m 0) bare 0 first.0 first.1 [] (once first.0.params) values given (λ s k h. refl)

    main : IsActivitySound m (looks [] 0) 0 0 (main_of m args)
    main = record {
      since = omega arith;
      u = first.0;
      unit = first.1;
      frame = begins.frame;
      kinds = begins.kinds;
      advance = λ e. absurd (grind arith);
      held = λ c h. absurd (false≢true h);
      waiting = tt;
      room = (let h = stack_within_bound m 0 first.0 first.1 in omega arith);
      alone = λ e. refl;
    }

-- and no clock has a scope
pub opening_scoped : (m : ModuleValue) → IsWithinLimits m → IsAccepted m → (args : List ℤ) → IsScoped m (opening m args)
opening_scoped m limits ok args = record {
  scopes = [];
  width = refl;
  activities = each_one (λ a act. IsScopedIn m [] (looks [] a) a act) (main_of m args) (record {
    opened = (let none' : opened_in m (main_of m args).frame ≡ 0 = ap (λ x. option_map_or (λ u. depth_at u 0) x 0) first.1
        ∙ ap length (block_start first.0 (unit_fits m ok.shape 0 first.0 first.1).finishes) in
        omega (arith, sum_by-cons (opened_in m) (main_of m args).frame []));
    rooms = (omega arith, tt);
    owner = λ o e. absurd (none-some o e);
    homes = ((λ s c named held. absurd (false≢true held)), tt);
  });
}
  where
    first : (u : UnitValue) × (slice_get m.units 0 ≡ Some u)
    first = get_inside m.units 0 limits.some
