-- Sums over a unit's instructions, each with the sum of the unit that it calls or starts, and such sums cut at a number.
use Rattle.std.proofs.Common.{◌≡◌, ℕ, zero, suc, ◌+◌, ◌<◌, ◌≤◌, ◌&&◌, eqb, min, nat_lt, Bool, true, false, not, List, length, Option, Some, None, slice_get, slice_index, sym, refl, ap, ◌∙◌, arith}
use Rattle.std.specs.Option.{option_map_or}
use Rattle.std.proofs.lemmas.Option.{slice_get_past, slice_get_within, same_Some}
use Rattle.std.proofs.lemmas.Bool.{and_parts, or_parts, not-false, ltb-true, both_ways}
use Rattle.xk_types.specs.declared.instr.Instr.{Instr}
use Rattle.xk_types.specs.declared.instr.Instr.TheVariants as instr
use Rattle.xk_types.specs.declared.rules.Rule.TheVariants as rule
use Rattle.xk_types.specs.declared.unit.UnitKind.{UnitKind}
use Rattle.xk_types.specs.Code.{UnitValue, ModuleValue, unit_run, is_method, is_body}
use Rattle.xk_types.specs.Shape.{is_fitting, runs_amiss, instr_is, is_in_place, breaks_unit_of, HasShape}
use Rattle.xk_types.specs.Bound.{visits, total_within, total}
use Rattle.xk_bounds.specs.Measure.{added, added_by}
use Rattle.xk_bounds.proofs.CutLemmas.{sum_same, sum_cut}

-- ---- what the shape tells of a unit

fitting_is : (kind : UnitKind → Bool) (unit t : ℕ) (args : List ℕ) (o : Option UnitValue) → is_fitting kind unit t args o ≡ true → (unit < t) × ((v : UnitValue) × (o ≡ Some v))
fitting_is kind unit t args None h = absurd (both_ways false refl h)
fitting_is kind unit t args (Some v) h =
    let both = and_parts (kind v.kind && nat_lt unit t) (eqb (length args) (length v.params)) h in
    let first = and_parts (kind v.kind) (nat_lt unit t) both.0 in
    (ltb-true unit t first.1, (v, refl))

fitting_greater : (m : ModuleValue) (kind : UnitKind → Bool) (unit v t : ℕ) (args : List ℕ) → not (is_fitting kind unit v args (slice_get m.units v)) ≡ false → v ≡ t
    → (unit < t) × (t < length m.units)
fitting_greater m kind unit v t args h same =
    let is = fitting_is kind unit v args (slice_get m.units v) (not-false (is_fitting kind unit v args (slice_get m.units v)) h) in
    let inside = slice_get_within m.units v is.1.0 is.1.1 in
    let greater = is.0 in
    (omega arith, omega arith)

runs_greater : (m : ModuleValue) (unit : ℕ) (i : Instr) (t : ℕ) → runs_amiss m unit i ≡ false → unit_run i ≡ Some t → (unit < t) × (t < length m.units)
runs_greater m unit (instr.Call v args) t h e = fitting_greater m is_method unit v t args h (same_Some v t e)
runs_greater m unit (instr.Spawn v args) t h e = fitting_greater m is_body unit v t args h (same_Some v t e)
runs_greater m unit _ t h e = cc

-- a unit that an instruction calls or starts is there, and has a greater number
pub run_is : (m : ModuleValue) → HasShape m → (unit : ℕ) (u : UnitValue) (at : ℕ) (i : Instr) (t : ℕ) → slice_get m.units unit ≡ Some u → slice_get u.code at ≡ Some i
    → unit_run i ≡ Some t → (unit < t) × (t < length m.units)
run_is m shape unit u at i t found here e =
    let broken = sym (ap (λ o. breaks_unit_of m rule.Unit unit o at) found) ∙ shape rule.Unit unit at in
    let parts = or_parts (eqb at 0 && not (is_in_place unit u)) (instr_is (runs_amiss m unit) (slice_get u.code at)) broken in
    runs_greater m unit i t (sym (ap (λ o. instr_is (runs_amiss m unit) o) here) ∙ parts.1) e

-- ---- sums

module _ (weight : Instr → ℕ) (m : ModuleValue) (shape : HasShape m) where
  -- the sum over a unit's code, where this says what the unit that is run adds
  abbrev over_code : (ℕ → ℕ) → Option UnitValue → ℕ
  over_code below o = option_map_or (λ u. added_by weight below u) o 0

  added_same : (below above : ℕ → ℕ) (i : Instr) (o : Option ℕ) → unit_run i ≡ o → ((t : ℕ) → o ≡ Some t → below t ≡ above t) → added weight below i ≡ added weight above i
  added_same below above i None e same = rw e refl
  added_same below above i (Some t) e same = rw (e, same t refl) refl

  over_same : (below above : ℕ → ℕ) (unit : ℕ) (o : Option UnitValue) → slice_get m.units unit ≡ o → ((t : ℕ) → unit < t → below t ≡ above t)
      → over_code below o ≡ over_code above o
  over_same below above unit None found same = refl
  over_same below above unit (Some u) found same =
      sum_same (visits u) (added weight below) (added weight above) 0 u.code
      (λ at i here. added_same below above i (unit_run i) refl (λ t e. same t (run_is m shape unit u at i t found here e).0))

  -- one call or start more below another adds nothing where there are no more units
  stable : (depth unit : ℕ) → length m.units ≤ depth + unit → total_within weight m depth unit ≡ total_within weight m (suc depth) unit
  unfolding total_within
  stable zero unit le = rw (slice_get_past m.units unit (omega arith)) refl
  stable (suc depth) unit le =
      over_same (total_within weight m depth) (total_within weight m (suc depth)) unit (slice_get m.units unit) refl (λ t lt. stable depth t (omega arith))

  one_more : (depth unit : ℕ) (u : UnitValue) → slice_get m.units unit ≡ Some u → total_within weight m (suc depth) unit ≡ added_by weight (total_within weight m depth) u
  unfolding total_within
  one_more depth unit u found = ap (over_code (total_within weight m depth)) found

  -- the sum of a unit is that over its code, each instruction with the sum of the unit that it calls or starts
  total_is : (unit : ℕ) (u : UnitValue) → slice_get m.units unit ≡ Some u → total weight m unit ≡ added_by weight (total weight m) u
  total_is unit u found = stable (length m.units) unit (omega arith) ∙ one_more (length m.units) unit u found

  added_cut : (cut : ℕ) (below above : ℕ → ℕ) (i : Instr) (o : Option ℕ) → unit_run i ≡ o → ((t : ℕ) → o ≡ Some t → below t ≡ min (above t) cut)
      → min (added weight below i) cut ≡ min (added weight above i) cut
  added_cut cut below above i None e same = rw e refl
  added_cut cut below above i (Some t) e same = let is = same t refl in rw e (omega arith)

  -- the sum over a unit's code is the unit's, cut, where a table has the sums of the units of greater number, cut
  pub total_cut : (cut : ℕ) (table : List ℕ) (unit : ℕ) (u : UnitValue) → slice_get m.units unit ≡ Some u
      → ((t : ℕ) → unit < t → t < length m.units → slice_index table t ≡ min (total weight m t) cut)
      → min (added_by weight (slice_index table) u) cut ≡ min (total weight m unit) cut
  total_cut cut table unit u found greater =
      sum_cut cut (visits u) (added weight (slice_index table)) (added weight (total weight m)) 0 u.code
      (λ at i here. added_cut cut (slice_index table) (total weight m) i (unit_run i) refl (λ t e. let is = run_is m shape unit u at i t found here e in greater t is.0 is.1))
      ∙ ap (λ n. min n cut) (sym (total_is unit u found))
