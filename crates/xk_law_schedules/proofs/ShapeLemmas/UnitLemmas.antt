-- The units of a module that has the shape: slots, places, shared numbers and units that their instructions name are there.
use Rattle.std.proofs.Common.{◌≡◌, ℕ, zero, suc, ◌+◌, ◌<◌, Bool, true, false, not, ◌==◌, ◌||◌, ◌&&◌, List, [], length, Some, None, Option, refl, sym, ap, ◌∙◌, subst, arith, ◌≤◌, ltb-true, ltb-false, eqb-true}
use Rattle.std.specs.Prelude.{slice_get, nat_lt}
use Rattle.std.specs.List.{list_all}
use Rattle.std.specs.Option.{option_map_or}
use Rattle.std.proofs.lemmas.Bool.{eqb-false, or_parts, and_parts, not-false, false≢true}
use Rattle.std.proofs.lemmas.Option.{slice_get_within, none-some, same_Some}
use Rattle.xk_types.proofs.MembershipLemmas.{all_has}
use Rattle.xk_law_schedules.proofs.ShapeLemmas.LoopLemmas.{AreLoops, are_loops}
use Rattle.xk_law_schedules.proofs.ShapeLemmas.FinishLemmas.{AreFinishes, are_finishes}
use Rattle.xk_types.specs.declared.instr.Instr.{Instr}
use Rattle.xk_types.specs.declared.instr.Instr.TheVariants as instr
use Rattle.xk_types.specs.declared.rules.Rule.{Rule}
use Rattle.xk_types.specs.declared.rules.Rule.TheVariants as rule
use Rattle.xk_types.specs.declared.unit.UnitKind.{UnitKind}
use Rattle.xk_types.specs.Code.{UnitValue, ModuleValue, is_method, is_body, params_of, clock_arguments, unit_called, unit_run}
use Rattle.xk_types.specs.Blocks.{takes_clock}
use Rattle.xk_types.specs.Order.{Has}
use Rattle.xk_types.specs.Shape.{slots_named, is_ret, instr_is, is_in_place, is_fitting, runs_amiss, mishandles, moves_home, has_twice, gives_twice, breaks_unit_of, breaks_in, cell_named, breaks_end, HasShape}

-- a unit that fits
pub record IsFit (u : UnitValue) : Type 0 where
  -- there is a first instruction
  pub some : 0 < length u.code
  -- the slots that an instruction names are the unit's
  pub slots : (i : Instr) (at s : ℕ) → slice_get u.code at ≡ Some i → Has (slots_named i) s → s < u.slots
  -- its loops and its finishes are in order
  pub loops : AreLoops u
  pub finishes : AreFinishes u
  -- behind each instruction but `ret` stands another, and behind `ret` none
  pub next : (i : Instr) (at : ℕ) → slice_get u.code at ≡ Some i → is_ret i ≡ false → at + 1 < length u.code
  pub last : (at : ℕ) → slice_get u.code at ≡ Some instr.Ret → length u.code ≤ at + 1
  -- no parameter is made
  pub unmade : (d at : ℕ) → slice_get u.code at ≡ Some (instr.Make d) → length u.params ≤ d
  -- a method drops no clock that it was lent
  pub undropped : (k at : ℕ) → slice_get u.code at ≡ Some (instr.Drop k) → is_method u.kind ≡ true → takes_clock (slice_get u.params k) ≡ false

-- no place of a known unit breaks a rule
pub unbroken : (m : ModuleValue) → HasShape m → (r : Rule) (unit : ℕ) (u : UnitValue) → slice_get m.units unit ≡ Some u → (at : ℕ) → breaks_in m r unit u at ≡ false
unbroken m shape r unit u found at = ap (λ o. breaks_unit_of m r unit o at) (sym found) ∙ shape r unit at

-- the two halves of the rule on the end that are used: an instruction that isn't `ret` isn't the last, and there is one
abbrev last_but_ret : UnitValue → ℕ → Instr → Bool
last_but_ret u at i = not (is_ret i) && (at + 1 == length u.code)

-- a `ret` that something stands behind
abbrev ret_but_last : UnitValue → ℕ → Instr → Bool
ret_but_last u at i = is_ret i && nat_lt (at + 1) (length u.code)

-- what the rule on the end says, in parts
ends_well : (u : UnitValue) (at : ℕ) → breaks_end u at ≡ false → (instr_is (last_but_ret u at) (slice_get u.code at) ≡ false) × (((at == 0) && (length u.code == 0)) ≡ false)
ends_well u at h =
    let p = or_parts (instr_is (ret_but_last u at) (slice_get u.code at) || instr_is (last_but_ret u at) (slice_get u.code at)) ((at == 0) && (length u.code == 0)) h in
    ((or_parts (instr_is (ret_but_last u at) (slice_get u.code at)) (instr_is (last_but_ret u at) (slice_get u.code at)) p.0).1, p.1)

rets_end : (u : UnitValue) (at : ℕ) → breaks_end u at ≡ false → instr_is (ret_but_last u at) (slice_get u.code at) ≡ false
rets_end u at h =
    let p = or_parts (instr_is (ret_but_last u at) (slice_get u.code at) || instr_is (last_but_ret u at) (slice_get u.code at)) ((at == 0) && (length u.code == 0)) h in
    (or_parts (instr_is (ret_but_last u at) (slice_get u.code at)) (instr_is (last_but_ret u at) (slice_get u.code at)) p.0).0

-- one number below another, or the same
next_below : (at n : ℕ) → at < n → (at + 1 == n) ≡ false → at + 1 < n
next_below at n h e = let g = eqb-false (at + 1) n e in omega arith

-- the units of a module that has the shape fit
pub unit_fits : (m : ModuleValue) → HasShape m → (unit : ℕ) (u : UnitValue) → slice_get m.units unit ≡ Some u → IsFit u
unit_fits m shape unit u found = record {
  some = go (length u.code) (ends_well u 0 (end_ok 0)).1;
  slots = λ i at s here named. ltb-true s u.slots (all_has (λ t. nat_lt t u.slots) (slots_named i) s
      (not-false (list_all (λ t. nat_lt t u.slots) (slots_named i)) (ap (instr_is (λ j. not (list_all (λ t. nat_lt t u.slots) (slots_named j)))) (sym here) ∙ slots_ok at)) named);
  finishes = are_finishes u (unbroken m shape rule.Target unit u found) (unbroken m shape rule.Block unit u found) (unbroken m shape rule.Loop unit u found);
  loops = are_loops u (unbroken m shape rule.Target unit u found) (unbroken m shape rule.Block unit u found) (unbroken m shape rule.Loop unit u found) behind;
  next = λ i at here other. behind at i here other;
  last = λ at here. ltb-false (at + 1) (length u.code) (ap (instr_is (ret_but_last u at)) (sym here) ∙ (rets_end u at (end_ok at)));
  unmade = λ d at here. ltb-false d (length u.params) (handled (instr.Make d) at here);
  undropped = λ k at here method. rw method at (handled (instr.Drop k) at here);
}
  where
    handled : (i : Instr) (at : ℕ) → slice_get u.code at ≡ Some i → mishandles u i ≡ false
    handled i at here = (or_parts (mishandles u i) (moves_home u at i)
        (ap (instr_is (λ j. mishandles u j || moves_home u at j)) (sym here) ∙ unbroken m shape rule.Home unit u found at)).0

    slots_ok : (at : ℕ) → breaks_in m rule.Slot unit u at ≡ false
    slots_ok at = unbroken m shape rule.Slot unit u found at

    end_ok : (at : ℕ) → breaks_in m rule.End unit u at ≡ false
    end_ok at = unbroken m shape rule.End unit u found at

    behind : (at : ℕ) (i : Instr) → slice_get u.code at ≡ Some i → is_ret i ≡ false → at + 1 < length u.code
    behind at i here other = next_below at (length u.code) (slice_get_within u.code at i here)
        (rw other at (ap (instr_is (last_but_ret u at)) (sym here) ∙ (ends_well u at (end_ok at)).0))

    go : (n : ℕ) → (n == 0) ≡ false → 0 < n
    go zero e = absurd (grind arith)
    go (suc n) e = omega arith

-- ---- what a unit calls or starts

-- unit number `unit` may run unit t, of such a kind, with these arguments
pub record IsRun (kind : UnitKind → Bool) (m : ModuleValue) (unit t : ℕ) (args : List ℕ) : Type 0 where
  pub v : UnitValue
  pub found : slice_get m.units t ≡ Some v
  pub fits : kind v.kind ≡ true
  pub later : unit < t
  pub count : length args ≡ length v.params
  -- no slot is handed on twice as a clock
  pub once : has_twice (clock_arguments v.params args) ≡ false

-- the two rules on what is called or started, in parts
run_parts : (kind : UnitKind → Bool) (m : ModuleValue) (unit t : ℕ) (args : List ℕ) → is_fitting kind unit t args (slice_get m.units t) ≡ true
    → has_twice (clock_arguments (params_of m t) args) ≡ false → IsRun kind m unit t args
run_parts kind m unit t args fits once = go (slice_get m.units t) refl fits
  where
    go : (o : Option UnitValue) → slice_get m.units t ≡ o → is_fitting kind unit t args o ≡ true → IsRun kind m unit t args
    go None e h = absurd (false≢true h)
    go (Some v) e h =
        let p = and_parts (kind v.kind && nat_lt unit t) (length args == length v.params) h in
        let q = and_parts (kind v.kind) (nat_lt unit t) p.0 in
        record {
          v = v;
          found = e;
          fits = q.0;
          later = ltb-true unit t q.1;
          count = eqb-true (length args) (length v.params) p.1;
          once = subst (λ ps. has_twice (clock_arguments ps args) ≡ false) (ap (λ o. option_map_or (λ u. u.params) o []) e) once;
        }

module _ (m : ModuleValue) (shape : HasShape m) (unit : ℕ) (u : UnitValue) (found : slice_get m.units unit ≡ Some u) where
  -- the instruction at a place runs nothing amiss, and gives no clock twice
  run_ok : (i : Instr) (at : ℕ) → slice_get u.code at ≡ Some i → (runs_amiss m unit i ≡ false) × (gives_twice m i ≡ false)
  run_ok i at here =
      let h = or_parts ((at == 0) && not (is_in_place unit u)) (instr_is (runs_amiss m unit) (slice_get u.code at)) (unbroken m shape rule.Unit unit u found at) in
      (ap (instr_is (runs_amiss m unit)) (sym here) ∙ h.1, ap (instr_is (gives_twice m)) (sym here) ∙ unbroken m shape rule.SameClock unit u found at)

  -- a shared number that an instruction names is one of the module's
  pub cell_fits : (i : Instr) (at s : ℕ) → slice_get u.code at ≡ Some i → cell_named i ≡ Some s → s < length m.shared
  cell_fits i at s here named = ltb-true s (length m.shared) (not-false (nat_lt s (length m.shared))
      (ap (λ o. option_map_or (λ k. not (nat_lt k (length m.shared))) o false) (sym named)
      ∙ ap (instr_is (λ j. option_map_or (λ k. not (nat_lt k (length m.shared))) (cell_named j) false)) (sym here) ∙ unbroken m shape rule.Cell unit u found at))

  -- what a `spawn` of a unit of a module with the shape starts
  pub start_fits : (t : ℕ) (args : List ℕ) (at : ℕ) → slice_get u.code at ≡ Some (instr.Spawn t args) → IsRun is_body m unit t args
  start_fits t args at here =
      let h = run_ok (instr.Spawn t args) at here in
      run_parts is_body m unit t args (not-false (is_fitting is_body unit t args (slice_get m.units t)) h.0) h.1

  -- what a `call` calls
  pub call_fits : (t : ℕ) (args : List ℕ) (at : ℕ) → slice_get u.code at ≡ Some (instr.Call t args) → IsRun is_method m unit t args
  call_fits t args at here =
      let h = run_ok (instr.Call t args) at here in
      run_parts is_method m unit t args (not-false (is_fitting is_method unit t args (slice_get m.units t)) h.0) h.1

  -- what an instruction runs has a greater number
  pub run_later : (i : Instr) (at : ℕ) → slice_get u.code at ≡ Some i → (t : ℕ) → unit_run i ≡ Some t → unit < t
  run_later (instr.Call x args) at here t e = subst (λ k. unit < k) (same_Some x t e) (call_fits x args at here).later
  run_later (instr.Spawn x args) at here t e = subst (λ k. unit < k) (same_Some x t e) (start_fits x args at here).later
  run_later _ at here t e = absurd (none-some t e)

  -- and what it calls too
  pub called_later : (i : Instr) (at : ℕ) → slice_get u.code at ≡ Some i → (t : ℕ) → unit_called i ≡ Some t → unit < t
  called_later (instr.Call x args) at here t e = subst (λ k. unit < k) (same_Some x t e) (call_fits x args at here).later
  called_later _ at here t e = absurd (none-some t e)
