-- In code that has the shape every instruction leads to places inside it.
use Rattle.std.proofs.Common.{◌≡◌, ℕ, ◌+◌, ◌<◌, true, false, not, ◌&&◌, eqb, length, Some, slice_get, inl, inr, refl, ap, sym, ◌∙◌, subst, arith, ◌⊎◌, option_map}
use Rattle.std.proofs.lemmas.Option.{slice_get_within, same_Some}
use Rattle.std.proofs.lemmas.Bool.{or_parts, and_parts, and_from, not-false, eq-eqb, ltb-true, true≢false, cases_lt}
use Rattle.xk_types.specs.declared.instr.Instr.{Instr}
use Rattle.xk_types.specs.declared.instr.Instr.TheVariants as instr
use Rattle.xk_types.specs.declared.rules.Rule.TheVariants as rule
use Rattle.xk_types.specs.Code.{UnitValue, ModuleValue, Loop, loop_head, loop_begun}
use Rattle.xk_types.specs.Order.{Has}
use Rattle.xk_types.specs.Walk.{successors}
use Rattle.xk_types.specs.Shape.{breaks_unit_of, instr_is, is_ret, aims_well, lies_ahead, breaks_target, breaks_block, breaks_end, span_of, HasShape}
use Rattle.xk_types.proofs.ShapeLemmas.SpanLemmas.{not_amiss, of_loop, uncrossing}
use Rattle.xk_types.proofs.ShapeLemmas.LoopLemmas.{head_crossing, begins}
use Rattle.xk_typestate.specs.Search.{IsClosed}

module _ (u : UnitValue) (at : ℕ) where
  ahead_inside : (t : ℕ) → lies_ahead u at t ≡ true → t < length u.code
  ahead_inside t h = ltb-true t (length u.code) (and_parts _ _ h).1

  one : (a to : ℕ) → a < length u.code → (a ≡ to) ⊎ ⊥ → to < length u.code
  one a to lt h = elim h [ inl e ↦ subst (λ x. x < length u.code) e lt | inr never ↦ absurd never ]

  two : (a b to : ℕ) → a < length u.code → b < length u.code → (a ≡ to) ⊎ ((b ≡ to) ⊎ ⊥) → to < length u.code
  two a b to lt less h = elim h [ inl e ↦ subst (λ x. x < length u.code) e lt | inr rest ↦ one b to less rest ]

  -- where an instruction leads, if its targets are in order and it isn't the last
  inside_of : (i : Instr) → at < length u.code → aims_well u at i ≡ true → (is_ret i ≡ false → at + 1 < length u.code)
      → ((l : Loop) → loop_head at i ≡ Some l → l.last + 1 < length u.code) → (to : ℕ) → Has (successors i at) to → to < length u.code
  inside_of (instr.Unless op x y t) lt aims next past to h = two (at + 1) t to (next refl) (ahead_inside t aims) h
  inside_of (instr.Jump t) lt aims next past to h = one t to (ahead_inside t aims) h
  inside_of (instr.Next b) lt aims next past to h = let behind = ltb-true b at aims in two (at + 1) (b + 1) to (next refl) (omega arith) h
  inside_of instr.Ret lt aims next past to h = absurd h
  inside_of (instr.Lit d n) lt aims next past to h = one (at + 1) to (next refl) h
  inside_of (instr.Copy d x) lt aims next past to h = one (at + 1) to (next refl) h
  inside_of (instr.Add d x y) lt aims next past to h = one (at + 1) to (next refl) h
  inside_of (instr.Sub d x y) lt aims next past to h = one (at + 1) to (next refl) h
  inside_of (instr.Mul d x y) lt aims next past to h = one (at + 1) to (next refl) h
  inside_of (instr.For k lo hi e) lt aims next past to h = one (at + 1) to (next refl) h
  inside_of (instr.ForTo k lo x hi e) lt aims next past to h = two (at + 1) (e + 1) to (next refl) (past _ refl) h
  inside_of (instr.Finish e) lt aims next past to h = one (at + 1) to (next refl) h
  inside_of (instr.EndFinish b) lt aims next past to h = one (at + 1) to (next refl) h
  inside_of (instr.Get d s) lt aims next past to h = one (at + 1) to (next refl) h
  inside_of (instr.Put s x) lt aims next past to h = one (at + 1) to (next refl) h
  inside_of (instr.AddTo s x) lt aims next past to h = one (at + 1) to (next refl) h
  inside_of (instr.Print x) lt aims next past to h = one (at + 1) to (next refl) h
  inside_of (instr.Make d) lt aims next past to h = one (at + 1) to (next refl) h
  inside_of (instr.Resume k) lt aims next past to h = one (at + 1) to (next refl) h
  inside_of (instr.Drop k) lt aims next past to h = one (at + 1) to (next refl) h
  inside_of instr.Advance lt aims next past to h = one (at + 1) to (next refl) h
  inside_of (instr.Call t args) lt aims next past to h = one (at + 1) to (next refl) h
  inside_of (instr.Spawn t args) lt aims next past to h = one (at + 1) to (next refl) h

  -- an instruction that isn't `ret` isn't the last
  goes_on : (i : Instr) → slice_get u.code at ≡ Some i → breaks_end u at ≡ false → is_ret i ≡ false → at + 1 < length u.code
  goes_on i found whole other =
      let lt = slice_get_within u.code at i found in
      let last : instr_is (λ j. not (is_ret j) && eqb (at + 1) (length u.code)) (slice_get u.code at) ≡ false = (or_parts _ _ (or_parts _ _ whole).0).1 in
      let here : (not (is_ret i) && eqb (at + 1) (length u.code)) ≡ false = sym (ap (instr_is (λ i. not (is_ret i) && eqb (at + 1) (length u.code))) found) ∙ last in
      elim (cases_lt (at + 1) (length u.code)) [
        | inl more ↦ more
        | inr past ↦
            let same : at + 1 ≡ length u.code = omega arith in
            absurd (true≢false (sym (and_from _ _ (ap not other) (eq-eqb (at + 1) (length u.code) same)) ∙ here))
      ]

-- behind the end of a loop stands an instruction, since a `next` stands there
past_end : (u : UnitValue) → ((at : ℕ) → breaks_block u at ≡ false) → ((at : ℕ) → breaks_end u at ≡ false) → (at : ℕ) (i : Instr) → slice_get u.code at ≡ Some i
    → (l : Loop) → loop_head at i ≡ Some l → l.last + 1 < length u.code
past_end u blocks whole at i here l head =
    let g = not_amiss u (option_map span_of (loop_begun u at i)) (sym (head_crossing u at at i l head) ∙ uncrossing u blocks at i here) in
    let k = of_loop (loop_begun u at i) g.0 g.1 in
    let b = begins u at i k.0 k.1 in
    let same : k.0 ≡ l = same_Some k.0 l (sym b.is ∙ head) in
    subst (λ x. x.last + 1 < length u.code) same (goes_on u k.0.last (instr.Next at) b.next (whole k.0.last) refl)

some_code : (u : UnitValue) → breaks_end u 0 ≡ false → 0 < length u.code
some_code u whole =
    elim (cases_lt 0 (length u.code)) [
      | inl some ↦ some
      | inr none ↦
          let empty : length u.code ≡ 0 = omega arith in
          absurd (true≢false (sym (eq-eqb (length u.code) 0 empty) ∙ (or_parts _ _ whole).1))
    ]

pub closed_from : (m : ModuleValue) → HasShape m → (unit : ℕ) (u : UnitValue) → slice_get m.units unit ≡ Some u → IsClosed u
closed_from m shape unit u found =
    let target : (at : ℕ) → breaks_target u at ≡ false = λ at. sym (ap (λ o. breaks_unit_of m rule.Target unit o at) found) ∙ shape rule.Target unit at in
    let block : (at : ℕ) → breaks_block u at ≡ false = λ at. sym (ap (λ o. breaks_unit_of m rule.Block unit o at) found) ∙ shape rule.Block unit at in
    let whole : (at : ℕ) → breaks_end u at ≡ false = λ at. sym (ap (λ o. breaks_unit_of m rule.End unit o at) found) ∙ shape rule.End unit at in
    record {
      some = some_code u (whole 0);
      inside = λ at i to here h.
          let aims = not-false (aims_well u at i) (sym (ap (instr_is (λ i. not (aims_well u at i))) here) ∙ target at) in
          inside_of u at i (slice_get_within u.code at i here) aims (goes_on u at i here (whole at)) (past_end u block whole at i here) to h;
    }
