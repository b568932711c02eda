-- How places lie to loops and finishes, from one place to the next.
use Rattle.std.proofs.Common.{◌≡◌, ℕ, ℤ, suc, ◌+◌, ◌<◌, ◌⊎◌, eqb, Bool, true, false, not, ◌&&◌, ◌||◌, ◌==◌, List, [], ◌∷◌, ◌++◌, length, Option, Some, None, slice_get, get_or, inl, inr, refl, sym, ap, ◌∙◌, subst, arith}
use Rattle.std.specs.List.{list_any}
use Rattle.std.specs.Option.{option_eq}
use Rattle.std.proofs.lemmas.Option.{same_Some, none-some, slice_get-get_or}
use Rattle.std.proofs.lemmas.Bool.{and_parts, and_from, or_cases, or_left, or_right, both_ways, false_from_ne_true, cases_order, eqb-true, eq-eqb}
use Rattle.std.proofs.lemmas.Nat.Bits.{bit_at-zero}
use Rattle.std.proofs.Math.Bool.{or-false}
use Rattle.xk_types.specs.declared.instr.Instr.{Instr}
use Rattle.xk_types.specs.declared.instr.Instr.TheVariants as instr
use Rattle.xk_types.specs.Order.{Has}
use Rattle.xk_types.specs.Code.{UnitValue, Loop, loop_head, loop_begun, loops, is_round}
use Rattle.xk_types.specs.Blocks.{Span, finish_opened, finishes, is_inside, block_at}
use Rattle.xk_types.specs.Shape.{span_of, span_begun, spans, differ, counts_by}
use Rattle.xk_shape.specs.declared.places.Place.{Place}
use Rattle.xk_shape.specs.Nesting.{end_named, begin_named, span, begins_behind, ends_behind, AreNested, AreNestedBelow, IsInNoneBehind}
use Rattle.xk_shape.specs.Places.{innermost, IsInnermost, LiesWithin, is_counter, has_slot, LiesSo, AreFirstPlaces}
use Rattle.xk_types.proofs.MembershipLemmas.{same_test, has_any, none_has}
use Rattle.xk_types.proofs.ShapeLemmas.SpanStartLemmas.{begun_had}
use Rattle.xk_types.proofs.ShapeLemmas.FinishLemmas.{is_finish}
use Rattle.xk_types.proofs.ShapeLemmas.LoopLemmas.{head_first, head_span, begins, is_loop}
use Rattle.xk_types.proofs.ShapeLemmas.SpanLemmas.{of_loop, loop_span, finish_span, differ_not}
use Rattle.xk_shape.proofs.SpanEndLemmas.{is_span, head_end, loop_is, has_span, same_end, same_begin, no_begin, no_end, ends_none, begins_none, any_found, any_same}
use Rattle.xk_shape.proofs.NestingLemmas.{decides_inside, inside_same, inside_next, ends_inside, begun_ahead, ended_behind, nested_begun, nested_ended, nested_apart}
use Rattle.xk_shape.proofs.EnclosingFinishLemmas.{around_same, block_first, block_begins}
use Rattle.xk_shape.proofs.BlockLemmas.{innermost_push, decides_option}

next_length : (xs : List ℕ) (n : ℕ) → length xs + 1 ≡ length (xs ++ n ∷ [])
next_length [] n = refl
next_length (x ∷ xs) n = omega (arith, next_length xs n)

no_finish : (u : UnitValue) (at : ℕ) (i : Instr) (l : Loop) → slice_get u.code at ≡ Some i → loop_head at i ≡ Some l → (f : Span) → Has (finishes u) f → f.first ≡ at → ⊥
no_finish u at i l here head f has first =
    let same : i ≡ instr.Finish f.last = same_Some _ _ (sym here ∙ ap (slice_get u.code) (sym first) ∙ (is_finish u f has).begins) in
    none-some l (ap (loop_head at) (sym same) ∙ head)

no_loop : (u : UnitValue) (at e : ℕ) → slice_get u.code at ≡ Some (instr.Finish e) → (l : Loop) → Has (loops u) l → l.first ≡ at → ⊥
no_loop u at e here l has first =
    let is = is_loop u l has in
    let same : instr.Finish e ≡ is.head = same_Some _ _ (sym here ∙ ap (slice_get u.code) (sym first) ∙ is.begins) in
    none-some l (ap (loop_head l.first) same ∙ is.is)

-- ---- two places

-- the same stretches lie round both
abbrev AreRoundBoth : UnitValue → ℕ → ℕ → Type 0
AreRoundBoth u a b = (s : Span) → Has (spans u) s → is_inside a s ≡ is_inside b s

module _ (u : UnitValue) where
  within_same : (a b : ℕ) (o : Option ℕ) → AreRoundBoth u a b → LiesWithin u b o → LiesWithin u a o
  within_same a b None same none = λ s has. same s has ∙ none s has
  within_same a b (Some m) same is = record {
    round = is.round;
    has = is.has;
    inside = same is.round is.has ∙ is.inside;
    begins = is.begins;
    last = λ s has on. is.last s has (sym (same s has) ∙ on);
  }

  block_same : (a b : ℕ) → AreRoundBoth u a b → block_at u a ≡ block_at u b
  block_same a b same = around_same (is_inside a) (is_inside b) (finishes u) (λ f has. same f (finish_span u f has))

  counter_same : (a b s : ℕ) → AreRoundBoth u a b → is_counter u a s ≡ is_counter u b s
  counter_same a b s same = any_same (λ l. is_round a l && counts_by s l) (λ l. is_round b l && counts_by s l) (loops u)
      (λ l has. ap (λ t. t && counts_by s l) (same (span_of l) (loop_span u l has)))

  -- a place round which the same lie as round another lies as that one
  lies_as : (a b : ℕ) (p : Place) → AreRoundBoth u a b → LiesSo u b p → LiesSo u a p
  lies_as a b p same so = record {
    within = within_same a b p.within same so.within;
    finish = so.finish ∙ ap innermost (sym (block_same a b same));
    depth = so.depth ∙ ap length (sym (block_same a b same));
    counters = λ s lt. so.counters s lt ∙ sym (counter_same a b s same);
  }

  -- ---- from one place to the next

  -- behind what neither begins nor ends one
  stays : (at : ℕ) (i : Instr) → slice_get u.code at ≡ Some i → end_named i ≡ None → begin_named i ≡ None → AreRoundBoth u (suc at) at
  stays at i here no_e no_b s has = let is = is_span u s has in inside_next at s (no_begin u at i s here no_e is) (no_end u at i s here no_b is)

  -- behind the end of one: those round its beginning
  leaves : (at b : ℕ) (i : Instr) → slice_get u.code at ≡ Some i → begin_named i ≡ Some b → AreNestedBelow u at → b < at → Has (spans u) (span b at) → IsInNoneBehind u at b
      → AreRoundBoth u (suc at) b
  leaves at b i here names below before has none s has_s =
      let f = span b at in
      let is_f = is_span u f has in
      let is = is_span u s has_s in
      let begins = no_begin u at i s here (begins_none i b names) is in
      let ends = no_end u b is_f.begin s is_f.begins (ends_none is_f.begin at is_f.ahead) is in
      inside_same (suc at) b s
      (λ h.
      let le = none s has_s ((decides_inside at s).1 (omega arith, omega arith)) in
      let apart : s.first ≡ b → ⊥ = λ e. (let last = same_end u f s is_f is e in omega arith) in
      (omega arith, omega arith))
      (λ h. elim (cases_order s.last at) [
        | inl same ↦ let e = same_begin u f s is_f is same in absurd (omega arith)
        | inr other ↦ elim other [
          | inl lt ↦
              let ended = below.ended s.last s.first is.end lt is.ends is.behind in
              let le = ended.2 f has ((decides_inside s.last f).1 (omega arith, omega arith)) in
              absurd (omega arith)
          | inr gt ↦ (omega arith, omega arith)
        ]
      ])

  -- behind the beginning of one: those that lay round it, and this one
  enters : (at e : ℕ) (i : Instr) → slice_get u.code at ≡ Some i → end_named i ≡ Some e → (s : Span) → Has (spans u) s → (s.first ≡ at → ⊥) → is_inside (suc at) s ≡ is_inside at s
  enters at e i here names s has begins = inside_next at s begins (no_end u at i s here (ends_none i e names) (is_span u s has))

  enters_within : (at e : ℕ) → Has (spans u) (span at e) → at < e → LiesWithin u (suc at) (Some at)
  enters_within at e has ahead = record {
    round = span at e;
    has = has;
    inside = (decides_inside (suc at) (span at e)).1 (omega arith, ahead);
    begins = refl;
    last = λ s has_s on. (let h = (decides_inside (suc at) s).0 on in omega arith);
  }

  -- ---- the slots that loops count in

  counter_loop : (at e : ℕ) (i : Instr) (own : Loop) → slice_get u.code at ≡ Some i → loop_head at i ≡ Some own → end_named i ≡ Some e → Has (loops u) own → own.first ≡ at
      → at < e → (s : ℕ) → is_counter u (suc at) s ≡ (counts_by s own || is_counter u at s)
  counter_loop at e i own here head names has_own first ahead s =
      let test : ℕ → Loop → Bool = λ n l. is_round n l && counts_by s l in
      same_test (is_counter u (suc at) s) (counts_by s own || is_counter u at s)
      (λ on.
      let r = any_found (test (suc at)) (loops u) on in
      let parts = and_parts (is_round (suc at) r.0) (counts_by s r.0) r.2 in
      elim (cases_order r.0.first at) [
        | inl same ↦
            let one = loop_is u r.0 own i r.1 (ap (slice_get u.code) same ∙ here) (ap (λ n. loop_head n i) same ∙ head) in
            or_left (counts_by s own) (is_counter u at s) (ap (counts_by s) (sym one) ∙ parts.1)
        | inr other ↦
            let begins : r.0.first ≡ at → ⊥ = λ e. elim other [ inl lt ↦ omega arith | inr gt ↦ omega arith ] in
            let same = enters at e i here names (span_of r.0) (loop_span u r.0 r.1) begins in
            or_right (counts_by s own) (is_counter u at s) (has_any (test at) (loops u) r.0 r.1 (and_from (is_round at r.0) (counts_by s r.0) (sym same ∙ parts.0) parts.1))
      ])
      (λ on. elim (or_cases (counts_by s own) (is_counter u at s) on) [
        | inl own_slot ↦
            let last : own.last ≡ e = same_Some own.last e (sym (head_end at i own head) ∙ names) in
            has_any (test (suc at)) (loops u) own has_own (and_from (is_round (suc at) own) (counts_by s own)
            ((decides_inside (suc at) (span_of own)).1 (omega arith, omega arith)) own_slot)
        | inr counted ↦
            let r = any_found (test at) (loops u) counted in
            let parts = and_parts (is_round at r.0) (counts_by s r.0) r.2 in
            let inside = (decides_inside at (span_of r.0)).0 parts.0 in
            let same = enters at e i here names (span_of r.0) (loop_span u r.0 r.1) (λ e. omega arith) in
            has_any (test (suc at)) (loops u) r.0 r.1 (and_from (is_round (suc at) r.0) (counts_by s r.0) (same ∙ parts.0) parts.1)
      ])

  -- ---- how the next place lies

  next_is : (at : ℕ) → suc at ≡ at + 1
  next_is at = omega arith

  lies_next : (at : ℕ) (p : Place) → LiesSo u (suc at) p → LiesSo u (at + 1) p
  lies_next at p so = subst (λ n. LiesSo u n p) (next_is at) so

  place_stays : (at : ℕ) (i : Instr) (p : Place) → slice_get u.code at ≡ Some i → end_named i ≡ None → begin_named i ≡ None → LiesSo u at p → LiesSo u (at + 1) p
  place_stays at i p here no_e no_b so = lies_next at p (lies_as (suc at) at p (stays at i here no_e no_b) so)

  place_leaves : (at b : ℕ) (i : Instr) (p : Place) → slice_get u.code at ≡ Some i → begin_named i ≡ Some b → AreNestedBelow u at → b < at → Has (spans u) (span b at)
      → IsInNoneBehind u at b
      → LiesSo u b p → LiesSo u (at + 1) p
  place_leaves at b i p here names below before has none so = lies_next at p (lies_as (suc at) b p (leaves at b i here names below before has none) so)

  place_loops : (at e : ℕ) (i : Instr) (own : Loop) (p q : Place) → slice_get u.code at ≡ Some i → loop_head at i ≡ Some own → end_named i ≡ Some e → at < e
      → span_begun u at i ≡ Some (span at e) → LiesSo u at p
      → q.within ≡ Some at → q.finish ≡ p.finish → q.depth ≡ p.depth → ((s : ℕ) → s < 64 → has_slot q.counters s ≡ (counts_by s own || has_slot p.counters s))
      → LiesSo u (at + 1) q
  place_loops at e i own p q here head names ahead begun so within finish depth counters =
      let has = has_span u at i (span at e) here begun in
      let found = of_loop (loop_begun u at i) (span at e) (sym (head_span u at at i own head) ∙ begun) in
      let is = begins u at i found.0 found.1 in
      let same : found.0 ≡ own = same_Some found.0 own (sym is.is ∙ head) in
      let has_own = subst (Has (loops u)) same (begun_had (loop_begun u) 0 u.code at at i found.0 here (omega arith) found.1) in
      let block : block_at u (suc at) ≡ block_at u at = around_same (is_inside (suc at)) (is_inside at) (finishes u)
      (λ f has_f. enters at e i here names f (finish_span u f has_f) (no_finish u at i own here head f has_f)) in
      lies_next at q (record {
        within = subst (LiesWithin u (suc at)) (sym within) (enters_within at e has ahead);
        finish = finish ∙ so.finish ∙ ap innermost (sym block);
        depth = depth ∙ so.depth ∙ ap length (sym block);
        counters = λ s lt. counters s lt ∙ ap (λ b. counts_by s own || b) (so.counters s lt) ∙ sym (counter_loop at e i own here head names has_own (head_first at i own head) ahead s);
      })

  place_finishes : (at e : ℕ) (p q : Place) → slice_get u.code at ≡ Some (instr.Finish e) → at < e → span_begun u at (instr.Finish e) ≡ Some (span at e) → LiesSo u at p
      → q.within ≡ Some at → q.finish ≡ Some at → q.depth ≡ p.depth + 1 → q.counters ≡ p.counters
      → LiesSo u (at + 1) q
  place_finishes at e p q here ahead begun so within finish depth counters =
      let i = instr.Finish e in
      let has = has_span u at i (span at e) here begun in
      let has_f = begun_had (finish_opened u) 0 u.code at at i (span at e) here (omega arith) begun in
      let block = block_begins u at e here has_f ahead in
      lies_next at q (record {
        within = subst (LiesWithin u (suc at)) (sym within) (enters_within at e has ahead);
        finish = finish ∙ sym (ap innermost block ∙ innermost_push (block_at u at) at);
        depth = depth ∙ ap (λ n. n + 1) so.depth ∙ next_length (block_at u at) at ∙ ap length (sym block);
        counters = λ s lt. ap (λ n. has_slot n s) counters ∙ so.counters s lt ∙ any_same (λ l. is_round at l && counts_by s l) (λ l. is_round (suc at) l && counts_by s l) (loops u)
            (λ l has_l. ap (λ t. t && counts_by s l) (sym (enters at e i here refl (span_of l) (loop_span u l has_l) (no_loop u at e here l has_l))));
      })

  -- ---- what stands before the next place nests

  -- a first half at a place has its end behind it
  abbrev BegunAt : ℕ → Instr → Type 0
  BegunAt at i = (e : ℕ) → end_named i ≡ Some e → (at < e) × (span_begun u at i ≡ Some (span at e))

  -- a last half there ends the innermost that it lies in
  abbrev EndedAt : ℕ → Instr → Type 0
  EndedAt at i = (b : ℕ) → begin_named i ≡ Some b → (b < at) × Has (spans u) (span b at) × IsInNoneBehind u at b

  below_more : (at : ℕ) (i : Instr) → slice_get u.code at ≡ Some i → AreNestedBelow u at → BegunAt at i → EndedAt at i → AreNestedBelow u (at + 1)
  below_more at i here below begun ended = record {
    begun = λ k e j lt found names. elim (cases_order k at) [
      | inl same ↦ let one = same_Some i j (sym here ∙ ap (slice_get u.code) (sym same) ∙ found) in subst (λ n. BegunAt n j) (sym same) (subst (BegunAt at) one begun) e names
      | inr other ↦ elim other [ inl less ↦ below.begun k e j less found names | inr more ↦ absurd (omega arith) ]
    ];
    ended = λ k b j lt found names. elim (cases_order k at) [
      | inl same ↦ let one = same_Some i j (sym here ∙ ap (slice_get u.code) (sym same) ∙ found) in subst (λ n. EndedAt n j) (sym same) (subst (EndedAt at) one ended) b names
      | inr other ↦ elim other [ inl less ↦ below.ended k b j less found names | inr more ↦ absurd (omega arith) ]
    ];
  }

  below_begins : (at e : ℕ) (i : Instr) → slice_get u.code at ≡ Some i → end_named i ≡ Some e → AreNestedBelow u at → at < e → span_begun u at i ≡ Some (span at e)
      → AreNestedBelow u (at + 1)
  below_begins at e i here names below ahead begun = below_more at i here below
      (λ x named. subst (λ n. (at < n) × (span_begun u at i ≡ Some (span at n))) (same_Some e x (sym names ∙ named)) (ahead, begun))
      (λ b named. absurd (none-some b (sym (ends_none i e names) ∙ named)))

  below_ends : (at b : ℕ) (i : Instr) → slice_get u.code at ≡ Some i → begin_named i ≡ Some b → AreNestedBelow u at → b < at → Has (spans u) (span b at)
      → IsInNoneBehind u at b → AreNestedBelow u (at + 1)
  below_ends at b i here names below before has none = below_more at i here below
      (λ e named. absurd (none-some e (sym (begins_none i b names) ∙ named)))
      (λ x named. subst (λ n. (n < at) × Has (spans u) (span n at) × IsInNoneBehind u at n) (same_Some b x (sym names ∙ named)) (before, has, none))

  below_stays : (at : ℕ) (i : Instr) → slice_get u.code at ≡ Some i → end_named i ≡ None → begin_named i ≡ None → AreNestedBelow u at → AreNestedBelow u (at + 1)
  below_stays at i here no_e no_b below = below_more at i here below
      (λ e named. absurd (none-some e (sym no_e ∙ named)))
      (λ b named. absurd (none-some b (sym no_b ∙ named)))

  pub below_none : AreNestedBelow u 0
  below_none = record { begun = λ k e j lt found names. absurd (omega arith); ended = λ k b j lt found names. absurd (omega arith) }

  -- no loop or finish lies round the first place
  pub place_first : LiesSo u 0 (record { within = None; finish = None; depth = 0; counters = 0 })
  place_first = record {
    within = λ s has. false_from_ne_true (is_inside 0 s) (λ on. let h = (decides_inside 0 s).0 on in omega arith);
    finish = ap innermost (sym (block_first u));
    depth = ap length (sym (block_first u));
    counters = λ s lt. ap (λ n. n == 1) (bit_at-zero s) ∙ sym (false_from_ne_true (is_counter u 0 s) (λ on.
        let r = any_found (λ l. is_round 0 l && counts_by s l) (loops u) on in
        let h = (decides_inside 0 (span_of r.0)).0 (and_parts (is_round 0 r.0) (counts_by s r.0) r.2).0 in omega arith));
  }

-- ---- where all nest

-- the innermost at the end of one is that one
within_ended : (u : UnitValue) → AreNested u → (at b : ℕ) (o : Option ℕ) → b < at → Has (spans u) (span b at) → LiesWithin u at o → o ≡ Some b
within_ended u nested at b None before has none =
    absurd (both_ways (is_inside at (span b at)) (none (span b at) has) ((decides_inside at (span b at)).1 (before, omega arith)))
within_ended u nested at b (Some m) before has is =
    let f = span b at in
    let le = is.last f has ((decides_inside at f).1 (before, omega arith)) in
    let inside = (decides_inside at is.round).0 is.inside in
    ap Some (elim (cases_order m b) [
      | inl same ↦ same
      | inr other ↦ elim other [
        | inl lt ↦ absurd (omega arith)
        | inr gt ↦
            let end = ends_inside f is.round (nested_apart u nested f is.round has is.has) (omega (arith, is.begins)) (omega (arith, is.begins)) in
            let same = same_begin u f is.round (is_span u f has) (is_span u is.round is.has) (omega arith) in
            absurd (omega (arith, is.begins))
      ]
    ])

-- ---- the place behind an instruction

-- the instruction that stands at a place, as an index gives it
pub found_at : (u v : UnitValue) (at : ℕ) (i : Instr) → v ≡ u → at < length u.code → i ≡ get_or v.code at i → slice_get u.code at ≡ Some i
found_at u v at i same inside is = slice_get-get_or u.code at i inside ∙ ap Some (ap (λ (w : UnitValue). get_or w.code at i) (sym same) ∙ sym is)

-- how a place lies that is known, as an index gives it
pub place_known : (u : UnitValue) (known : List Place) (at : ℕ) (d : Place) → AreFirstPlaces u known → at < length known → LiesSo u at (get_or known at d)
place_known u known at d all inside = all at (get_or known at d) (slice_get-get_or known at d inside)

-- what ends one, by the instruction
pub names_begin : (i : Instr) (b : ℕ) → (i ≡ instr.Next b) ⊎ (i ≡ instr.EndFinish b) → begin_named i ≡ Some b
names_begin i b (inl is) = ap begin_named is
names_begin i b (inr is) = ap begin_named is

-- what neither begins nor ends one
pub names_no_end : (i : Instr) → ((k : ℕ) (lo hi : ℤ) (e : ℕ) → i ≡ instr.For k lo hi e → ⊥)
    → ((k : ℕ) (lo : ℤ) (x : ℕ) (hi : ℤ) (e : ℕ) → i ≡ instr.ForTo k lo x hi e → ⊥) → ((e : ℕ) → i ≡ instr.Finish e → ⊥) → end_named i ≡ None
names_no_end (instr.For k lo hi e) no_for no_forto no_finish = absurd (no_for k lo hi e refl)
names_no_end (instr.ForTo k lo x hi e) no_for no_forto no_finish = absurd (no_forto k lo x hi e refl)
names_no_end (instr.Finish e) no_for no_forto no_finish = absurd (no_finish e refl)
names_no_end _ no_for no_forto no_finish = refl

pub names_no_begin : (i : Instr) → ((b : ℕ) → i ≡ instr.Next b → ⊥) → ((b : ℕ) → i ≡ instr.EndFinish b → ⊥) → begin_named i ≡ None
names_no_begin (instr.Next b) no_next no_end = absurd (no_next b refl)
names_no_begin (instr.EndFinish b) no_next no_end = absurd (no_end b refl)
names_no_begin _ no_next no_end = refl

module _ (u : UnitValue) (at : ℕ) (i : Instr) (p : Place) (here : slice_get u.code at ≡ Some i) (so : LiesSo u at p) (below : AreNestedBelow u at) where
  -- the place behind lies so, and what stands before it nests
  abbrev pub GoesOn : Place → Type 0
  GoesOn q = LiesSo u (at + 1) q × AreNestedBelow u (at + 1)

  behind_loop : (e n : ℕ) (own : Loop) → loop_head at i ≡ Some own → end_named i ≡ Some e → begins_behind u at i ≡ true
      → ((s : ℕ) → s < 64 → has_slot n s ≡ (counts_by s own || has_slot p.counters s))
      → GoesOn (record { within = Some at; finish = p.finish; depth = p.depth; counters = n })
  behind_loop e n own head named test counters =
      let b = begun_ahead u at e i here named test in (
        place_loops u at e i own p (record { within = Some at; finish = p.finish; depth = p.depth; counters = n })
            here head named b.0 b.1 so refl refl refl counters,
        below_begins u at e i here named below b.0 b.1,
      )

  -- its slot is a counter
  pub behind_for : (k e n : ℕ) (lo hi : ℤ) → i ≡ instr.For k lo hi e → begins_behind u at i ≡ true → ((s : ℕ) → s < 64 → has_slot n s ≡ ((s == k) || has_slot p.counters s))
      → GoesOn (record { within = Some at; finish = p.finish; depth = p.depth; counters = n })
  behind_for k e n lo hi is test counters = behind_loop e n _ (ap (loop_head at) is) (ap end_named is) test
      (λ s lt. counters s lt ∙ ap (λ b. b || has_slot p.counters s) (sym (or-false (s == k))))

  -- and so is its limit
  pub behind_forto : (k x e n m : ℕ) (lo hi : ℤ) → i ≡ instr.ForTo k lo x hi e → begins_behind u at i ≡ true
      → ((s : ℕ) → s < 64 → has_slot m s ≡ ((s == k) || has_slot p.counters s)) → ((s : ℕ) → s < 64 → has_slot n s ≡ ((s == x) || has_slot m s))
      → GoesOn (record { within = Some at; finish = p.finish; depth = p.depth; counters = n })
  behind_forto k x e n m lo hi is test slot limit = behind_loop e n _ (ap (loop_head at) is) (ap end_named is) test
      (λ s lt. limit s lt ∙ ap (λ b. (s == x) || b) (slot s lt) ∙ turned (s == x) (x == s) (s == k) (has_slot p.counters s) (same_test (s == x) (x == s) (λ h. eq-eqb x s (sym (eqb-true s x h))) (λ h. eq-eqb s x (sym (eqb-true x s h)))))
    where
      turned : (a b c d : Bool) → a ≡ b → (a || (c || d)) ≡ ((c || b) || d)
      turned true true true d h = refl
      turned true true false d h = refl
      turned false false true d h = refl
      turned false false false d h = refl
      turned true false c d h = absurd (grind arith)
      turned false true c d h = absurd (grind arith)

  pub behind_finish : (e : ℕ) → i ≡ instr.Finish e → begins_behind u at i ≡ true
      → GoesOn (record { within = Some at; finish = Some at; depth = p.depth + 1; counters = p.counters })
  behind_finish e is test =
      let named = ap end_named is in
      let b = begun_ahead u at e i here named test in (
        place_finishes u at e p (record { within = Some at; finish = Some at; depth = p.depth + 1; counters = p.counters })
            (here ∙ ap Some is) b.0 (ap (span_begun u at) (sym is) ∙ b.1) so refl refl refl refl,
        below_begins u at e i here named below b.0 b.1,
      )

  pub behind_end : (b : ℕ) (q : Place) → begin_named i ≡ Some b → ends_behind u at b ≡ true → option_eq eqb p.within (Some b) ≡ true → LiesSo u b q → GoesOn q
  behind_end b q named test innermost_is lies =
      let e = ended_behind u at b test in
      let at_b : IsInnermost u at b = subst (LiesWithin u at) ((decides_option p.within (Some b)).0 innermost_is) so.within in
      (place_leaves u at b i q here named below e.0 e.1 at_b.last lies, below_ends u at b i here named below e.0 e.1 at_b.last)

  pub behind_other : end_named i ≡ None → begin_named i ≡ None → GoesOn p
  behind_other no_e no_b = (place_stays u at i p here no_e no_b so, below_stays u at i here no_e no_b below)

  pub amiss_begin : (e : ℕ) → end_named i ≡ Some e → begins_behind u at i ≡ false → AreNested u → ⊥
  amiss_begin e named test nested = both_ways (begins_behind u at i) test (nested_begun u nested at e i here named)

  pub amiss_end : (b : ℕ) → begin_named i ≡ Some b → ends_behind u at b ≡ false → AreNested u → ⊥
  amiss_end b named test nested = both_ways (ends_behind u at b) test (nested_ended u nested at b i here named)

  pub amiss_within : (b : ℕ) → begin_named i ≡ Some b → ends_behind u at b ≡ true → option_eq eqb p.within (Some b) ≡ false → AreNested u → ⊥
  amiss_within b named test other nested =
      let e = ended_behind u at b test in
      both_ways (option_eq eqb p.within (Some b)) other ((decides_option p.within (Some b)).1 (within_ended u nested at b p.within e.0 e.1 so.within))

-- ---- two places with the same innermost

module _ (u : UnitValue) (nested : AreNested u) where
  round_both : (a b m : ℕ) → IsInnermost u a m → IsInnermost u b m → (s : Span) → Has (spans u) s → is_inside a s ≡ true → is_inside b s ≡ true
  round_both a b m at_a at_b s has on =
      let f = at_b.round in
      let in_b = (decides_inside b f).0 at_b.inside in
      let in_a = (decides_inside a at_a.round).0 at_a.inside in
      let of_s = (decides_inside a s).0 on in
      let le = at_a.last s has on in
      (decides_inside b s).1 (elim (cases_order s.first m) [
        | inl same ↦ let e = same_end u f s (is_span u f at_b.has) (is_span u s has) (same ∙ sym at_b.begins) in (omega (arith, at_b.begins), omega arith)
        | inr other ↦ elim other [
          | inl lt ↦
              let end = ends_inside s f (nested_apart u nested s f has at_b.has) (omega (arith, at_b.begins)) (omega (arith, at_b.begins, at_a.begins)) in
              (omega (arith, at_b.begins), omega arith)
          | inr gt ↦ absurd (omega arith)
        ]
      ])

  same_round : (a b : ℕ) (o : Option ℕ) → LiesWithin u a o → LiesWithin u b o → AreRoundBoth u a b
  same_round a b None none_a none_b s has = none_a s has ∙ sym (none_b s has)
  same_round a b (Some m) at_a at_b s has = same_test (is_inside a s) (is_inside b s) (round_both a b m at_a at_b s has) (round_both b a m at_b at_a s has)

  same_innermost : (a b : ℕ) (o p : Option ℕ) → LiesWithin u a o → LiesWithin u b p → AreRoundBoth u a b → o ≡ p
  same_innermost a b None None at_a at_b same = refl
  same_innermost a b None (Some n) none at_b same = absurd (both_ways (is_inside a at_b.round) (none at_b.round at_b.has) (same at_b.round at_b.has ∙ at_b.inside))
  same_innermost a b (Some m) None at_a none same = absurd (both_ways (is_inside b at_a.round) (none at_a.round at_a.has) (sym (same at_a.round at_a.has) ∙ at_a.inside))
  same_innermost a b (Some m) (Some n) at_a at_b same =
      let le = at_b.last at_a.round at_a.has (sym (same at_a.round at_a.has) ∙ at_a.inside) in
      let ge = at_a.last at_b.round at_b.has (same at_b.round at_b.has ∙ at_b.inside) in
      let one : m ≡ n = omega (arith, at_a.begins, at_b.begins) in
      ap Some one

  not_differ : (p q : Bool) → p ≡ q → differ p q ≡ false
  not_differ true q h = ap not (sym h)
  not_differ false q h = sym h

  -- the innermost tells whether some stretch lies round one of the two places alone
  pub parted : (a b : ℕ) (p q : Place) → LiesSo u a p → LiesSo u b q → not (option_eq eqb p.within q.within) ≡ list_any (λ s. differ (is_inside a s) (is_inside b s)) (spans u)
  parted a b p q so_a so_b = go (list_any (λ s. differ (is_inside a s) (is_inside b s)) (spans u)) refl
    where
      test : Span → Bool
      test s = differ (is_inside a s) (is_inside b s)

      go : (t : Bool) → list_any (λ s. differ (is_inside a s) (is_inside b s)) (spans u) ≡ t → not (option_eq eqb p.within q.within) ≡ t
      go false e =
          let same = same_innermost a b p.within q.within so_a.within so_b.within
          (λ s has. differ_not (is_inside a s) (is_inside b s) (none_has (λ x. differ (is_inside a x) (is_inside b x)) (spans u) s e has)) in
          ap not ((decides_option p.within q.within).1 same)
      go true e =
          let r = any_found (λ x. differ (is_inside a x) (is_inside b x)) (spans u) e in
          ap not (false_from_ne_true (option_eq eqb p.within q.within) (λ on.
          let same = (decides_option p.within q.within).0 on in
          let round = same_round a b q.within (subst (LiesWithin u a) same so_a.within) so_b.within r.0 r.1 in
          both_ways (differ (is_inside a r.0) (is_inside b r.0)) (not_differ (is_inside a r.0) (is_inside b r.0) round) r.2))
