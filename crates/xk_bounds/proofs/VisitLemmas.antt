-- How often an instruction is carried out at most, from one place of a unit to the next: what is carried along the code is right.
use Rattle.std.proofs.Common.{◌≡◌, ℕ, ℤ, zero, suc, ◌+◌, ◌*◌, ◌<◌, ◌≤◌, eqb, min, cond, nat_lt, Bool, true, false, not, ◌&&◌, List, [], ◌∷◌, ◌++◌, length, map, filter, Option, Some, None, option_map, slice_get, slice_index, inl, inr, sym, refl, ap, ◌∙◌, subst, arith}
use Rattle.std.specs.List.{list_any}
use Rattle.std.specs.Option.{option_map_or}
use Rattle.std.proofs.Math.Nat.{mul_comm, mul_left_comm}
use Rattle.std.proofs.lemmas.Option.{same_Some, none-some, cond_some, option_and_then_some}
use Rattle.std.proofs.lemmas.Bool.{and_parts, or_parts, not-false, ltb-true, le-ltb, eqb-true, both_ways, false_from_ne_true, cases_order}
use Rattle.xk_types.specs.declared.instr.Instr.{Instr}
use Rattle.xk_types.specs.declared.instr.Instr.TheVariants as instr
use Rattle.xk_types.specs.Order.{Has}
use Rattle.xk_types.specs.Code.{UnitValue, Loop, loop_head, loop_begun, begun_from, loops, is_next_of, is_round, turns}
use Rattle.xk_types.specs.Blocks.{Span, is_end_of, finishes}
use Rattle.xk_types.specs.Shape.{aims_well, instr_is, is_crossing, span_of, spans, span_begun, span_ended, overlaps}
use Rattle.xk_types.specs.Bound.{product, visits}
use Rattle.xk_shape.specs.Blocks.{IsOrderly}
use Rattle.xk_bounds.specs.Measure.{loop_between, visits_next}
use Rattle.xk_bounds.proofs.CutLemmas.{cut_left}
use Rattle.xk_types.proofs.ShapeLemmas.LoopLemmas.{IsLoop, head_aims, head_crossing, begins, is_loop}
use Rattle.xk_types.proofs.ShapeLemmas.SpanLemmas.{not_amiss, of_loop}
use Rattle.xk_shape.proofs.NestingLemmas.{no_rise, decides_inside, inside_same, inside_next}

-- ---- products

chosen : (b : Bool) (l : Loop) (xs ys : List Loop) → product xs ≡ product ys → product (cond b (l ∷ xs) xs) ≡ product (cond b (l ∷ ys) ys)
chosen true l xs ys e = ap (λ n. turns l * n) e
chosen false l xs ys e = e

chosen_times : (b : Bool) (t : ℕ) (l : Loop) (xs ys : List Loop) → product xs ≡ t * product ys → product (cond b (l ∷ xs) xs) ≡ t * product (cond b (l ∷ ys) ys)
chosen_times true t l xs ys e = ap (λ n. turns l * n) e ∙ mul_left_comm (turns l) t (product ys)
chosen_times false t l xs ys e = e

-- two tests that agree on the loops of a list choose the same product
product_same : (p q : Loop → Bool) (ls : List Loop) → ((l : Loop) → Has ls l → p l ≡ q l) → product (filter p ls) ≡ product (filter q ls)
product_same p q [] same = refl
product_same p q (l ∷ ls) same =
    ap (λ b. product (cond b (l ∷ filter p ls) (filter p ls))) (same l (inl refl))
    ∙ chosen (q l) l (filter p ls) (filter q ls) (product_same p q ls (λ k has. same k (inr has)))

-- a test that chooses none
product_none : (p : Loop → Bool) (ls : List Loop) → ((l : Loop) → p l ≡ false) → product (filter p ls) ≡ 1
product_none p [] none = refl
product_none p (l ∷ ls) none = ap (λ b. product (cond b (l ∷ filter p ls) (filter p ls))) (none l) ∙ product_none p ls none

-- a test that no loop or finish passes
none_any : (f : Span → Bool) (ls : List Loop) (fs : List Span) → list_any f (map span_of ls ++ fs) ≡ false → (l : Loop) → Has ls l → f (span_of l) ≡ false
none_any f [] fs h l has = absurd has
none_any f (k ∷ ls) fs h l (inl same) = ap (λ x. f (span_of x)) (sym same) ∙ (or_parts (f (span_of k)) (list_any f (map span_of ls ++ fs)) h).0
none_any f (k ∷ ls) fs h l (inr has) = none_any f ls fs (or_parts (f (span_of k)) (list_any f (map span_of ls ++ fs)) h).1 l has

-- ---- the loops of a unit

begun_is : (u : UnitValue) (first : ℕ) (i : Instr) (l : Loop) → slice_get u.code first ≡ Some i → loop_begun u first i ≡ Some l → (l.first ≡ first) × IsLoop u l
begun_is u first i l here h =
    let b = begins u first i l h in
    let ends : slice_get u.code l.last ≡ Some (instr.Next l.first) = b.next ∙ ap (λ n. Some (instr.Next n)) (sym b.first) in
    (b.first, record { head = i; begins = ap (slice_get u.code) b.first ∙ here; is = ap (λ n. loop_head n i) b.first ∙ b.is; ends = ends })

-- the list is the unit's code from a place on
abbrev IsFrom : UnitValue → ℕ → List Instr → Type 0
IsFrom u n is = (j : ℕ) → slice_get is j ≡ slice_get u.code (n + j)

module _ (u : UnitValue) where
  from_next : (n : ℕ) (i : Instr) (is : List Instr) → IsFrom u n (i ∷ is) → IsFrom u (suc n) is
  from_next n i is from = λ j. let e : n + suc j ≡ suc n + j = omega arith in from (suc j) ∙ ap (slice_get u.code) e

  from_here : (n : ℕ) (i : Instr) (is : List Instr) → IsFrom u n (i ∷ is) → slice_get u.code n ≡ Some i
  from_here n i is from = let e : n ≡ n + 0 = omega arith in ap (slice_get u.code) e ∙ sym (from 0)

  member_here : (n : ℕ) (i : Instr) (rest : List Loop) (l : Loop) (o : Option Loop) → slice_get u.code n ≡ Some i → loop_begun u n i ≡ o
      → (Has rest l → (suc n ≤ l.first) × IsLoop u l)
      → Has (option_map_or (λ k. k ∷ rest) o rest) l → (n ≤ l.first) × IsLoop u l
  member_here n i rest l None here e later has = let is = later has in (omega arith, is.1)
  member_here n i rest l (Some k) here e later (inl same) =
      let is = begun_is u n i k here e in
      subst (λ (x : Loop). (n ≤ x.first) × IsLoop u x) same (omega arith, is.1)
  member_here n i rest l (Some k) here e later (inr has) = let is = later has in (omega arith, is.1)

  member_from : (n : ℕ) (is : List Instr) → IsFrom u n is → (l : Loop) → Has (begun_from (loop_begun u) n is) l → (n ≤ l.first) × IsLoop u l
  member_from n [] from l has = absurd has
  member_from n (i ∷ is) from l has =
      member_here n i (begun_from (loop_begun u) (suc n) is) l (loop_begun u n i) (from_here n i is from) refl (member_from (suc n) is (from_next n i is from) l) has

  -- an instruction that is no `for`, and one that is no `next`
  abbrev begins_none : Instr → Bool
  begins_none (instr.For k lo hi e) = false
  begins_none (instr.ForTo k lo x hi e) = false
  begins_none _ = true

  abbrev ends_none : Instr → Bool
  ends_none (instr.Next b) = false
  ends_none _ = true

  -- the head of a loop begins one, and ends none
  head_halves : (n : ℕ) (i : Instr) (l : Loop) → loop_head n i ≡ Some l → (begins_none i ≡ false) × (ends_none i ≡ true)
  head_halves n (instr.For k lo hi e) l h = (refl, refl)
  head_halves n (instr.ForTo k lo x hi e) l h = (refl, refl)
  head_halves n _ l h = absurd (none-some l h)

  no_begin : (at : ℕ) (i : Instr) (l : Loop) → slice_get u.code at ≡ Some i → begins_none i ≡ true → IsLoop u l → l.first ≡ at → ⊥
  no_begin at i l here none is e =
      both_ways (begins_none i) (ap begins_none (same_Some _ _ (sym here ∙ ap (slice_get u.code) (sym e) ∙ is.begins)) ∙ (head_halves l.first is.head l is.is).0) none

  no_end : (at : ℕ) (i : Instr) (l : Loop) → slice_get u.code at ≡ Some i → ends_none i ≡ true → IsLoop u l → l.last ≡ at → ⊥
  no_end at i l here none is e =
      both_ways (ends_none i) (ap ends_none (same_Some _ _ (sym here ∙ ap (slice_get u.code) (sym e) ∙ is.ends))) none

  -- behind any other instruction the count is the same
  stays : (at : ℕ) (i : Instr) → slice_get u.code at ≡ Some i → begins_none i ≡ true → ends_none i ≡ true → visits u (suc at) ≡ visits u at
  stays at i here no_for no_next =
      product_same (is_round (suc at)) (is_round at) (loops u)
      (λ l has. let is = is_loop u l has in inside_next at (span_of l) (no_begin at i l here no_for is) (no_end at i l here no_next is))

  pub starts : visits u 0 ≡ 1
  starts = product_none (is_round 0) (loops u) (λ l. rw (le-ltb l.first 0 (omega arith)) refl)

  -- ---- into a loop

  entered_here : (n : ℕ) (rest : List Loop) (l : Loop) (p q : Loop → Bool) (o : Option Loop) → o ≡ Some l → p l ≡ true → q l ≡ false
      → product (filter p rest) ≡ product (filter q rest)
      → product (filter p (option_map_or (λ k. k ∷ rest) o rest)) ≡ turns l * product (filter q (option_map_or (λ k. k ∷ rest) o rest))
  entered_here n rest l p q o e passes fails same =
      ap (λ x. product (filter p (option_map_or (λ k. k ∷ rest) x rest))) e
      ∙ ap (λ b. product (cond b (l ∷ filter p rest) (filter p rest))) passes
      ∙ ap (λ x. turns l * x) (same ∙ sym (ap (λ b. product (cond b (l ∷ filter q rest) (filter q rest))) fails))
      ∙ sym (ap (λ x. turns l * product (filter q (option_map_or (λ k. k ∷ rest) x rest))) e)

  entered_later : (rest : List Loop) (t : ℕ) (p q : Loop → Bool) (o : Option Loop) → ((k : Loop) → o ≡ Some k → p k ≡ q k) → product (filter p rest) ≡ t * product (filter q rest)
      → product (filter p (option_map_or (λ k. k ∷ rest) o rest)) ≡ t * product (filter q (option_map_or (λ k. k ∷ rest) o rest))
  entered_later rest t p q None same e = e
  entered_later rest t p q (Some k) same e =
      ap (λ b. product (cond b (k ∷ filter p rest) (filter p rest))) (same k refl) ∙ chosen_times (q k) t k (filter p rest) (filter q rest) e

  module _ (at : ℕ) (i : Instr) (l : Loop) (here : slice_get u.code at ≡ Some i) (is_for : ends_none i ≡ true) (begun : loop_begun u at i ≡ Some l) (ahead : at < l.last) where
    entered : (n j : ℕ) (is : List Instr) → IsFrom u n is → slice_get is j ≡ Some i → n + j ≡ at
        → product (filter (is_round (suc at)) (begun_from (loop_begun u) n is)) ≡ turns l * product (filter (is_round at) (begun_from (loop_begun u) n is))
    entered n j [] from found e = cc
    entered n zero (x ∷ is) from found e =
        let first = begun_is u at i l here begun in
        let same : n ≡ at = omega arith in
        entered_here n (begun_from (loop_begun u) (suc n) is) l (is_round (suc at)) (is_round at) (loop_begun u n x)
        (ap (λ k. loop_begun u k x) same ∙ ap (loop_begun u at) (same_Some x i found) ∙ begun)
        ((decides_inside (suc at) (span_of l)).1 (omega arith, omega arith))
        (false_from_ne_true (is_round at l) (λ round. let of = (decides_inside at (span_of l)).0 round in omega arith))
        (product_same (is_round (suc at)) (is_round at) (begun_from (loop_begun u) (suc n) is) (λ k has.
        let at_k = member_from (suc n) is (from_next n x is from) k has in
        inside_next at (span_of k) (λ eq. omega arith) (no_end at i k here is_for at_k.1)))
    entered n (suc j) (x ∷ is) from found e =
        entered_later (begun_from (loop_begun u) (suc n) is) (turns l) (is_round (suc at)) (is_round at) (loop_begun u n x)
        (λ k eq.
        let at_k = begun_is u n x k (from_here n x is from) eq in
        inside_next at (span_of k) (λ eq. omega arith) (no_end at i k here is_for at_k.1))
        (entered (suc n) j is (from_next n x is from) found (omega arith))

  -- behind the head of a loop, each turn of it
  enters : (at : ℕ) (i : Instr) (l : Loop) → IsOrderly u → slice_get u.code at ≡ Some i → loop_head at i ≡ Some l → visits u (suc at) ≡ turns l * visits u at
  enters at i l blocks here head =
      let some = not_amiss u (option_map span_of (loop_begun u at i)) (sym (head_crossing u at at i l head) ∙ sym (ap (instr_is (is_crossing u at)) here) ∙ blocks.blocks at) in
      let is = of_loop (loop_begun u at i) some.0 some.1 in
      let begun : loop_begun u at i ≡ Some l = is.1 ∙ sym (begins u at i is.0 is.1).is ∙ head in
      let aims = not-false (aims_well u at i) (sym (ap (instr_is (λ x. not (aims_well u at x))) here) ∙ blocks.targets at) in
      let ahead = ltb-true at l.last (and_parts (nat_lt at l.last) (nat_lt l.last (length u.code)) (sym (head_aims u at at i l head) ∙ aims)).0 in
      entered at i l here (head_halves at i l head).1 begun ahead 0 at u.code (λ j. let eq : j ≡ 0 + j = omega arith in ap (slice_get u.code) eq) here (omega arith)

  -- ---- out of a loop

  -- it is the span of a loop that ends at this place
  record IsEnded (at first : ℕ) (s : Span) : Type 0 where
    l : Loop
    span : span_of l ≡ s
    begins : l.first ≡ first
    ends : l.last ≡ at
    is : IsLoop u l

  loop_ended : (at first : ℕ) (i : Instr) (s : Span) → slice_get u.code first ≡ Some i → option_map span_of (loop_begun u first i) ≡ Some s → s.last ≡ at → IsEnded at first s
  loop_ended at first i s here begun ends =
      let of = of_loop (loop_begun u first i) s begun in
      let is = begun_is u first i of.0 here of.1 in
      record { l = of.0; span = of.2; begins = is.0; ends = ap (λ (x : Span). x.last) of.2 ∙ ends; is = is.1 }

  begun_ended : (at first : ℕ) (i : Instr) (s : Span) → slice_get u.code at ≡ Some (instr.Next first) → slice_get u.code first ≡ Some i → span_begun u first i ≡ Some s
      → s.last ≡ at → IsEnded at first s
  begun_ended at first (instr.For k lo hi e) s next here begun ends = loop_ended at first (instr.For k lo hi e) s here begun ends
  begun_ended at first (instr.ForTo k lo x hi e) s next here begun ends = loop_ended at first (instr.ForTo k lo x hi e) s here begun ends
  begun_ended at first (instr.Finish e) s next here begun ends =
      let both = cond_some (is_end_of first (slice_get u.code e)) (record { first = first; last = e }) s begun in
      let same : e ≡ at = ap (λ (x : Span). x.last) both.1 ∙ ends in
      absurd (both_ways true (sym both.0 ∙ ap (λ n. is_end_of first (slice_get u.code n)) same ∙ ap (is_end_of first) next) refl)
  begun_ended at first _ s next here begun ends = cc

  ended_is : (at first : ℕ) (s : Span) (o : Option Instr) → slice_get u.code at ≡ Some (instr.Next first) → slice_get u.code first ≡ o → span_ended u at first o ≡ Some s
      → IsEnded at first s
  ended_is at first s None next here h = cc
  ended_is at first s (Some i) next here h =
      option_and_then_some (λ k. cond (eqb k.last at) (Some k) None) (span_begun u first i) s h (λ k begun kept.
      let both = cond_some (eqb k.last at) k s kept in
      subst (IsEnded at first) both.1 (begun_ended at first i k next here begun (eqb-true k.last at both.0)))

  -- of two loops of one `for`, or of one `next`, one is the other
  same_end : (l k : Loop) → IsLoop u l → IsLoop u k → k.first ≡ l.first → k.last ≡ l.last
  same_end l k is at_k e =
      let same : at_k.head ≡ is.head = same_Some _ _ (sym at_k.begins ∙ ap (slice_get u.code) e ∙ is.begins) in
      ap (λ x. x.last) (same_Some k l (sym at_k.is ∙ ap (loop_head k.first) same ∙ ap (λ n. loop_head n is.head) e ∙ is.is))

  same_begin : (l k : Loop) → IsLoop u l → IsLoop u k → k.last ≡ l.last → k.first ≡ l.first
  same_begin l k is at_k e = let same = same_Some _ _ (sym at_k.ends ∙ ap (slice_get u.code) e ∙ is.ends) in cc

  -- a loop lies round the place behind a `next` where it lies round its `for`
  round_left : (l k : Loop) → l.first < l.last → IsLoop u l → IsLoop u k → overlaps (span_of l) (span_of k) ≡ false → is_round (suc l.last) k ≡ is_round l.first k
  round_left l k long is at_k apart =
      let parts = or_parts (nat_lt l.first k.first && nat_lt k.first l.last && nat_lt l.last k.last)
      (nat_lt k.first l.first && nat_lt l.first k.last && nat_lt k.last l.last) apart in
      let begins = no_begin l.last (instr.Next l.first) k is.ends refl at_k in
      let ends = no_end l.first is.head k is.begins (head_halves l.first is.head l is.is).1 at_k in
      let inside = no_rise l.first k.first l.last k.last parts.0 in
      let about = no_rise k.first l.first k.last l.last parts.1 in
      inside_same (suc l.last) l.first (span_of k)
      (λ h.
      let before : k.first < l.first = elim (cases_order k.first l.first) [
        | inl same ↦ let e = same_end l k is at_k same in absurd (omega arith)
        | inr apart ↦ elim apart [ inl lt ↦ lt | inr gt ↦ absurd (inside gt (omega arith) (omega arith)) ]
      ]
      in (before, omega arith))
      (λ h.
      let lt : l.first < k.last = omega arith in
      let behind : l.last < k.last = elim (cases_order l.last k.last) [
        | inl same ↦ let e = same_begin l k is at_k (sym same) in absurd (omega arith)
        | inr apart ↦ elim apart [ inl lt ↦ lt | inr gt ↦ absurd (about h.0 lt gt) ]
      ]
      in (omega arith, omega arith))

  leaves : (at first : ℕ) → IsOrderly u → slice_get u.code at ≡ Some (instr.Next first) → (first < at) × (visits u (suc at) ≡ visits u first)
  leaves at first blocks here =
      let i = instr.Next first in
      let some = not_amiss u (span_ended u at first (slice_get u.code first)) (sym (ap (instr_is (is_crossing u at)) here) ∙ blocks.blocks at) in
      let ended = ended_is at first some.0 (slice_get u.code first) here refl some.1 in
      let l = ended.l in
      let aims = not-false (aims_well u at i) (sym (ap (instr_is (λ x. not (aims_well u at x))) here) ∙ blocks.targets at) in
      let behind = ltb-true first at aims in
      let P : ℕ → ℕ → Type 0 = λ a b. visits u (suc a) ≡ visits u b in
      let long : l.first < l.last = omega (arith, ended.begins, ended.ends, behind) in
      let apart : list_any (overlaps (span_of l)) (spans u) ≡ false = ap (λ x. list_any (overlaps x) (spans u)) ended.span ∙ some.2 in
      let same = product_same (is_round (suc l.last)) (is_round l.first) (loops u)
      (λ k has. round_left l k long ended.is (is_loop u k has) (none_any (overlaps (span_of l)) (loops u) (finishes u) apart k has)) in
      (behind, subst (λ b. P at b) ended.begins (subst (λ a. P a l.first) ended.ends same))

-- ---- one place on

-- the count behind an instruction, cut, is what is reckoned from the counts so far
pub next_measured : (u : UnitValue) (cut at here : ℕ) (before : List ℕ) (i : Instr) → IsOrderly u → slice_get u.code at ≡ Some i → here ≡ min (visits u at) cut
    → ((k : ℕ) → k < at → slice_index before k ≡ min (visits u k) cut)
    → visits_next cut before here i ≡ min (visits u (suc at)) cut
next_measured u cut at here before (instr.For k lo hi e) blocks found is counted =
    ap (λ n. min (n * turns (loop_between lo hi)) cut) is
    ∙ cut_left cut (visits u at) (turns (loop_between lo hi))
    ∙ ap (λ n. min n cut) (mul_comm (visits u at) (turns (loop_between lo hi)) ∙ sym (enters u at (instr.For k lo hi e) _ blocks found refl))
next_measured u cut at here before (instr.ForTo k lo x hi e) blocks found is counted =
    ap (λ n. min (n * turns (loop_between lo hi)) cut) is
    ∙ cut_left cut (visits u at) (turns (loop_between lo hi))
    ∙ ap (λ n. min n cut) (mul_comm (visits u at) (turns (loop_between lo hi)) ∙ sym (enters u at (instr.ForTo k lo x hi e) _ blocks found refl))
next_measured u cut at here before (instr.Next first) blocks found is counted =
    let out = leaves u at first blocks found in
    counted first out.0 ∙ ap (λ n. min n cut) (sym out.1)
next_measured u cut at here before i blocks found is counted =
    is ∙ ap (λ n. min n cut) (sym (stays u at i found refl refl))
