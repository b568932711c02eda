-- The loops of a unit that breaks no rule on shape: each head and each `next` is half of one, they nest or lie apart, and jumps stay in
-- them.
use Rattle.std.proofs.Common.{◌≡◌, ℕ, ◌<◌, ◌==◌, ℤ, int_lt, int_le, Bool, true, false, ◌&&◌, length, Option, Some, None, refl, sym, ap, ◌∙◌, subst, arith, ltb-true, eqb-true, option_and_then, option_map}
use Rattle.std.specs.Prelude.{slice_get, nat_lt, if◌then◌else◌}
use Rattle.std.specs.Option.{option_map_or}
use Rattle.std.specs.List.{list_any}
use Rattle.std.proofs.lemmas.Bool.{or_parts, and_from, or_left, eq-eqb, false≢true}
use Rattle.std.proofs.lemmas.Int.{ints}
use Rattle.std.proofs.lemmas.Option.{none-some, same_Some, cond_some}
use Rattle.xk_types.specs.declared.instr.Instr.{Instr}
use Rattle.xk_types.specs.declared.instr.Instr.TheVariants as instr
use Rattle.xk_types.specs.Code.{UnitValue, Loop, loop_head, loop_begun, loops, is_round, is_within}
use Rattle.xk_types.specs.Blocks.{Span, is_end_of, finishes, is_inside}
use Rattle.xk_types.specs.Order.{Has}
use Rattle.xk_types.specs.Shape.{instr_is, is_ret, slot_written, target, lies_ahead, breaks_target, span_of, span_begun, spans, overlaps, span_ended, crosses, breaks_block, is_limit, is_backward, begins_backward, spoils, breaks_loop}
use Rattle.xk_types.proofs.ShapeLemmas.SpanStartLemmas.{Rising, begun_had, begun_rise}
use Rattle.xk_types.proofs.MembershipLemmas.{none_has}
use Rattle.xk_types.proofs.ShapeLemmas.SpanLemmas.{not_amiss, of_loop, loop_span, finish_span, aims, uncrossing, ahead, differ_not}
use Rattle.xk_types.proofs.ShapeLemmas.LoopLemmas.{IsLoop, head_first, head_aims, head_crossing, head_backward, begins, begins_at, is_loop}
use Rattle.xk_types.proofs.ShapeLemmas.FinishLemmas.{is_finish}
use Rattle.xk_types.proofs.ListLemmas.{get_once}
use Rattle.std.proofs.lemmas.Bool.{cases_eq}
use Rattle.std.proofs.lemmas.Bool.Decides.{nat_tests}
use Rattle.std.proofs.Common.{◌+◌, ◌⊎◌, ◌||◌, inl, inr}

-- ---- what holds of them

-- the `next` at place e ends the loop of which this is the head, at place b
pub record IsEnd (u : UnitValue) (b e : ℕ) : Type 0 where
  pub l : Loop
  pub head : Instr
  pub here : slice_get u.code b ≡ Some head
  pub is : loop_head b head ≡ Some l
  pub last : l.last ≡ e
  pub ahead : b < e

-- A jump from place p to place t goes ahead, and leaves or enters no loop and no finish. It may end at the last instruction of one.
pub record IsKept (u : UnitValue) (p t : ℕ) : Type 0 where
  pub ahead : p < t
  pub inside : t < length u.code
  pub same : (l : Loop) → Has (loops u) l → is_within p l ≡ is_round t l
  pub finishes : (f : Span) → Has (finishes u) f → (nat_lt f.first p && nat_lt p f.last) ≡ is_inside t f

-- the loops of a unit that breaks no rule on shape
pub record AreLoops (u : UnitValue) : Type 0 where
  -- each head begins one, which ends inside the code
  pub begun : (b : ℕ) (i : Instr) (l : Loop) → slice_get u.code b ≡ Some i → loop_head b i ≡ Some l → Has (loops u) l × (l.last < length u.code)
  -- each `next` ends one
  pub ended : (b e : ℕ) → slice_get u.code e ≡ Some (instr.Next b) → IsEnd u b e
  pub is : (l : Loop) → Has (loops u) l → IsLoop u l
  pub ahead : (l : Loop) → Has (loops u) l → l.first < l.last
  pub order : (l : Loop) → Has (loops u) l → int_le l.lo l.hi ≡ true
  -- they nest, or lie apart
  pub apart : (l k : Loop) → Has (loops u) l → Has (loops u) k → overlaps (span_of l) (span_of k) ≡ false
  pub rising : Rising (λ l. l.first) (loops u)
  -- jumps stay in the loops that they stand in
  pub kept : (i : Instr) (p t : ℕ) → slice_get u.code p ≡ Some i → target i ≡ Some t → IsKept u p t
  -- no instruction in a loop writes its slot
  pub unwritten : (i : Instr) (at : ℕ) (l : Loop) → slice_get u.code at ≡ Some i → Has (loops u) l → is_within at l ≡ true → slot_written i ≡ Some l.slot → ⊥

-- ---- from the rules

-- bounds that aren't out of order
in_order : (lo hi : ℤ) → int_lt hi lo ≡ false → int_le lo hi ≡ true
in_order lo hi h = grind (arith, ints)

-- the bounds of a loop that isn't backward are in order
backward_parts : (l : Loop) → is_backward l ≡ false → int_lt l.hi l.lo ≡ false
backward_parts l h = (or_parts (int_lt l.hi l.lo) (is_limit l.slot l) h).0

-- what writes a loop's slot spoils it
spoils_slot : (l : Loop) (i : Instr) → slot_written i ≡ Some l.slot → spoils l i ≡ true
spoils_slot l i e = ap (λ o. option_map_or (λ d. (d == l.slot) || is_limit d l) o false) e ∙ or_left (l.slot == l.slot) (is_limit l.slot l) (eq-eqb l.slot l.slot refl)

-- Past the end of a span a place lies in those that its beginning lies strictly inside, where no other shares a place with it.
past_span : (s f : Span) → overlaps s f ≡ false → s.first < s.last → f.first < f.last → (f.first ≡ s.last → ⊥) → (f.last ≡ s.first → ⊥)
    → ((f.first ≡ s.first) × (f.last ≡ s.last)) ⊎ ((f.first ≡ s.first → ⊥) × (f.last ≡ s.last → ⊥))
    → (nat_lt f.first s.first && nat_lt s.first f.last) ≡ is_inside (s.last + 1) f
past_span s f h ahead order a b (inl e) = same_span (nat_lt f.first s.first) refl
  where
    same_span : (x : Bool) → nat_lt f.first s.first ≡ x → (nat_lt f.first s.first && nat_lt s.first f.last) ≡ is_inside (s.last + 1) f
    same_span x q = grind (arith, nat_tests, e.0, e.1)
past_span s f h ahead order a b (inr e) = other_span (λ q. e.0 q) (λ q. e.1 q)
  where
    other_span : (f.first ≡ s.first → ⊥) → (f.last ≡ s.last → ⊥) → (nat_lt f.first s.first && nat_lt s.first f.last) ≡ is_inside (s.last + 1) f
    other_span x y = grind (arith, nat_tests)

module _ (u : UnitValue) (targets : (at : ℕ) → breaks_target u at ≡ false) (blocks : (at : ℕ) → breaks_block u at ≡ false) (kinds : (at : ℕ) → breaks_loop u at ≡ false) where
  forward : (at : ℕ) (i : Instr) → slice_get u.code at ≡ Some i → begins_backward i ≡ false
  forward at i here = ap (instr_is begins_backward) (sym here)
      ∙ (or_parts (instr_is begins_backward (slice_get u.code at))
      (instr_is (λ x. list_any (λ l. is_within at l && spoils l x) (loops u)) (slice_get u.code at)) (kinds at)).0

  unwriting : (at : ℕ) (i : Instr) → slice_get u.code at ≡ Some i → list_any (λ l. is_within at l && spoils l i) (loops u) ≡ false
  unwriting at i here = ap (instr_is (λ x. list_any (λ l. is_within at l && spoils l x) (loops u))) (sym here)
      ∙ (or_parts (instr_is begins_backward (slice_get u.code at))
      (instr_is (λ x. list_any (λ l. is_within at l && spoils l x) (loops u)) (slice_get u.code at)) (kinds at)).1

  -- each head begins a loop
  begun_at : (b : ℕ) (i : Instr) (l : Loop) → slice_get u.code b ≡ Some i → loop_head b i ≡ Some l
      → (k : Loop) × (loop_begun u b i ≡ Some k) × (list_any (overlaps (span_of k)) (spans u) ≡ false)
  begun_at b i l here head =
      let g = not_amiss u (option_map span_of (loop_begun u b i)) (sym (head_crossing u b b i l head) ∙ uncrossing u blocks b i here) in
      let k = of_loop (loop_begun u b i) g.0 g.1 in
      (k.0, k.1, subst (λ s. list_any (overlaps s) (spans u) ≡ false) (sym k.2) g.2)

  -- that one
  begun_is : (b : ℕ) (i : Instr) (l : Loop) → slice_get u.code b ≡ Some i → loop_head b i ≡ Some l → loop_begun u b i ≡ Some l
  begun_is b i l here head =
      let g = begun_at b i l here head in
      g.1 ∙ sym (begins u b i g.0 g.1).is ∙ head

  -- and it is among the loops
  begun_has : (b : ℕ) (i : Instr) (l : Loop) → slice_get u.code b ≡ Some i → loop_head b i ≡ Some l → Has (loops u) l
  begun_has b i l here head = begun_had (loop_begun u) 0 u.code b b i l here (omega arith) (begun_is b i l here head)

  -- the instruction at the end of a span that begins at place b
  abbrev pub EndsSpan : ℕ → ℕ → Instr → Span → Type 0
  EndsSpan b e i s = option_and_then (λ l. if l.last == e then Some l else None) (span_begun u b i) ≡ Some s

  -- it is the end of the loop that begins there, if one does
  loop_ends : (b e : ℕ) (i : Instr) (s : Span) → slice_get u.code e ≡ Some (instr.Next b) → slice_get u.code b ≡ Some i → (o : Option Loop) → loop_begun u b i ≡ o
      → option_and_then (λ l. if l.last == e then Some l else None) (option_map span_of o) ≡ Some s → IsEnd u b e
  loop_ends b e i s here f None q r = absurd (none-some s r)
  loop_ends b e i s here f (Some l) q r = record {
    l = l;
    head = i;
    here = f;
    is = (begins u b i l q).is;
    last = eqb-true l.last e (cond_some (l.last == e) (span_of l) s r).0;
    ahead = ltb-true b e (aims u targets e (instr.Next b) here);
  }

  -- it is the end of a loop, where a `next` stands there
  next_ends : (b e : ℕ) (i : Instr) (s : Span) → slice_get u.code e ≡ Some (instr.Next b) → slice_get u.code b ≡ Some i → EndsSpan b e i s → IsEnd u b e
  next_ends b e (instr.For k lo hi x) s here f g = loop_ends b e (instr.For k lo hi x) s here f (loop_begun u b (instr.For k lo hi x)) refl g
  next_ends b e (instr.ForTo k lo y hi x) s here f g = loop_ends b e (instr.ForTo k lo y hi x) s here f (loop_begun u b (instr.ForTo k lo y hi x)) refl g
  next_ends b e (instr.Finish x) s here f g = inner (is_end_of b (slice_get u.code x)) refl g
    where
      inner : (t : Bool) → is_end_of b (slice_get u.code x) ≡ t
          → option_and_then (λ l. if l.last == e then Some l else None) (if t then Some (record { first = b; last = x }) else None) ≡ Some s → IsEnd u b e
      inner true q r =
          let last = eqb-true x e (cond_some (x == e) (record { first = b; last = x }) s r).0 in
          absurd (false≢true (sym (ap (is_end_of b) (ap (slice_get u.code) last ∙ here)) ∙ q))
      inner false q r = absurd (none-some s r)
  next_ends b e _ s here f g = absurd (none-some s g)

  -- each `next` ends one
  ended_at : (b e : ℕ) → slice_get u.code e ≡ Some (instr.Next b) → IsEnd u b e
  ended_at b e here = go (slice_get u.code b) refl (not_amiss u (span_ended u e b (slice_get u.code b)) (uncrossing u blocks e (instr.Next b) here))
    where
      go : (o : Option Instr) → slice_get u.code b ≡ o → (s : Span) × (span_ended u e b o ≡ Some s) × (list_any (overlaps s) (spans u) ≡ false) → IsEnd u b e
      go None f g = absurd (none-some g.0 g.1)
      go (Some i) f g = next_ends b e i g.0 here f g.1

  -- each ends ahead, and its bounds are in order
  loop_ahead : (l : Loop) → Has (loops u) l → l.first < l.last
  loop_ahead l h = let is = is_loop u l h in (ahead u l.first l.last (sym (head_aims u l.first l.first is.head l is.is) ∙ aims u targets l.first is.head is.begins)).0

  loop_order : (l : Loop) → Has (loops u) l → int_le l.lo l.hi ≡ true
  loop_order l h =
      let is = is_loop u l h in
      in_order l.lo l.hi (backward_parts l (sym (head_backward l.first is.head l is.is) ∙ forward l.first is.head is.begins))

  -- none overlaps a loop or a finish
  pub loop_apart : (l : Loop) (s : Span) → Has (loops u) l → Has (spans u) s → overlaps (span_of l) s ≡ false
  loop_apart l s h g =
      let is = is_loop u l h in
      let b = begun_at l.first is.head l is.begins is.is in
      let same : b.0 ≡ l = same_Some b.0 l (sym b.1 ∙ begun_is l.first is.head l is.begins is.is) in
      subst (λ x. overlaps (span_of x) s ≡ false) same (none_has (overlaps (span_of b.0)) (spans u) s b.2 g)

  -- jumps keep to their loops and finishes
  kept_at : (i : Instr) (p t : ℕ) → slice_get u.code p ≡ Some i → target i ≡ Some t → lies_ahead u p t ≡ true → list_any (crosses p t) (spans u) ≡ false → IsKept u p t
  kept_at i p t here e aim cross = record {
    ahead = (ahead u p t aim).0;
    inside = (ahead u p t aim).1;
    same = λ l h. differ_not (is_within p l) (is_round t l) (none_has (crosses p t) (spans u) (span_of l) cross (loop_span u l h));
    finishes = λ f h. differ_not (nat_lt f.first p && nat_lt p f.last) (is_inside t f) (none_has (crosses p t) (spans u) f cross (finish_span u f h));
  }

  -- two loops with one head are one
  one_head : (l k : Loop) → Has (loops u) l → Has (loops u) k → k.first ≡ l.first → k ≡ l
  one_head l k h g e =
      let x = is_loop u l h in
      let y = is_loop u k g in
      let i : y.head ≡ x.head = get_once u.code l.first y.head x.head (ap (slice_get u.code) (sym e) ∙ y.begins) x.begins in
      same_Some k l (sym y.is ∙ ap (loop_head k.first) i ∙ ap (λ n. loop_head n x.head) e ∙ x.is)

  -- two with one `next` too
  one_next : (l k : Loop) → Has (loops u) l → Has (loops u) k → k.last ≡ l.last → k.first ≡ l.first
  one_next l k h g e =
      let q = get_once u.code l.last (instr.Next k.first) (instr.Next l.first) (ap (slice_get u.code) (sym e) ∙ (is_loop u k g).ends) (is_loop u l h).ends in
      cc

  -- a head is no `next`, and neither is half of a finish
  head_not : (l : Loop) → Has (loops u) l → (p : ℕ) (i : Instr) → p ≡ l.first → slice_get u.code p ≡ Some i → loop_head l.first i ≡ None → ⊥
  head_not l h p i e here none =
      let x = is_loop u l h in
      let same : i ≡ x.head = get_once u.code l.first i x.head (ap (slice_get u.code) (sym e) ∙ here) x.begins in
      none-some l (sym none ∙ ap (loop_head l.first) same ∙ x.is)

  next_not : (l : Loop) → Has (loops u) l → (p : ℕ) (i : Instr) → p ≡ l.last → slice_get u.code p ≡ Some i → i ≡ instr.Next l.first
  next_not l h p i e here = get_once u.code l.last i (instr.Next l.first) (ap (slice_get u.code) (sym e) ∙ here) (is_loop u l h).ends

  -- past a loop
  past_loop : (l k : Loop) → Has (loops u) l → Has (loops u) k → is_within l.first k ≡ is_round (l.last + 1) k
  past_loop l k h g = past_span (span_of l) (span_of k) (loop_apart l (span_of k) h (loop_span u k g)) (loop_ahead l h) (loop_ahead k g)
      (λ e. head_not k g l.last (instr.Next l.first) (sym e) (is_loop u l h).ends refl)
      (λ e. head_not l h k.last (instr.Next k.first) e (is_loop u k g).ends refl)
      (cases (cases_eq k.first l.first))
    where
      cases : (k.first ≡ l.first) ⊎ (k.first ≡ l.first → ⊥) → ((k.first ≡ l.first) × (k.last ≡ l.last)) ⊎ ((k.first ≡ l.first → ⊥) × (k.last ≡ l.last → ⊥))
      cases (inl e) = inl (e, ap (λ x. x.last) (one_head l k h g e))
      cases (inr d) = inr (d, λ e. d (one_next l k h g e))

  past_finish : (l : Loop) (f : Span) → Has (loops u) l → Has (finishes u) f → (nat_lt f.first l.first && nat_lt l.first f.last) ≡ is_inside (l.last + 1) f
  past_finish l f h g = past_span (span_of l) f (loop_apart l f h (finish_span u f g)) (loop_ahead l h) (span_ahead f g)
      (λ e. other (sym (next_not l h f.first (instr.Finish f.last) e (is_finish u f g).begins)))
      (λ e. head_not l h f.last (instr.EndFinish f.first) e (is_finish u f g).ends refl)
      (inr (
        (λ e. head_not l h f.first (instr.Finish f.last) e (is_finish u f g).begins refl),
        (λ e. another (sym (next_not l h f.last (instr.EndFinish f.first) e (is_finish u f g).ends))),
      ))
    where
      other : instr.Next l.first ≡ instr.Finish f.last → ⊥
      other q = grind arith

      another : instr.Next l.first ≡ instr.EndFinish f.first → ⊥
      another q = grind arith

      span_ahead : (f : Span) → Has (finishes u) f → f.first < f.last
      span_ahead f g = (ahead u f.first f.last (aims u targets f.first (instr.Finish f.last) (is_finish u f g).begins)).0

  -- a `forto` passes over its loop
  kept_past : (p : ℕ) (i : Instr) (l : Loop) → slice_get u.code p ≡ Some i → loop_head p i ≡ Some l
      → ((at : ℕ) (j : Instr) → slice_get u.code at ≡ Some j → is_ret j ≡ false → at + 1 < length u.code) → IsKept u p (l.last + 1)
  kept_past p i l here head next =
      let has = begun_has p i l here head in
      let first = head_first p i l head in
      record {
        ahead = (let h = loop_ahead l has in omega (arith, first));
        inside = next l.last (instr.Next l.first) (is_loop u l has).ends refl;
        same = λ k g. subst (λ n. is_within n k ≡ is_round (l.last + 1) k) first (past_loop l k has g);
        finishes = λ f g. subst (λ n. (nat_lt f.first n && nat_lt n f.last) ≡ is_inside (l.last + 1) f) first (past_finish l f has g);
      }

  kept_by : ((at : ℕ) (j : Instr) → slice_get u.code at ≡ Some j → is_ret j ≡ false → at + 1 < length u.code)
      → (i : Instr) (p t : ℕ) → slice_get u.code p ≡ Some i → target i ≡ Some t → IsKept u p t
  kept_by next (instr.Unless op x y s) p t here e = subst (IsKept u p) (same_Some s t e)
      (kept_at (instr.Unless op x y s) p s here refl (aims u targets p (instr.Unless op x y s) here) (uncrossing u blocks p (instr.Unless op x y s) here))
  kept_by next (instr.Jump s) p t here e = subst (IsKept u p) (same_Some s t e)
      (kept_at (instr.Jump s) p s here refl (aims u targets p (instr.Jump s) here) (uncrossing u blocks p (instr.Jump s) here))
  kept_by next (instr.ForTo k lo x hi s) p t here e = subst (IsKept u p) (same_Some (s + 1) t e) (kept_past p (instr.ForTo k lo x hi s) _ here refl next)
  kept_by next _ p t here e = absurd (none-some t e)

  -- nothing in a loop writes its slot
  none_writes : (i : Instr) (at : ℕ) (l : Loop) → slice_get u.code at ≡ Some i → Has (loops u) l → is_within at l ≡ true → slot_written i ≡ Some l.slot → ⊥
  none_writes i at l here h within e =
      let off : (is_within at l && spoils l i) ≡ false = none_has (λ x. is_within at x && spoils x i) (loops u) l (unwriting at i here) h in
      false≢true (sym off ∙ and_from (is_within at l) (spoils l i) within (spoils_slot l i e))

  -- the loops of a unit whose places break none of the three rules, and which ends in a `ret`
  pub are_loops : ((at : ℕ) (j : Instr) → slice_get u.code at ≡ Some j → is_ret j ≡ false → at + 1 < length u.code) → AreLoops u
  are_loops next = record {
    begun = λ b i l here head. (begun_has b i l here head, (ahead u b l.last (sym (head_aims u b b i l head) ∙ aims u targets b i here)).1);
    ended = ended_at;
    is = is_loop u;
    ahead = loop_ahead;
    order = loop_order;
    apart = λ l k h g. loop_apart l (span_of k) h (loop_span u k g);
    rising = begun_rise (loop_begun u) (λ l. l.first) (begins_at u) 0 u.code;
    kept = kept_by next;
    unwritten = none_writes;
  }
