-- A whole unit, whose code is a structure's and a `ret` behind it, breaks none of the rules on targets, blocks and ends.
use Rattle.std.proofs.Common.{◌≡◌, ℕ, ℤ, ◌+◌, ◌<◌, ◌==◌, Bool, true, false, cond, not, ◌&&◌, List, [], ◌∷◌, ◌++◌, map, length, Option, Some, None, option_map, option_and_then, inl, inr, ◌⊎◌, refl, sym, ap, ◌∙◌, subst, arith, length-append, ltb-true}
use Rattle.std.specs.Prelude.{slice_get, nat_lt, if◌then◌else◌}
use Rattle.std.specs.List.{list_any}
use Rattle.std.proofs.lemmas.Bool.{false≢true, eq-eqb, and_parts}
use Rattle.std.proofs.lemmas.Bool.Decides.{nat_tests}
use Rattle.std.proofs.lemmas.Option.{none-some, same_Some}
use Rattle.xk_types.specs.declared.instr.Instr.{Instr}
use Rattle.xk_types.specs.declared.instr.Instr.TheVariants as instr
use Rattle.xk_types.specs.Code.{UnitValue, is_within, Loop, is_next_of, loop_head, loops}
use Rattle.xk_types.specs.Blocks.{Span, is_end_of, finishes}
use Rattle.xk_types.specs.Order.{Has}
use Rattle.xk_types.specs.Shape.{instr_is, is_ret, lies_ahead, aims_well, breaks_target, span_of, span_begun, spans, overlaps, crosses, span_ended, is_amiss, is_crossing, breaks_block, begins_backward, spoils, breaks_loop, breaks_end}
use Rattle.xk_types.proofs.ShapeLemmas.LoopLemmas.{is_loop}
use Rattle.xk_types.proofs.ShapeLemmas.FinishLemmas.{is_finish}
use Rattle.xk_types.proofs.MembershipLemmas.{has_mapped}
use Rattle.xk_emit.proofs.ShapeLemmas.PositionLemmas.{Stands, stands_in, stands_left, stands_at, stands_got, stands_to, Holds, holds_at}
use Rattle.xk_emit.proofs.ShapeLemmas.StructureLemmas.{Nest, head, lay, EachRow, each_row, each_laid}
use Rattle.xk_emit.proofs.ShapeLemmas.JumpTargetLemmas.{Plain, plain_no_ret, until, Aims, aims_wider, aims_inside}
use Rattle.xk_emit.proofs.ShapeLemmas.BlockPairLemmas.{Paired, paired_inside}
use Rattle.xk_emit.proofs.ShapeLemmas.LoopCounterLemmas.{LoopsKept, Forward, forward, spare_inside}
use Rattle.xk_emit.proofs.ShapeLemmas.SpanLemmas.{span, Opens, head_opens, Respects, respects_inside}

-- ---- lists

-- a test that no element passes
none_any : {X : Type 0} (test : X → Bool) (xs : List X) → ((x : X) → Has xs x → test x ≡ false) → list_any test xs ≡ false
none_any test [] h = refl
none_any test (x ∷ xs) h = rw (h x (inl refl)) (none_any test xs (λ y g. h y (inr g)))

has_split : {X : Type 0} (xs ys : List X) (x : X) → Has (xs ++ ys) x → Has xs x ⊎ Has ys x
has_split [] ys x h = inr h
has_split (z ∷ xs) ys x (inl e) = inl (inl e)
has_split {X} (z ∷ xs) ys x (inr h) = go (has_split xs ys x h)
  where
    go : Has xs x ⊎ Has ys x → Has (z ∷ xs) x ⊎ Has ys x
    go (inl g) = inl (inr g)
    go (inr g) = inr g

-- a test of the instruction at a place fails, where it fails for each instruction there
pub is_none : (test : Instr → Bool) (o : Option Instr) → ((i : Instr) → o ≡ Some i → test i ≡ false) → instr_is test o ≡ false
is_none test None h = refl
is_none test (Some i) h = h i refl

and_false : (b : Bool) → (b && false) ≡ false
and_false true = refl
and_false false = refl

-- ---- the unit

-- what begins a span of the unit
pub record Begins (code : List Instr) (s : Span) : Type 0 where
  pub i : Instr
  pub stands : Stands 0 code s.first i
  pub opens : Opens s.last i

abbrev NoRet : Instr → Type 0
NoRet i = is_ret i ≡ false

-- what begins a loop is no `ret`, and opens its span
begins_no_ret : (a : ℕ) (i : Instr) (l : Loop) → loop_head a i ≡ Some l → is_ret i ≡ false
begins_no_ret a instr.Ret l h = absurd (none-some l h)
begins_no_ret a _ l h = refl

begins_opens : (a : ℕ) (i : Instr) (l : Loop) → loop_head a i ≡ Some l → Opens l.last i
begins_opens a (instr.For k lo hi e) l h = ap (λ m. m.last) (same_Some _ l h)
begins_opens a (instr.ForTo k lo y hi e) l h = ap (λ m. m.last) (same_Some _ l h)
begins_opens a _ l h = absurd (none-some l h)

module _ (u : UnitValue) (x : Nest) (plain : EachRow Plain x) (is : u.code ≡ lay 0 x ++ instr.Ret ∷ []) where
  long : length u.code ≡ length (lay 0 x) + 1
  long = ap length is ∙ length-append (lay 0 x) (instr.Ret ∷ [])

  -- what stands at a place: one of the structure, or the `ret`
  found : (at : ℕ) (i : Instr) → slice_get u.code at ≡ Some i → Stands 0 (lay 0 x) at i ⊎ ((at ≡ length (lay 0 x)) × (instr.Ret ≡ i))
  found at i h = go (stands_in 0 (length (lay 0 x)) (lay 0 x) (instr.Ret ∷ []) at i (omega arith)
      (stands_at 0 at at (lay 0 x ++ instr.Ret ∷ []) i (omega arith) (sym (ap (λ c. slice_get c at) is) ∙ h)))
    where
      go : Stands 0 (lay 0 x) at i ⊎ Stands (length (lay 0 x)) (instr.Ret ∷ []) at i → Stands 0 (lay 0 x) at i ⊎ ((at ≡ length (lay 0 x)) × (instr.Ret ≡ i))
      go (inl g) = inl g
      go (inr (inl g)) = inr g
      go (inr (inr g)) = absurd g

  got : (at : ℕ) (i : Instr) → Stands 0 (lay 0 x) at i → slice_get u.code at ≡ Some i
  got at i h = ap (λ c. slice_get c at) is ∙ stands_got 0 at at (lay 0 x ++ instr.Ret ∷ []) i (omega arith) (stands_left 0 (lay 0 x) (instr.Ret ∷ []) at i h)

  -- one of the structure, if it is no `ret`
  found_inside : (at : ℕ) (i : Instr) → slice_get u.code at ≡ Some i → is_ret i ≡ false → Stands 0 (lay 0 x) at i
  found_inside at i h other = go (found at i h)
    where
      go : Stands 0 (lay 0 x) at i ⊎ ((at ≡ length (lay 0 x)) × (instr.Ret ≡ i)) → Stands 0 (lay 0 x) at i
      go (inl g) = g
      go (inr g) = absurd (false≢true (sym other ∙ ap is_ret (sym g.1)))

  -- ---- targets

  ahead_true : (at t : ℕ) → at < t → t < length u.code → lies_ahead u at t ≡ true
  ahead_true at t h g = grind (arith, nat_tests)

  aims_true : (at : ℕ) (i : Instr) → Aims 0 (length (lay 0 x)) at i → aims_well u at i ≡ true
  aims_true at (instr.Unless op a b t) h = ahead_true at t h.0 (let l = long in omega (arith, h.1))
  aims_true at (instr.Jump t) h = ahead_true at t h.0 (let l = long in omega (arith, h.1))
  aims_true at (instr.For k lo hi e) h = ahead_true at e h.0 (let l = long in omega (arith, h.1))
  aims_true at (instr.ForTo k lo y hi e) h = ahead_true at e h.0 (let l = long in omega (arith, h.1))
  aims_true at (instr.Next b) h = let g = h.1 in grind (arith, nat_tests)
  aims_true at (instr.Finish e) h = ahead_true at e h.0 (let l = long in omega (arith, h.1))
  aims_true at (instr.EndFinish b) h = let g = h.1 in grind (arith, nat_tests)
  aims_true at _ h = refl

  target_kept : (at : ℕ) (i : Instr) → Stands 0 (lay 0 x) at i ⊎ ((at ≡ length (lay 0 x)) × (instr.Ret ≡ i)) → not (aims_well u at i) ≡ false
  target_kept at i (inl h) = ap not (aims_true at i (aims_wider 0 (until 0 x) 0 (length (lay 0 x)) at i (omega arith) (omega arith) (aims_inside 0 x plain at i h)))
  target_kept at i (inr h) = subst (λ j. not (aims_well u at j) ≡ false) h.1 refl

  -- V1
  pub targets : (at : ℕ) → breaks_target u at ≡ false
  targets at = is_none (λ i. not (aims_well u at i)) (slice_get u.code at) (λ i h. target_kept at i (found at i h))

  -- ---- blocks

  loop_begins : (l : Loop) → Has (loops u) l → Begins (lay 0 x) (span_of l)
  loop_begins l h =
      let r = is_loop u l h in
      record { i = r.head; stands = found_inside l.first r.head r.begins (begins_no_ret l.first r.head l r.is); opens = begins_opens l.first r.head l r.is }

  finish_begins : (s : Span) → Has (finishes u) s → Begins (lay 0 x) s
  finish_begins s h = let r = is_finish u s h in record { i = instr.Finish s.last; stands = found_inside s.first (instr.Finish s.last) r.begins refl; opens = refl }

  -- each span of the unit is begun
  begun : (s : Span) → Has (spans u) s → Begins (lay 0 x) s
  begun s h = go (has_split (map span_of (loops u)) (finishes u) s h)
    where
      go : Has (map span_of (loops u)) s ⊎ Has (finishes u) s → Begins (lay 0 x) s
      go (inl g) = let r = has_mapped span_of (loops u) s g in subst (Begins (lay 0 x)) r.2 (loop_begins r.0 r.1)
      go (inr g) = finish_begins s g

  -- no span cuts what stands at a place
  respected : (s : Span) → Has (spans u) s → (at : ℕ) (i : Instr) → Stands 0 (lay 0 x) at i → Respects s.first s.last at i
  respected s h at i g = let b = begun s h in respects_inside 0 x plain s.first s.last b.i b.stands b.opens at i g

  -- nor does one that an instruction begins cut another
  opened : (a e : ℕ) (i : Instr) → Stands 0 (lay 0 x) a i → Opens e i → (s : Span) → Begins (lay 0 x) s → overlaps (span a e) s ≡ false
  opened a e i h o s b = go b.i b.opens (respects_inside 0 x plain a e i h o s.first b.i b.stands)
    where
      go : (j : Instr) → Opens s.last j → Respects a e s.first j → overlaps (span a e) s ≡ false
      go (instr.For k lo hi f) q r = subst (λ n. overlaps (span a e) (span s.first n) ≡ false) q r
      go (instr.ForTo k lo y hi f) q r = subst (λ n. overlaps (span a e) (span s.first n) ≡ false) q r
      go (instr.Finish f) q r = subst (λ n. overlaps (span a e) (span s.first n) ≡ false) q r
      go _ q r = absurd q

  one : (a e : ℕ) (i : Instr) → Stands 0 (lay 0 x) a i → Opens e i → is_amiss u (Some (span a e)) ≡ false
  one a e i h o = none_any (overlaps (span a e)) (spans u) (λ s g. opened a e i h o s (begun s g))

  -- the `next` there names place `at`
  named : (at e : ℕ) → Stands 0 (lay 0 x) e (instr.Next at) → is_next_of at (slice_get u.code e) ≡ true
  named at e h = ap (is_next_of at) (got e (instr.Next at) h) ∙ eq-eqb at at refl

  loop_there : (k : ℕ) (lo : ℤ) (l : Option ℕ) (hi : ℤ) (at e : ℕ) → Stands 0 (lay 0 x) e (instr.Next at) → span_begun u at (head k lo l hi e) ≡ Some (span at e)
  loop_there k lo None hi at e h =
      ap (λ b. option_map span_of (cond b (Some (record { first = at; last = e; slot = k; lo = lo; hi = hi; limit = None })) None)) (named at e h)
  loop_there k lo (Some y) hi at e h =
      ap (λ b. option_map span_of (cond b (Some (record { first = at; last = e; slot = k; lo = lo; hi = hi; limit = Some y })) None)) (named at e h)

  finish_there : (at e : ℕ) → Stands 0 (lay 0 x) e (instr.EndFinish at) → span_begun u at (instr.Finish e) ≡ Some (span at e)
  finish_there at e h = ap (λ b. cond b (Some (span at e)) None) (ap (is_end_of at) (got e (instr.EndFinish at) h) ∙ eq-eqb at at refl)

  -- the span that begins at place b ends at place `at`
  ends_there : (at b : ℕ) (i : Instr) → slice_get u.code b ≡ Some i → span_begun u b i ≡ Some (span b at) → span_ended u at b (slice_get u.code b) ≡ Some (span b at)
  ends_there at b i h g =
      ap (span_ended u at b) h ∙ ap (λ o. option_and_then (λ (l : Span). if l.last == at then Some l else None) o) g
      ∙ ap (λ c. cond c (Some (span b at)) None) (eq-eqb at at refl)

  block_kept : (at : ℕ) (i : Instr) → Stands 0 (lay 0 x) at i → Paired 0 (lay 0 x) at i → is_crossing u at i ≡ false
  block_kept at (instr.For k lo hi e) h q = ap (is_amiss u) (loop_there k lo None hi at e q) ∙ one at e (instr.For k lo hi e) h refl
  block_kept at (instr.ForTo k lo y hi e) h q = ap (is_amiss u) (loop_there k lo (Some y) hi at e q) ∙ one at e (instr.ForTo k lo y hi e) h refl
  block_kept at (instr.Finish e) h q = ap (is_amiss u) (finish_there at e q) ∙ one at e (instr.Finish e) h refl
  block_kept at (instr.Next b) h q =
      let i = head q.k q.lo q.limit q.hi at in
      ap (is_amiss u) (ends_there at b i (got b i q.stands) (loop_there q.k q.lo q.limit q.hi b at h)) ∙ one b at i q.stands (head_opens q.k q.lo q.limit q.hi at)
  block_kept at (instr.EndFinish b) h q =
      ap (is_amiss u) (ends_there at b (instr.Finish at) (got b (instr.Finish at) q) (finish_there b at h)) ∙ one b at (instr.Finish at) q refl
  block_kept at (instr.Unless op a b t) h q = none_any (crosses at t) (spans u) (λ s g. respected s g at (instr.Unless op a b t) h)
  block_kept at (instr.Jump t) h q = none_any (crosses at t) (spans u) (λ s g. respected s g at (instr.Jump t) h)
  block_kept at _ h q = refl

  uncut : (at : ℕ) (i : Instr) → Stands 0 (lay 0 x) at i ⊎ ((at ≡ length (lay 0 x)) × (instr.Ret ≡ i)) → is_crossing u at i ≡ false
  uncut at i (inl h) = block_kept at i h (paired_inside 0 x plain at i h)
  uncut at i (inr h) = subst (λ j. is_crossing u at j ≡ false) h.1 refl

  -- V2
  pub blocks : (at : ℕ) → breaks_block u at ≡ false
  blocks at = is_none (is_crossing u at) (slice_get u.code at) (λ i h. uncut at i (found at i h))

  -- ---- the end

  no_ret : Holds NoRet (lay 0 x)
  no_ret = each_laid NoRet
      (record { unless = λ op a b t. refl; jump = λ t. refl; begins = λ k lo hi e. refl; limited = λ k lo y hi e. refl; next = λ b. refl; finish = λ e. refl; ends = λ b. refl })
      0 x (each_row Plain NoRet plain_no_ret x plain)

  ends_late : (at : ℕ) (i : Instr) → Stands 0 (lay 0 x) at i ⊎ ((at ≡ length (lay 0 x)) × (instr.Ret ≡ i)) → (is_ret i && nat_lt (at + 1) (length u.code)) ≡ false
  ends_late at i (inl h) = rw (holds_at NoRet 0 (lay 0 x) at i no_ret h) refl
  ends_late at i (inr h) = let l = long in let e = h.0 in subst (λ j. (is_ret j && nat_lt (at + 1) (length u.code)) ≡ false) h.1 (grind (arith, nat_tests))

  ends_there_alone : (at : ℕ) (i : Instr) → Stands 0 (lay 0 x) at i ⊎ ((at ≡ length (lay 0 x)) × (instr.Ret ≡ i)) → (not (is_ret i) && (at + 1 == length u.code)) ≡ false
  ends_there_alone at i (inl h) =
      let l = long in
      let e = stands_to 0 (lay 0 x) at i h in
      let differs : (at + 1 == length u.code) ≡ false = grind (arith, nat_tests) in
      rw (holds_at NoRet 0 (lay 0 x) at i no_ret h) differs
  ends_there_alone at i (inr h) = subst (λ j. (not (is_ret j) && (at + 1 == length u.code)) ≡ false) h.1 refl

  some : (at : ℕ) → ((at == 0) && (length u.code == 0)) ≡ false
  some at = let l = long in grind (arith, nat_tests)

  -- V7
  pub ends : (at : ℕ) → breaks_end u at ≡ false
  ends at = rw (
    is_none (λ i. is_ret i && nat_lt (at + 1) (length u.code)) (slice_get u.code at) (λ i h. ends_late at i (found at i h)),
    is_none (λ i. not (is_ret i) && (at + 1 == length u.code)) (slice_get u.code at) (λ i h. ends_there_alone at i (found at i h)),
  ) (some at)

  -- ---- loops

  module _ (kept : LoopsKept x) where
    forward_all : (at : ℕ) (i : Instr) → Stands 0 (lay 0 x) at i ⊎ ((at ≡ length (lay 0 x)) × (instr.Ret ≡ i)) → begins_backward i ≡ false
    forward_all at i (inl h) = holds_at Forward 0 (lay 0 x) at i (forward 0 x plain kept) h
    forward_all at i (inr h) = subst (λ j. begins_backward j ≡ false) h.1 refl

    spared_by : (l : Loop) → Has (loops u) l → (at : ℕ) (i : Instr) → Stands 0 (lay 0 x) at i ⊎ ((at ≡ length (lay 0 x)) × (instr.Ret ≡ i))
        → (is_within at l && spoils l i) ≡ false
    spared_by l h at i (inl g) = go (is_within at l) refl
      where
        go : (b : Bool) → is_within at l ≡ b → (b && spoils l i) ≡ false
        go false e = refl
        go true e =
            let p = and_parts (nat_lt l.first at) (nat_lt at l.last) e in
            let q = is_loop u l h in
            spare_inside 0 x plain kept l.first q.head l (found_inside l.first q.head q.begins (begins_no_ret l.first q.head l q.is)) q.is
            at i g (ltb-true l.first at p.0) (ltb-true at l.last p.1)
    spared_by l h at i (inr g) = subst (λ j. (is_within at l && spoils l j) ≡ false) g.1 (and_false (is_within at l))

    -- V6
    pub loops_right : (at : ℕ) → breaks_loop u at ≡ false
    loops_right at = rw (is_none begins_backward (slice_get u.code at) (λ i h. forward_all at i (found at i h)))
        (is_none (λ i. list_any (λ l. is_within at l && spoils l i) (loops u)) (slice_get u.code at)
        (λ i h. none_any (λ l. is_within at l && spoils l i) (loops u) (λ l g. spared_by l g at i (found at i h))))
