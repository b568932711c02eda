-- The loops and finishes of a unit: which instructions they begin and end with.
use Rattle.std.proofs.Common.{◌≡◌, if◌then◌else◌, ℕ, ◌+◌, ◌⊎◌, Bool, true, false, ◌||◌, List, [], ◌∷◌, ◌++◌, map, Some, None, slice_get, inl, inr, refl, sym, ap, ◌∙◌, subst, arith, option_map, option_and_then}
use Rattle.std.specs.List.{list_any}
use Rattle.std.proofs.lemmas.Option.{same_Some, cond_some, none-some}
use Rattle.std.proofs.lemmas.Bool.{eq-eqb, false≢true}
use Rattle.xk_types.specs.declared.instr.Instr.{Instr}
use Rattle.xk_types.specs.declared.instr.Instr.TheVariants as instr
use Rattle.xk_types.specs.Order.{Has}
use Rattle.xk_types.specs.Code.{UnitValue, Loop, loop_head, if_ended, loop_begun, loops, is_next_of}
use Rattle.xk_types.specs.Blocks.{Span, is_end_of, finish_opened, finishes}
use Rattle.xk_types.specs.Shape.{span_of, span_begun, spans}
use Rattle.xk_shape.specs.Nesting.{end_named, begin_named, span}
use Rattle.xk_types.proofs.ShapeLemmas.SpanStartLemmas.{begun_found, begun_had}
use Rattle.xk_types.proofs.ShapeLemmas.LoopLemmas.{IsLoop, head_span, begins, is_loop}
use Rattle.xk_types.proofs.ShapeLemmas.SpanLemmas.{end_is, of_loop, loop_span, finish_span}
use Rattle.xk_types.proofs.MembershipLemmas.{has_mapped}

-- ---- lists

-- an element of two lists is one of either
had_append : {X : Type 0} (xs ys : List X) (x : X) → Has (xs ++ ys) x → Has xs x ⊎ Has ys x
had_append [] ys x h = inr h
had_append (z ∷ xs) ys x (inl e) = inl (inl e)
had_append (z ∷ xs) ys x (inr h) = elim (had_append xs ys x h) [ inl l ↦ inl (inr l) | inr r ↦ inr r ]

-- where some element passes, this one does
pub any_found : {X : Type 0} (p : X → Bool) (xs : List X) → list_any p xs ≡ true → (x : X) × Has xs x × (p x ≡ true)
any_found p [] h = absurd (false≢true h)
any_found {X} p (x ∷ xs) h = go (p x) refl (any_found p xs) h
  where
    go : (b : Bool) → p x ≡ b → (list_any p xs ≡ true → (y : X) × Has xs y × (p y ≡ true)) → (b || list_any p xs) ≡ true → (y : X) × Has (x ∷ xs) y × (p y ≡ true)
    go true e later g = (x, inl refl, e)
    go false e later g = let r = later g in (r.0, inr r.1, r.2)

-- two tests that agree on all elements
pub any_same : {X : Type 0} (p q : X → Bool) (xs : List X) → ((x : X) → Has xs x → p x ≡ q x) → list_any p xs ≡ list_any q xs
any_same p q [] same = refl
any_same p q (x ∷ xs) same = ap (λ b. b || list_any p xs) (same x (inl refl)) ∙ ap (λ b. q x || b) (any_same p q xs (λ y has. same y (inr has)))

-- ---- the two halves

-- its first instruction names its last one, and its last one the first
pub record IsSpan (u : UnitValue) (s : Span) : Type 0 where
  pub begin : Instr
  pub begins : slice_get u.code s.first ≡ Some begin
  pub ahead : end_named begin ≡ Some s.last
  pub begun : span_begun u s.first begin ≡ Some s
  pub end : Instr
  pub ends : slice_get u.code s.last ≡ Some end
  pub behind : begin_named end ≡ Some s.first

-- the head of a loop names its end
pub head_end : (n : ℕ) (i : Instr) (l : Loop) → loop_head n i ≡ Some l → end_named i ≡ Some l.last
head_end n (instr.For k lo hi e) l h = ap (λ x. Some x.last) (same_Some _ l h)
head_end n (instr.ForTo k lo x hi e) l h = ap (λ x. Some x.last) (same_Some _ l h)
head_end n _ l h = absurd (none-some l h)

-- what the head of a loop begins
loop_span_is : (u : UnitValue) (at : ℕ) (i : Instr) (s : Span) → slice_get u.code at ≡ Some i → option_map span_of (loop_begun u at i) ≡ Some s → IsSpan u s × (s.first ≡ at)
loop_span_is u at i s here h =
    let l = of_loop (loop_begun u at i) s h in
    let b = begins u at i l.0 l.1 in
    subst (λ (x : Span). IsSpan u x × (x.first ≡ at)) l.2 (
      record {
        begin = i;
        begins = ap (slice_get u.code) b.first ∙ here;
        ahead = head_end at i l.0 b.is;
        begun = ap (λ n. span_begun u n i) b.first ∙ head_span u at at i l.0 b.is ∙ ap (option_map span_of) l.1;
        end = instr.Next at;
        ends = b.next;
        behind = ap Some (sym b.first);
      },
      b.first,
    )

-- what an instruction begins
pub span_is : (u : UnitValue) (at : ℕ) (i : Instr) (s : Span) → slice_get u.code at ≡ Some i → span_begun u at i ≡ Some s → IsSpan u s × (s.first ≡ at)
span_is u at (instr.For k lo hi e) s here h = loop_span_is u at (instr.For k lo hi e) s here h
span_is u at (instr.ForTo k lo x hi e) s here h = loop_span_is u at (instr.ForTo k lo x hi e) s here h
span_is u at (instr.Finish e) s here h =
    let p = cond_some (is_end_of at (slice_get u.code e)) (span at e) s h in
    subst (λ (x : Span). IsSpan u x × (x.first ≡ at)) p.1 (
      record {
        begin = instr.Finish e;
        begins = here;
        ahead = refl;
        begun = h ∙ ap Some (sym p.1);
        end = instr.EndFinish at;
        ends = end_is at (slice_get u.code e) p.0;
        behind = refl;
      },
      refl,
    )
span_is u at _ s here h = absurd (none-some s h)

-- it is one of the unit's
has_loop_span : (u : UnitValue) (at : ℕ) (i : Instr) (s : Span) → slice_get u.code at ≡ Some i → option_map span_of (loop_begun u at i) ≡ Some s → Has (spans u) s
has_loop_span u at i s here h =
    let l = of_loop (loop_begun u at i) s h in
    subst (Has (spans u)) l.2 (loop_span u l.0 (begun_had (loop_begun u) 0 u.code at at i l.0 here (omega arith) l.1))

pub has_span : (u : UnitValue) (at : ℕ) (i : Instr) (s : Span) → slice_get u.code at ≡ Some i → span_begun u at i ≡ Some s → Has (spans u) s
has_span u at (instr.For k lo hi e) s here h = has_loop_span u at (instr.For k lo hi e) s here h
has_span u at (instr.ForTo k lo x hi e) s here h = has_loop_span u at (instr.ForTo k lo x hi e) s here h
has_span u at (instr.Finish e) s here h = finish_span u s (begun_had (finish_opened u) 0 u.code at at (instr.Finish e) s here (omega arith) h)
has_span u at _ s here h = absurd (none-some s h)

-- what a loop's head begins is the loop
loop_begins : (u : UnitValue) (l : Loop) (is : IsLoop u l) → span_begun u l.first is.head ≡ Some (span_of l)
loop_begins u l is =
    head_span u l.first l.first is.head l is.is
    ∙ ap (λ o. option_map span_of (option_and_then (if_ended u) o)) is.is
    ∙ ap (λ o. option_map span_of (if is_next_of l.first o then Some l else None)) is.ends
    ∙ ap (λ b. option_map span_of (if b then Some l else None)) (eq-eqb l.first l.first refl)

-- one head begins one loop
pub loop_is : (u : UnitValue) (l k : Loop) (i : Instr) → Has (loops u) l → slice_get u.code l.first ≡ Some i → loop_head l.first i ≡ Some k → l ≡ k
loop_is u l k i h here head =
    let is = is_loop u l h in
    let same : is.head ≡ i = same_Some _ _ (sym is.begins ∙ here) in
    same_Some l k (sym is.is ∙ ap (loop_head l.first) same ∙ head)

finish_begins : (u : UnitValue) (at : ℕ) (i : Instr) (f : Span) → finish_opened u at i ≡ Some f → span_begun u at i ≡ Some f
finish_begins u at (instr.Finish e) f h = h
finish_begins u at _ f h = absurd (none-some f h)

-- each of the unit's is one
pub is_span : (u : UnitValue) (s : Span) → Has (spans u) s → IsSpan u s
is_span u s h = elim (had_append (map span_of (loops u)) (finishes u) s h) [
  | inl of_loops ↦
      let r = has_mapped span_of (loops u) s of_loops in
      let is = is_loop u r.0 r.1 in
      subst (IsSpan u) r.2 (span_is u r.0.first is.head (span_of r.0) is.begins (loop_begins u r.0 is)).0
  | inr of_finishes ↦
      let r = begun_found (finish_opened u) 0 u.code s of_finishes in
      let same : 0 + r.j ≡ r.j = omega arith in
      (span_is u r.j r.i s r.found (finish_begins u r.j r.i s (ap (λ n. finish_opened u n r.i) (sym same) ∙ r.begins))).0
]

-- ---- one begins and one ends at a place

pub same_end : (u : UnitValue) (f g : Span) → IsSpan u f → IsSpan u g → g.first ≡ f.first → g.last ≡ f.last
same_end u f g is_f is_g e =
    let one = same_Some _ _ (sym is_g.begins ∙ ap (slice_get u.code) e ∙ is_f.begins) in
    same_Some g.last f.last (sym is_g.ahead ∙ ap end_named one ∙ is_f.ahead)

pub same_begin : (u : UnitValue) (f g : Span) → IsSpan u f → IsSpan u g → g.last ≡ f.last → g.first ≡ f.first
same_begin u f g is_f is_g e =
    let one = same_Some _ _ (sym is_g.ends ∙ ap (slice_get u.code) e ∙ is_f.ends) in
    same_Some g.first f.first (sym is_g.behind ∙ ap begin_named one ∙ is_f.behind)

-- an instruction that begins none
pub no_begin : (u : UnitValue) (at : ℕ) (i : Instr) (s : Span) → slice_get u.code at ≡ Some i → end_named i ≡ None → IsSpan u s → s.first ≡ at → ⊥
no_begin u at i s here none is e =
    none-some s.last (sym none ∙ ap end_named (same_Some _ _ (sym here ∙ ap (slice_get u.code) (sym e) ∙ is.begins)) ∙ is.ahead)

-- and one that ends none
pub no_end : (u : UnitValue) (at : ℕ) (i : Instr) (s : Span) → slice_get u.code at ≡ Some i → begin_named i ≡ None → IsSpan u s → s.last ≡ at → ⊥
no_end u at i s here none is e =
    none-some s.first (sym none ∙ ap begin_named (same_Some _ _ (sym here ∙ ap (slice_get u.code) (sym e) ∙ is.ends)) ∙ is.behind)

-- what begins one ends none, and what ends one begins none
pub ends_none : (i : Instr) (e : ℕ) → end_named i ≡ Some e → begin_named i ≡ None
ends_none (instr.For k lo hi e) x h = refl
ends_none (instr.ForTo k lo y hi e) x h = refl
ends_none (instr.Finish e) x h = refl
ends_none _ x h = absurd (none-some x h)

pub begins_none : (i : Instr) (b : ℕ) → begin_named i ≡ Some b → end_named i ≡ None
begins_none (instr.Next b) x h = refl
begins_none (instr.EndFinish b) x h = refl
begins_none _ x h = absurd (none-some x h)
