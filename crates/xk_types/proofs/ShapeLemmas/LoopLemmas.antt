-- Loops: which instructions they begin and end with.
use Rattle.std.proofs.Common.{◌≡◌, ℕ, ◌+◌, Some, None, Option, option_map, inl, inr, refl, sym, ap, ◌∙◌, subst, arith}
use Rattle.std.specs.Prelude.{slice_get, option_and_then}
use Rattle.std.proofs.lemmas.Option.{none-some, same_Some, cond_some}
use Rattle.xk_types.specs.declared.instr.Instr.{Instr}
use Rattle.xk_types.specs.declared.instr.Instr.TheVariants as instr
use Rattle.xk_types.specs.Code.{UnitValue, Loop, is_next_of, loop_head, if_ended, loop_begun, loops}
use Rattle.xk_types.specs.Order.{Has}
use Rattle.xk_types.specs.Shape.{slots_named, slot_written, lies_ahead, aims_well, span_of, span_begun, is_amiss, is_crossing, is_backward, begins_backward}
use Rattle.xk_types.proofs.ShapeLemmas.SpanStartLemmas.{begun_found}
use Rattle.xk_types.proofs.ShapeLemmas.SpanLemmas.{next_is}

-- ---- the head of a loop, of whichever form

-- it says where it stands
pub head_first : (n : ℕ) (i : Instr) (l : Loop) → loop_head n i ≡ Some l → l.first ≡ n
head_first n (instr.For k lo hi e) l h = sym (ap (λ x. x.first) (same_Some _ l h))
head_first n (instr.ForTo k lo x hi e) l h = sym (ap (λ x. x.first) (same_Some _ l h))
head_first n _ l h = absurd (none-some l h)

-- it writes the loop's slot
pub head_writes : (n : ℕ) (i : Instr) (l : Loop) → loop_head n i ≡ Some l → slot_written i ≡ Some l.slot
head_writes n (instr.For k lo hi e) l h = ap (λ x. Some x.slot) (same_Some _ l h)
head_writes n (instr.ForTo k lo x hi e) l h = ap (λ x. Some x.slot) (same_Some _ l h)
head_writes n _ l h = absurd (none-some l h)

-- it names that slot, and the one of the number that it goes no further up than
pub head_names : (n : ℕ) (i : Instr) (l : Loop) → loop_head n i ≡ Some l → Has (slots_named i) l.slot
head_names n (instr.For k lo hi e) l h = inl (ap (λ x. x.slot) (same_Some _ l h))
head_names n (instr.ForTo k lo x hi e) l h = inl (ap (λ x. x.slot) (same_Some _ l h))
head_names n _ l h = absurd (none-some l h)

pub head_limit : (n : ℕ) (i : Instr) (l : Loop) (x : ℕ) → loop_head n i ≡ Some l → l.limit ≡ Some x → Has (slots_named i) x
head_limit n (instr.For k lo hi e) l x h q = absurd (none-some x (ap (λ y. y.limit) (same_Some _ l h) ∙ q))
head_limit n (instr.ForTo k lo y hi e) l x h q = inr (inl (same_Some y x (ap (λ z. z.limit) (same_Some _ l h) ∙ q)))
head_limit n _ l x h q = absurd (none-some l h)

-- it names the end
pub head_aims : (u : UnitValue) (n at : ℕ) (i : Instr) (l : Loop) → loop_head n i ≡ Some l → aims_well u at i ≡ lies_ahead u at l.last
head_aims u n at (instr.For k lo hi e) l h = ap (λ x. lies_ahead u at x.last) (same_Some _ l h)
head_aims u n at (instr.ForTo k lo x hi e) l h = ap (λ x. lies_ahead u at x.last) (same_Some _ l h)
head_aims u n at _ l h = absurd (none-some l h)

-- what it begins is the loop that it begins
pub head_span : (u : UnitValue) (n at : ℕ) (i : Instr) (l : Loop) → loop_head n i ≡ Some l → span_begun u at i ≡ option_map span_of (loop_begun u at i)
head_span u n at (instr.For k lo hi e) l h = refl
head_span u n at (instr.ForTo k lo x hi e) l h = refl
head_span u n at _ l h = absurd (none-some l h)

pub head_crossing : (u : UnitValue) (n at : ℕ) (i : Instr) (l : Loop) → loop_head n i ≡ Some l → is_crossing u at i ≡ is_amiss u (option_map span_of (loop_begun u at i))
head_crossing u n at (instr.For k lo hi e) l h = refl
head_crossing u n at (instr.ForTo k lo x hi e) l h = refl
head_crossing u n at _ l h = absurd (none-some l h)

-- the rule on bounds is about its loop, wherever it stands
pub head_backward : (n : ℕ) (i : Instr) (l : Loop) → loop_head n i ≡ Some l → begins_backward i ≡ is_backward l
head_backward n (instr.For k lo hi e) l h = ap is_backward (same_Some _ l h)
head_backward n (instr.ForTo k lo x hi e) l h = ap is_backward (same_Some _ l h)
head_backward n _ l h = absurd (none-some l h)

-- ---- loops

-- a head and a `next` that name each other
pub record IsLoop (u : UnitValue) (l : Loop) : Type 0 where
  pub head : Instr
  pub begins : slice_get u.code l.first ≡ Some head
  pub is : loop_head l.first head ≡ Some l
  pub ends : slice_get u.code l.last ≡ Some (instr.Next l.first)

-- instruction i at place `at` is the head of the loop, and its `next` names it
pub record Begins (u : UnitValue) (at : ℕ) (i : Instr) (l : Loop) : Type 0 where
  pub is : loop_head at i ≡ Some l
  pub first : l.first ≡ at
  pub next : slice_get u.code l.last ≡ Some (instr.Next at)

-- what `loop_begun` finds
pub begins : (u : UnitValue) (at : ℕ) (i : Instr) (l : Loop) → loop_begun u at i ≡ Some l → Begins u at i l
begins u at i l h = go (loop_head at i) refl h
  where
    go : (o : Option Loop) → loop_head at i ≡ o → option_and_then (if_ended u) o ≡ Some l → Begins u at i l
    go None e g = absurd (none-some l g)
    go (Some k) e g =
        let p = cond_some (is_next_of k.first (slice_get u.code k.last)) k l g in
        let first = head_first at i k e in
        subst (Begins u at i) p.1 (record {
          is = e;
          first = first;
          next = subst (λ n. slice_get u.code k.last ≡ Some (instr.Next n)) first (next_is k.first (slice_get u.code k.last) p.0);
        })

-- where a loop begins
pub begins_at : (u : UnitValue) (at : ℕ) (i : Instr) (l : Loop) → loop_begun u at i ≡ Some l → l.first ≡ at
begins_at u at i l h = (begins u at i l h).first

-- each of a unit's loops is one
pub is_loop : (u : UnitValue) (l : Loop) → Has (loops u) l → IsLoop u l
is_loop u l h =
    let r = begun_found (loop_begun u) 0 u.code l h in
    let b = begins u (0 + r.j) r.i l r.begins in
    let place : r.j ≡ l.first = omega (arith, b.first) in
    let same : 0 + r.j ≡ l.first = omega arith in
    record {
      head = r.i;
      begins = ap (slice_get u.code) (sym place) ∙ r.found;
      is = subst (λ n. loop_head n r.i ≡ Some l) same b.is;
      ends = subst (λ n. slice_get u.code l.last ≡ Some (instr.Next n)) same b.next;
    }
