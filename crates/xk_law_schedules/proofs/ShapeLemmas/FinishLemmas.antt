-- The finishes of a unit that breaks no rule on shape: each `finish` and each `endfinish` is half of one, and they nest or lie apart.
use Rattle.std.proofs.Common.{◌≡◌, ℕ, ◌<◌, ◌==◌, Bool, true, false, length, Option, Some, None, refl, sym, ap, ◌∙◌, subst, arith, eqb-true, option_and_then, option_map}
use Rattle.std.specs.Prelude.{slice_get, if◌then◌else◌}
use Rattle.std.specs.List.{list_any}
use Rattle.std.proofs.lemmas.Option.{none-some, same_Some, cond_some}
use Rattle.xk_types.specs.declared.instr.Instr.{Instr}
use Rattle.xk_types.specs.declared.instr.Instr.TheVariants as instr
use Rattle.xk_types.specs.Code.{UnitValue, Loop, loop_begun, loops}
use Rattle.xk_types.specs.Blocks.{Span, is_end_of, finish_opened, finishes}
use Rattle.xk_types.specs.Order.{Has}
use Rattle.xk_types.specs.Shape.{breaks_target, breaks_block, breaks_loop, span_of, span_begun, spans, span_ended, overlaps}
use Rattle.xk_types.proofs.MembershipLemmas.{none_has}
use Rattle.xk_types.proofs.ShapeLemmas.SpanStartLemmas.{Rising, begun_had, begun_rise}
use Rattle.xk_types.proofs.ShapeLemmas.SpanLemmas.{not_amiss, finish_span, aims, uncrossing, ahead}
use Rattle.xk_types.proofs.ShapeLemmas.LoopLemmas.{begins}
use Rattle.xk_types.proofs.ShapeLemmas.FinishLemmas.{IsFinish, finish_of, begins_at, is_finish}
use Rattle.xk_law_schedules.proofs.ShapeLemmas.LoopLemmas.{loop_apart, EndsSpan}

-- the finishes of a unit that breaks no rule on shape
pub record AreFinishes (u : UnitValue) : Type 0 where
  -- each `finish` opens one, which ends inside the code
  pub opened : (b e : ℕ) → slice_get u.code b ≡ Some (instr.Finish e) → Has (finishes u) (finish_of b e) × (e < length u.code)
  -- each `endfinish` closes one
  pub closed : (b e : ℕ) → slice_get u.code e ≡ Some (instr.EndFinish b) → Has (finishes u) (finish_of b e)
  pub is : (f : Span) → Has (finishes u) f → IsFinish u f
  pub ahead : (f : Span) → Has (finishes u) f → f.first < f.last
  -- they nest, or lie apart, and so they do with loops
  pub apart : (f g : Span) → Has (finishes u) f → Has (finishes u) g → overlaps f g ≡ false
  pub loops : (l : Loop) (f : Span) → Has (loops u) l → Has (finishes u) f → overlaps (span_of l) f ≡ false
  pub rising : Rising (λ f. f.first) (finishes u)

module _ (u : UnitValue) (targets : (at : ℕ) → breaks_target u at ≡ false) (blocks : (at : ℕ) → breaks_block u at ≡ false) (kinds : (at : ℕ) → breaks_loop u at ≡ false) where
  -- each `finish` opens one
  opened_at : (b e : ℕ) → slice_get u.code b ≡ Some (instr.Finish e) → (f : Span) × (finish_opened u b (instr.Finish e) ≡ Some f) × (list_any (overlaps f) (spans u) ≡ false)
  opened_at b e here = not_amiss u (span_begun u b (instr.Finish e)) (uncrossing u blocks b (instr.Finish e) here)

  -- that one
  opened_is : (b e : ℕ) → slice_get u.code b ≡ Some (instr.Finish e) → finish_opened u b (instr.Finish e) ≡ Some (finish_of b e)
  opened_is b e here =
      let g = opened_at b e here in
      let p = cond_some (is_end_of b (slice_get u.code e)) (finish_of b e) g.0 g.1 in
      g.1 ∙ ap Some (sym p.1)

  -- and it is among the finishes
  opened_has : (b e : ℕ) → slice_get u.code b ≡ Some (instr.Finish e) → Has (finishes u) (finish_of b e)
  opened_has b e here = begun_had (finish_opened u) 0 u.code b b (instr.Finish e) (finish_of b e) here (omega arith) (opened_is b e here)

  -- no loop does that ends there
  no_loop_ends : (b e : ℕ) (i : Instr) (s : Span) → slice_get u.code e ≡ Some (instr.EndFinish b) → (o : Option Loop) → loop_begun u b i ≡ o
      → option_and_then (λ l. if l.last == e then Some l else None) (option_map span_of o) ≡ Some s → ⊥
  no_loop_ends b e i s here None q r = absurd (none-some s r)
  no_loop_ends b e i s here (Some l) q r =
      let is = begins u b i l q in
      let last = eqb-true l.last e (cond_some (l.last == e) (span_of l) s r).0 in
      other (sym here ∙ ap (slice_get u.code) (sym last) ∙ is.next)
    where
      other : Some (instr.EndFinish b) ≡ Some (instr.Next b) → ⊥
      other h = grind arith

  -- what an `endfinish` ends is a finish
  finish_ends : (b e : ℕ) (i : Instr) (s : Span) → slice_get u.code e ≡ Some (instr.EndFinish b) → slice_get u.code b ≡ Some i
      → EndsSpan u targets blocks kinds b e i s → Has (finishes u) (finish_of b e)
  finish_ends b e (instr.Finish x) s here f g = inner (is_end_of b (slice_get u.code x)) refl g
    where
      inner : (t : Bool) → is_end_of b (slice_get u.code x) ≡ t
          → option_and_then (λ l. if l.last == e then Some l else None) (if t then Some (finish_of b x) else None) ≡ Some s → Has (finishes u) (finish_of b e)
      inner true q r =
          let last = eqb-true x e (cond_some (x == e) (finish_of b x) s r).0 in
          subst (λ n. Has (finishes u) (finish_of b n)) last (opened_has b x f)
      inner false q r = absurd (none-some s r)
  finish_ends b e (instr.For k lo hi x) s here f g = absurd (no_loop_ends b e (instr.For k lo hi x) s here (loop_begun u b (instr.For k lo hi x)) refl g)
  finish_ends b e (instr.ForTo k lo y hi x) s here f g = absurd (no_loop_ends b e (instr.ForTo k lo y hi x) s here (loop_begun u b (instr.ForTo k lo y hi x)) refl g)
  finish_ends b e _ s here f g = absurd (none-some s g)

  -- each `endfinish` closes one
  closed_at : (b e : ℕ) → slice_get u.code e ≡ Some (instr.EndFinish b) → Has (finishes u) (finish_of b e)
  closed_at b e here = go (slice_get u.code b) refl (not_amiss u (span_ended u e b (slice_get u.code b)) (uncrossing u blocks e (instr.EndFinish b) here))
    where
      go : (o : Option Instr) → slice_get u.code b ≡ o → (s : Span) × (span_ended u e b o ≡ Some s) × (list_any (overlaps s) (spans u) ≡ false) → Has (finishes u) (finish_of b e)
      go None f g = absurd (none-some g.0 g.1)
      go (Some i) f g = finish_ends b e i g.0 here f g.1

  -- each ends ahead
  finish_ahead : (f : Span) → Has (finishes u) f → f.first < f.last
  finish_ahead f h = (ahead u f.first f.last (aims u targets f.first (instr.Finish f.last) (is_finish u f h).begins)).0

  -- none overlaps another
  finish_apart : (f g : Span) → Has (finishes u) f → Has (finishes u) g → overlaps f g ≡ false
  finish_apart f g h k =
      let here = (is_finish u f h).begins in
      let b = opened_at f.first f.last here in
      let same : b.0 ≡ f = same_Some b.0 f (sym b.1 ∙ opened_is f.first f.last here) in
      subst (λ x. overlaps x g ≡ false) same (none_has (overlaps b.0) (spans u) g b.2 (finish_span u g k))

  -- the finishes of a unit whose places break none of the rules
  pub are_finishes : AreFinishes u
  are_finishes = record {
    opened = λ b e here. (opened_has b e here, (ahead u b e (aims u targets b (instr.Finish e) here)).1);
    closed = closed_at;
    is = is_finish u;
    ahead = finish_ahead;
    apart = finish_apart;
    loops = λ l f h g. loop_apart u targets blocks kinds l f h (finish_span u f g);
    rising = begun_rise (finish_opened u) (λ f. f.first) (begins_at u) 0 u.code;
  }
