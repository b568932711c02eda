-- The numbers and clocks that an instruction takes, and what the source takes for them.
use Rattle.std.proofs.Common.{◌≡◌, ℕ, Bool, true, false, cond, List, ℤ, Some, None, Option, refl, sym, ap, ◌∙◌}
use Rattle.std.specs.Prelude.{slice_get, slice_set, slice_index_or}
use Rattle.std.specs.Int.{w64, int_wrapping_add, int_wrapping_sub, int_wrapping_mul}
use Rattle.xk_types.specs.declared.instr.Instr.{Instr}
use Rattle.xk_types.specs.declared.instr.Instr.TheVariants as instr
use Rattle.xk_types.specs.declared.world.Value.{Value as Held}
use Rattle.xk_types.specs.declared.world.Value.TheVariants as value
use Rattle.xk_types.specs.declared.world.Standing.TheVariants as standing
use Rattle.xk_types.specs.declared.world.Event.TheVariants as event
use Rattle.xk_types.specs.World.{Activity, Clock, standing_of}
use Rattle.xk_types.specs.Step.{Outcome, Wrong, ClockUse, done, none, onward, with_slots, slot_at, number_in, clock_in, registered_on, is_registered, put_in, writing, cell_in, computing, carried_out}
use Rattle.xk_source_semantics.specs.Source.{SourceOutcome}
use Rattle.xk_law_compiler.proofs.ExpressionLemmas.{IsStraight, number_held, number_at, then_on, put_by, put_at, exec1}
use Rattle.xk_law_compiler.proofs.WorldLemmas.{IsAlike, Together, together_at}
use Rattle.xk_law_compiler.proofs.StepLemmas.ActivityLemmas.{RunningPair, Good}

module _ (pair : RunningPair) where
  open pair use {cx, w, v, a, rel, act}

  pub number_follows : (o : Option Held) (go : ℤ → Outcome) → ((n : ℤ) → number_held o ≡ Some n → Good pair (go n))
      → Good pair (number_in o go)
  number_follows None go h = tt
  number_follows (Some value.Unset) go h = tt
  number_follows (Some (value.Number n)) go h = h n refl
  number_follows (Some (value.Clock c)) go h = tt

  pub put_follows : (o : Option Held) (d : ℕ) (x : Held) (go : Activity → Outcome)
      → ((old : Held) → o ≡ Some old → Good pair (go (onward (with_slots act (slice_set act.frame.slots d x)))))
      → Good pair (put_in o act d x go)
  put_follows None d x go h = tt
  put_follows (Some old) d x go h = h old refl

  pub cell_follows : (o : Option ℤ) (go : ℤ → Outcome) → ((n : ℤ) → o ≡ Some n → Good pair (go n)) → Good pair (cell_in o go)
  cell_follows None go h = tt
  cell_follows (Some n) go h = h n refl

  -- a shared number is the same
  pub cell_same : (s : ℕ) (n : ℤ) (go : ℤ → SourceOutcome) → slice_get w.cells s ≡ Some n → cell_in (slice_get v.cells s) go ≡ go n
  cell_same s n go e = ap (λ o. cell_in o go) (ap (λ c. slice_get c s) (sym rel.cells) ∙ e)

  -- a number that is written
  straight_put : (d : ℕ) (n : ℤ) (o : Option (List Held)) → put_at act.frame.slots d n ≡ o
      → ((out : List Held) → o ≡ Some out → Good pair (done w a (onward (with_slots act out)) none event.Local))
      → Good pair (writing act d (value.Number n) (λ next. done w a next none event.Local))
  straight_put d n o e h = go (slot_at act d) refl
    where
      go : (p : Option Held) → slot_at act d ≡ p → Good pair (put_in p act d (value.Number n) (λ next. done w a next none event.Local))
      go None f = tt
      go (Some old) f = h (slice_set act.frame.slots d (value.Number n)) (sym e ∙ ap (λ q. put_by q act.frame.slots d n) f)

  straight_two : (f : ℤ → ℤ → ℤ) (d x y : ℕ)
      → ((out : List Held) → then_on (number_at act.frame.slots x) (λ p. then_on (number_at act.frame.slots y) (λ q. put_at act.frame.slots d (f p q))) ≡ Some out
      → Good pair (done w a (onward (with_slots act out)) none event.Local)) → Good pair (computing w a act f d x y)
  straight_two f d x y h =
      number_follows (slot_at act x) _ (λ p e. number_follows (slot_at act y) _ (λ q g.
      straight_put d (f p q) (put_at act.frame.slots d (f p q)) refl (λ out k. h out
      (ap (λ o. then_on o (λ p1. then_on (number_at act.frame.slots y) (λ q1. put_at act.frame.slots d (f p1 q1)))) e
      ∙ (ap (λ o. then_on o (λ q1. put_at act.frame.slots d (f p q1))) g ∙ k)))))

  pub straight_follows : (i : Instr) → IsStraight i
      → ((out : List Held) → exec1 i act.frame.slots ≡ Some out → Good pair (done w a (onward (with_slots act out)) none event.Local))
      → Good pair (carried_out cx.m w a act i)
  straight_follows (instr.Lit d n) s h = straight_put d n (put_at act.frame.slots d n) refl h
  straight_follows (instr.Copy d x) s h =
      number_follows (slot_at act x) _ (λ n e. straight_put d n (put_at act.frame.slots d n) refl (λ out k. h out (ap (λ o. then_on o (put_at act.frame.slots d)) e ∙ k)))
  straight_follows (instr.Add d x y) s h = straight_two (int_wrapping_add w64) d x y h
  straight_follows (instr.Sub d x y) s h = straight_two (int_wrapping_sub w64) d x y h
  straight_follows (instr.Mul d x y) s h = straight_two (int_wrapping_mul w64) d x y h
  straight_follows _ s h = absurd s

  registered_follows : (go : Outcome) (o p : Option Clock) → Together IsAlike o p
      → (((sgo : SourceOutcome) → registered_on p a sgo ≡ sgo) → Good pair go)
      → Good pair (registered_on o a go)
  registered_follows go None p t h = tt
  registered_follows go (Some c) None t h = absurd t
  registered_follows go (Some c) (Some d) t h = by (is_registered (standing_of c a)) refl
    where
      by : (b : Bool) → is_registered (standing_of c a) ≡ b → Good pair (cond b go (Wrong ClockUse))
      by true e = h (λ sgo. ap (λ b. cond b sgo (Wrong ClockUse)) (ap (λ s. is_registered (slice_index_or s a standing.Apart)) (sym t.standings) ∙ e))
      by false e = tt

  -- the source may use the clock, too
  abbrev pub Usable : ℕ → Type 0
  Usable k = (sgo : ℕ → SourceOutcome) → clock_in v a (Some (value.Clock k)) sgo ≡ sgo k

  pub clock_used : (o : Option Held) (go : ℕ → Outcome) → ((k : ℕ) → o ≡ Some (value.Clock k) → Usable k → Good pair (go k))
      → Good pair (clock_in w a o go)
  clock_used None go h = tt
  clock_used (Some value.Unset) go h = tt
  clock_used (Some (value.Number n)) go h = tt
  clock_used (Some (value.Clock k)) go h =
      registered_follows (go k) (slice_get w.clocks k) (slice_get v.clocks k) (together_at IsAlike w.clocks v.clocks k rel.clocks) (λ u. h k refl (λ sgo. u (sgo k)))

  pub clock_follows : (o : Option Held) (go : ℕ → Outcome) (sgo : ℕ → SourceOutcome)
      → ((k : ℕ) → clock_in v a o sgo ≡ sgo k → Good pair (go k))
      → Good pair (clock_in w a o go)
  clock_follows o go sgo h = clock_used o go (λ k e u. h k (ap (λ x. clock_in v a x sgo) e ∙ u sgo))
