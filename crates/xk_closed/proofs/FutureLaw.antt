-- A set of activities that can take steps is closed where these have nothing to do with what others may still carry out. So it is of one
-- alone whose next instruction neither prints nor has to do with a shared number, be it to make a clock or to start an activity.
use Rattle.std.proofs.Common.{◌≡◌, ℕ, ◌⊎◌, inl, inr, Bool, true, false, true≢false, List, [], ◌∷◌, Option, Some, None, refl, sym, ap, ◌∙◌}
use Rattle.std.proofs.Common.{subst, eqb-true}
use Rattle.std.specs.Prelude.{slice_get, option_and_then}
use Rattle.std.specs.Option.{option_map_or}
use Rattle.xk_types.specs.declared.instr.Instr.{Instr}
use Rattle.xk_types.specs.declared.instr.Instr.TheVariants as instr
use Rattle.xk_types.specs.declared.world.Event.{Event}
use Rattle.xk_types.specs.Code.{ModuleValue}
use Rattle.xk_types.specs.World.{Activity, World, instruction_at}
use Rattle.xk_types.specs.Step.{Stepped, step}
use Rattle.xk_types.specs.Schedule.{Through, run, is_enabled, number_printed}
use Rattle.xk_law_schedules.proofs.ReachabilityLemmas.{same_through, first_step}
use Rattle.xk_law_commute.specs.Conflicts.{reads, stores, puts, next_instruction, AreConflictFree}
use Rattle.xk_law_commute.proofs.ChangeSquareLemmas.{found_of}
use Rattle.xk_law_commute.proofs.QuietStepLaw.{enabled_step}
use Rattle.xk_law_traces.specs.Edges.{AreApart, prints, does}
use Rattle.xk_law_traces.specs.Moments.{is_print}
use Rattle.xk_law_traces.proofs.PrintLemmas.{other_silent}
use Rattle.xk_law_traces.proofs.StepEventLemmas.{others_stay, print_says}
use Rattle.xk_closed.specs.Closed.{AreOutside, NotBothPrint, IsClosed, IsStuck}
use Rattle.xk_closed.specs.Futures.{IsFuture, IsFree, is_private, alone}

-- an instruction that doesn't print has no event that does
no_print : (m : ModuleValue) (w u : World) (a : ℕ) (e : Event) → step m w a ≡ Stepped u e
    → option_map_or prints (next_instruction m w a) false ≡ false
    → number_printed e ≡ None
no_print m w u a e takes h = other_silent e (by (is_print e) refl)
  where
    by : (q : Bool) → is_print e ≡ q → is_print e ≡ false
    by true g = absurd (true≢false (sym (print_says m w u a e takes g) ∙ h))
    by false g = g

module _ (m : ModuleValue) (w : World) (set : ℕ → Bool) where
  -- one of the set stays as it is
  stays : (list : List ℕ) (u v : World) (a : ℕ) (act : Activity) → set a ≡ true → AreOutside set list → run m list u ≡ Through v
      → slice_get u.activities a ≡ Some act → slice_get v.activities a ≡ Some act
  stays [] u v a act inside outside runs at = subst (λ (z : World). slice_get z.activities a ≡ Some act) (same_through u v runs) at
  stays (b ∷ list) u v a act inside outside runs at =
      let f = first_step u v (step m u b) (run m list) runs in
      stays list f.0 v a act inside outside.1 f.3
      (others_stay m u f.0 b a f.1 act f.2 (λ same. true≢false (sym inside ∙ ap set same ∙ outside.0)) at)

  next_of : (u : World) (a : ℕ) (act : Activity) → slice_get u.activities a ≡ Some act → next_instruction m u a ≡ instruction_at m act.frame
  next_of u a act at = ap (option_and_then (λ (z : Activity). instruction_at m z.frame)) at

  next_same : (list : List ℕ) (v : World) (a : ℕ) → set a ≡ true → is_enabled m w a ≡ true → AreOutside set list → run m list w ≡ Through v
      → next_instruction m v a ≡ next_instruction m w a
  next_same list v a inside enabled outside runs =
      let s = enabled_step (step m w a) enabled in
      let x = found_of m w a s.0 s.1 s.2 in
      next_of v a x.0 (stays list w v a x.0 inside outside runs x.1) ∙ sym (next_of w a x.0 x.1)

  pub free_closed : (future : Instr → Bool) → IsFuture m w set future → IsFree m w set future → IsClosed m w set
  free_closed future goes free = record {
    apart = λ list v outside runs a b inside other x y e f takes passes.
        of list v outside runs a b inside other x y e f takes passes (free.moves a inside);
    held = λ list v x e outside runs a inside takes. held list v x e outside runs a takes (free.moves a inside);
  }
    where
      held : (list : List ℕ) (v x : World) (e : Event) → AreOutside set list → run m list w ≡ Through v → (a : ℕ) → step m v a ≡ Stepped x e
          → (is_enabled m w a ≡ true) ⊎ IsStuck m w set a → is_enabled m w a ≡ true
      held list v x e outside runs a takes (inl h) = h
      held list v x e outside runs a takes (inr stuck) = absurd (stuck list v x e outside runs takes)

      both : (list : List ℕ) (v : World) → AreOutside set list → run m list w ≡ Through v → (a b : ℕ) → set a ≡ true
          → is_enabled m w a ≡ true
          → (x y : World) (e f : Event) → step m v a ≡ Stepped x e → step m v b ≡ Stepped y f
          → next_instruction m v a ≡ next_instruction m w a
          → (o : Option Instr) → next_instruction m v b ≡ o → option_map_or future (next_instruction m v b) true ≡ true
          → AreConflictFree m v b a × NotBothPrint e f
      both list v outside runs a b inside enabled x y e f takes passes same None at known = (
        record {
          second_reads = λ c s t. true≢false (sym s ∙ ap (λ o. does stores o c) at);
          first_reads = λ c s t. true≢false (sym t ∙ ap (λ o. does reads o c) at);
          first_puts = λ c s t. true≢false (sym s ∙ ap (λ o. does puts o c) at);
          second_puts = λ c s t. true≢false (sym t ∙ ap (λ o. does stores o c) at);
        },
        inr (no_print m v y b f passes (ap (λ o. option_map_or prints o false) at)),
      )
      both list v outside runs a b inside enabled x y e f takes passes same (Some j) at known =
          let is : future j ≡ true = sym (ap (λ o. option_map_or future o true) at) ∙ known in
          let p : AreApart (Some j) (next_instruction m w a) = free.apart a j inside enabled is in (
            record {
              second_reads = λ c s t. p.second_reads c (sym (ap (λ o. does stores o c) at) ∙ s) (sym (ap (λ o. does reads o c) same) ∙ t);
              first_reads = λ c s t. p.first_reads c (sym (ap (λ o. does stores o c) same) ∙ s) (sym (ap (λ o. does reads o c) at) ∙ t);
              first_puts = λ c s t. p.first_puts c (sym (ap (λ o. does puts o c) at) ∙ s) (sym (ap (λ o. does stores o c) same) ∙ t);
              second_puts = λ c s t. p.second_puts c (sym (ap (λ o. does puts o c) same) ∙ s) (sym (ap (λ o. does stores o c) at) ∙ t);
            },
            quiet (free.silent a j inside enabled is),
          )
        where
          quiet : (option_map_or prints (next_instruction m w a) false ≡ false) ⊎ (prints j ≡ false) → NotBothPrint e f
          quiet (inl h) = inl (no_print m v x a e takes (ap (λ o. option_map_or prints o false) same ∙ h))
          quiet (inr h) = inr (no_print m v y b f passes (ap (λ o. option_map_or prints o false) at ∙ h))

      of : (list : List ℕ) (v : World) → AreOutside set list → run m list w ≡ Through v → (a b : ℕ) → set a ≡ true → set b ≡ false
          → (x y : World) (e f : Event) → step m v a ≡ Stepped x e → step m v b ≡ Stepped y f
          → (is_enabled m w a ≡ true) ⊎ IsStuck m w set a
          → AreConflictFree m v b a × NotBothPrint e f
      of list v outside runs a b inside other x y e f takes passes (inl enabled) =
          let same = next_same list v a inside enabled outside runs in
          let known = goes list v y b f outside runs other passes in
          both list v outside runs a b inside enabled x y e f takes passes same (next_instruction m v b) refl known
      of list v outside runs a b inside other x y e f takes passes (inr stuck) = absurd (stuck list v x e outside runs takes)

-- ---- one alone

private_stores : (i : Instr) (c : ℕ) → is_private i ≡ true → stores i c ≡ true → ⊥
private_stores (instr.Put s x) c h g = true≢false (sym h)
private_stores (instr.AddTo s x) c h g = true≢false (sym h)
private_stores _ c h g = true≢false (sym g)

private_reads : (i : Instr) (c : ℕ) → is_private i ≡ true → reads i c ≡ true → ⊥
private_reads (instr.Get d s) c h g = true≢false (sym h)
private_reads _ c h g = true≢false (sym g)

private_puts : (i : Instr) (c : ℕ) → is_private i ≡ true → puts i c ≡ true → ⊥
private_puts (instr.Put s x) c h g = true≢false (sym h)
private_puts _ c h g = true≢false (sym g)

private_prints : (i : Instr) → is_private i ≡ true → prints i ≡ false
private_prints (instr.Print x) h = absurd (true≢false (sym h))
private_prints _ h = refl

pub alone_closed : (m : ModuleValue) (w : World) (a : ℕ) → is_enabled m w a ≡ true
    → option_map_or is_private (next_instruction m w a) true ≡ true
    → IsClosed m w (alone a)
alone_closed m w a enabled h = free_closed m w (alone a) (λ i. true) any (record {
  moves = λ b inside. inl (subst (λ c. is_enabled m w c ≡ true) (sym (eqb-true b a inside)) enabled);
  apart = λ b j inside free k. apart b j (eqb-true b a inside) (next_instruction m w b) refl;
  silent = λ b j inside free k. inl (silent b (eqb-true b a inside) (next_instruction m w b) refl);
})
  where
    any : IsFuture m w (alone a) (λ i. true)
    any list v x b e outside runs other takes = by (next_instruction m v b)
      where
        by : (o : Option Instr) → option_map_or (λ (i : Instr). true) o true ≡ true
        by None = refl
        by (Some i) = refl

    private : (b : ℕ) → b ≡ a → (i : Instr) → next_instruction m w b ≡ Some i → is_private i ≡ true
    private b same i at = sym (ap (λ o. option_map_or is_private o true) at)
        ∙ ap (λ c. option_map_or is_private (next_instruction m w c) true) same ∙ h

    apart : (b : ℕ) (j : Instr) → b ≡ a → (o : Option Instr) → next_instruction m w b ≡ o → AreApart (Some j) (next_instruction m w b)
    apart b j same None at = record {
      second_reads = λ c s t. true≢false (sym t ∙ ap (λ o. does reads o c) at);
      first_reads = λ c s t. true≢false (sym s ∙ ap (λ o. does stores o c) at);
      first_puts = λ c s t. true≢false (sym t ∙ ap (λ o. does stores o c) at);
      second_puts = λ c s t. true≢false (sym s ∙ ap (λ o. does puts o c) at);
    }
    apart b j same (Some i) at = record {
      second_reads = λ c s t. private_reads i c (private b same i at) (sym (ap (λ o. does reads o c) at) ∙ t);
      first_reads = λ c s t. private_stores i c (private b same i at) (sym (ap (λ o. does stores o c) at) ∙ s);
      first_puts = λ c s t. private_stores i c (private b same i at) (sym (ap (λ o. does stores o c) at) ∙ t);
      second_puts = λ c s t. private_puts i c (private b same i at) (sym (ap (λ o. does puts o c) at) ∙ s);
    }

    silent : (b : ℕ) → b ≡ a → (o : Option Instr) → next_instruction m w b ≡ o → option_map_or prints (next_instruction m w b) false ≡ false
    silent b same None at = ap (λ o. option_map_or prints o false) at
    silent b same (Some i) at = ap (λ o. option_map_or prints o false) at ∙ private_prints i (private b same i at)
