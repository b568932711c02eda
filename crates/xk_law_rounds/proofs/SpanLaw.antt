-- A greedy run has as many rounds as its span.
use Rattle.std.proofs.Common.{◌≡◌, ℕ, ℤ, zero, suc, true, false, List, [], ◌∷◌, ◌++◌, length, Some, refl, ap, ◌∙◌, subst}
use Rattle.std.proofs.Common.{sym, append_assoc, arith}
use Rattle.std.specs.Prelude.{slice_get}
use Rattle.std.proofs.lemmas.Option.{none-some, same_Some}
use Rattle.xk_types.specs.Acceptance.{IsAccepted}
use Rattle.xk_types.specs.Code.{ModuleValue, IsWithinLimits}
use Rattle.xk_types.specs.World.{World, AreArguments, opening}
use Rattle.xk_types.specs.Schedule.{Through, run, is_enabled}
use Rattle.xk_law_traces.specs.Classes.{AreOneClass, name_in}
use Rattle.xk_law_traces.specs.Edges.{StepName, IsCause, IsEdge, IsTaken, turns_of}
use Rattle.xk_law_traces.specs.OneRun.{IsWholeRun}
use Rattle.xk_law_traces.proofs.EdgeLaw.{turns_on}
use Rattle.xk_law_traces.proofs.PassEdgeLaw.{causes_sound}
use Rattle.xk_law_rounds.specs.Rounds.{AreComplete, AreGreedy, AreRounds, IsInRound, IsSpan, IsTakenIn, steps_in}
use Rattle.xk_law_rounds.proofs.CompleteLaw.{waited}
use Rattle.xk_law_rounds.proofs.GreedyLaw.{has_chain, in_round}
use Rattle.xk_law_rounds.proofs.RoundLaw.{by_round, first, no_longer, sound_there}

-- each cause is taken before, in each schedule of the class
pub cause_sound : (m : ModuleValue) (args : List ℤ) → IsWithinLimits m → IsAccepted m → AreArguments m args
    → (s t : List ℕ) (z : World) → IsWholeRun m args s z → (whole : AreOneClass m (opening m args) s t)
    → (x k : StepName) → IsCause m (opening m args) s x k → (before after : List ℕ) (v : World) → t ≡ before ++ after
    → run m before (opening m args) ≡ Through v
    → turns_of (name_in whole k.0) before ≡ k.1 → is_enabled m v (name_in whole k.0) ≡ true → IsTaken before (name_in whole x.0, x.1)
cause_sound m args limits ok taken s t z one whole x k cause =
    sound_there m (opening m args) s t edges whole (causes_sound m args limits ok taken s z one.legal one.ended edges each) x k (0, refl)
  where
    edges : List (StepName × StepName)
    edges = (x, k) ∷ []

    each : (u v : StepName) → IsEdge edges u v → IsCause m (opening m args) s u v
    each u v h = of h.0 h.1
      where
        of : (i : ℕ) → slice_get edges i ≡ Some (u, v) → IsCause m (opening m args) s u v
        of zero h = subst (λ (p : StepName × StepName). IsCause m (opening m args) s p.0 p.1) (same_Some (x, k) (u, v) h) cause
        of (suc i) h = absurd (none-some (u, v) h)

pub causes_complete : (m : ModuleValue) (args : List ℤ) (s : List ℕ) (z : World) → IsWithinLimits m → IsAccepted m → AreArguments m args
    → run m s (opening m args) ≡ Through z → AreComplete m (opening m args) s
causes_complete m args s z limits ok taken legal y some before after v whole leads turn stuck =
    waited m args limits ok taken s z legal y some before after v whole leads turn stuck

-- greedy rounds are rounds
pub rounds_of : (m : ModuleValue) (w z : World) (rounds : List (List ℕ)) → AreGreedy m w rounds z → AreRounds m w rounds z
rounds_of m w z [] h = h
rounds_of m w z (r ∷ rs) h = (h.0, h.1, rounds_of m h.0 z rs h.4)

module _ (m : ModuleValue) (args : List ℤ) (limits : IsWithinLimits m) (ok : IsAccepted m) (taken : AreArguments m args)
    (y : World) (rounds : List (List ℕ)) (all : AreGreedy m (opening m args) rounds y) (other : IsWholeRun m args (steps_in rounds) y) where
  abbrev w : World
  w = opening m args

  abbrev t : List ℕ
  t = steps_in rounds

  abbrev whole : AreOneClass m w t t
  whole = record { between = []; joined = refl }

  sound : (x k : StepName) → IsCause m w t x k → (before after : List ℕ) (v : World) → t ≡ before ++ after → run m before w ≡ Through v
      → turns_of (name_in whole k.0) before ≡ k.1 → is_enabled m v (name_in whole k.0) ≡ true
      → IsTaken before (name_in whole x.0, x.1)
  sound = cause_sound m args limits ok taken t t y other whole

  complete : (k : StepName) → IsTaken t k → (before after : List ℕ) (v : World) → t ≡ before ++ after → run m before w ≡ Through v
      → turns_of (name_in whole k.0) before ≡ k.1 → is_enabled m v (name_in whole k.0) ≡ false
      → (x : StepName) × IsCause m w t x k × (IsTaken before (name_in whole x.0, x.1) → ⊥)
  complete k some before after v is leads same e =
      let r = causes_complete m args t y limits ok taken other.legal k some before after v is leads same e in (r.0, r.1, r.3)

  greedy_span : IsSpan m w t (length rounds)
  greedy_span = record {
    reached = has_chain m args limits ok taken t y y (IsCause m w t) t other whole sound complete rounds refl all;
    most = no_longer m args limits ok taken t y y (IsCause m w t) t other whole sound rounds refl (rounds_of m w y rounds all);
  }

-- the steps of some rounds, and of those behind them
pub steps_of : (before after : List (List ℕ)) → steps_in (before ++ after) ≡ steps_in before ++ steps_in after
steps_of [] after = refl
steps_of (r ∷ before) after = ap (λ l. r ++ l) (steps_of before after) ∙ sym (append_assoc r (steps_in before) (steps_in after))

pub greedy_itself : (m : ModuleValue) (args : List ℤ) (y : World) (rounds : List (List ℕ))
    → IsWithinLimits m → IsAccepted m → AreArguments m args
    → AreGreedy m (opening m args) rounds y → IsWholeRun m args (steps_in rounds) y
    → IsSpan m (opening m args) (steps_in rounds) (length rounds)
greedy_itself m args y rounds limits ok taken all other = greedy_span m args limits ok taken y rounds all other

-- the round in which a greedy run takes a step is the one in which it comes
pub greedy_rounds : (m : ModuleValue) (args : List ℤ) (z : World) (before : List (List ℕ)) (r : List ℕ) (after : List (List ℕ))
    (y : StepName)
    → IsWithinLimits m → IsAccepted m → AreArguments m args
    → AreGreedy m (opening m args) (before ++ r ∷ after) z → IsWholeRun m args (steps_in (before ++ r ∷ after)) z
    → IsTakenIn before r y → IsInRound m (opening m args) (steps_in (before ++ r ∷ after)) y (suc (length before))
greedy_rounds m args z before r after y limits ok taken all other here =
    let w = opening m args in
    let rounds = before ++ r ∷ after in
    let t = steps_in rounds in
    let c = in_round m args limits ok taken t z z (IsCause m w t) t other (whole m args limits ok taken z rounds all other)
    (sound m args limits ok taken z rounds all other) (complete m args limits ok taken z rounds all other) before r after refl all
    y here.0 here.1 in
    record {
      taken = (let n = ap (turns_of y.0) (steps_of before (r ∷ after)) ∙ turns_on y.0 (steps_in before) (r ++ steps_in after) in
          let k = turns_on y.0 (steps_in before) r in
          let l = turns_on y.0 r (steps_in after) in
          let h = here.1 in
          omega (arith, n, k, l, h));
      chain = c.0;
      caused = c.1;
      long = c.2;
      most = λ xs chain. (let n = by_round m args limits ok taken t z z (IsCause m w t) t other
          (whole m args limits ok taken z rounds all other)
          (sound m args limits ok taken z rounds all other) before r after [] w 0 refl refl (rounds_of m w z rounds all)
          (first m args limits ok taken t z z (IsCause m w t) t other (whole m args limits ok taken z rounds all other)
          (sound m args limits ok taken z rounds all other)) y xs chain here.1 in omega (arith, n));
    }
