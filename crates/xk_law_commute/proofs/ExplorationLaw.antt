-- A quiet step may be moved to the front of a schedule by which all have ended. So nothing is missed where from each world one quiet step was
-- taken, or each step, and one of several worlds that are alike was kept.
use Rattle.std.proofs.Common.{◌≡◌, ℕ, ℤ, zero, suc, ◌≤◌, ◌⊎◌, inl, inr, not, true, true≢false, List, [], ◌∷◌, ◌++◌, length, filter, Some, None, refl, sym, ap, ◌∙◌, subst, append_assoc, arith}
use Rattle.std.specs.Prelude.{slice_get}
use Rattle.std.specs.List.{filter_map, list_all}
use Rattle.std.specs.Option.{option_to_list}
use Rattle.std.proofs.lemmas.Bool.{and_parts}
use Rattle.std.proofs.lemmas.List.{append-nil}
use Rattle.std.proofs.lemmas.Option.{none-some, same_Some}
use Rattle.xk_types.specs.declared.world.Event.{Event}
use Rattle.xk_types.specs.declared.world.Event.TheVariants as event
use Rattle.xk_types.specs.Acceptance.{IsAccepted}
use Rattle.xk_types.specs.Code.{ModuleValue, IsWithinLimits}
use Rattle.xk_types.specs.World.{Activity, World, opening, AreArguments, is_ended}
use Rattle.xk_types.specs.Step.{Stepped, step}
use Rattle.xk_types.specs.Schedule.{Through, run, run_on, IsReached, is_local, all_ended, events, events_on, number_printed, printed}
use Rattle.xk_law_schedules.proofs.ReachabilityLemmas.{same_through, first_step, run_arguments, reached_step}
use Rattle.xk_law_commute.specs.PlainWorlds.{AreAlike}
use Rattle.xk_law_commute.specs.QuietSteps.{has_quiet_step, QuietStepsGoFirst}
use Rattle.xk_law_commute.specs.Exploration.{IsLedTo, AreLedTo, HasAlike, HasNext, AreExplored, NothingIsMissed}
use Rattle.xk_law_commute.proofs.AwaitIndependenceLemmas.{same_or_not}
use Rattle.xk_law_commute.proofs.ChangeSquareLemmas.{same_step, found_of}
use Rattle.xk_law_commute.proofs.StartSquareLemmas.{alive_of}
use Rattle.xk_law_commute.proofs.QuietStepLaw.{enabled_step, quiet_enabled, quiet_steps_go_first, alike_worlds_go_alike}

-- ---- small facts

-- what a run prints: what its first step does, and then the rest
prints_on : (b : ℕ) (e : Event) (rest : List (ℕ × Event))
    → filter_map (λ (p : ℕ × Event). number_printed p.1) (filter (λ (p : ℕ × Event). not (is_local p.1)) ((b, e) ∷ rest))
    ≡ option_to_list (number_printed e) ++ filter_map (λ (p : ℕ × Event). number_printed p.1) (filter (λ (p : ℕ × Event). not (is_local p.1)) rest)
prints_on b event.Local rest = refl
prints_on b (event.Printed n) rest = refl
prints_on b _ rest = refl

printed_first : (m : ModuleValue) (list : List ℕ) (w v : World) (b : ℕ) (e : Event) → step m w b ≡ Stepped v e
    → printed m (b ∷ list) w ≡ option_to_list (number_printed e) ++ printed m list v
printed_first m list w v b e h =
    ap (λ o. filter_map (λ (p : ℕ × Event). number_printed p.1) (filter (λ (p : ℕ × Event). not (is_local p.1)) (events_on b o (events m list)))) h
    ∙ prints_on b e (events m list v)

-- where all have ended, each one has
pub ended_at : (xs : List Activity) (a : ℕ) (x : Activity) → list_all (λ (act : Activity). is_ended act.status) xs ≡ true → slice_get xs a ≡ Some x → is_ended x.status ≡ true
ended_at [] a x h at = absurd (none-some x at)
ended_at (z ∷ xs) zero x h at =
    ap (λ (y : Activity). is_ended y.status) (sym (same_Some z x at)) ∙ (and_parts (is_ended z.status) (list_all (λ (act : Activity). is_ended act.status) xs) h).0
ended_at (z ∷ xs) (suc a) x h at = ended_at xs a x (and_parts (is_ended z.status) (list_all (λ (act : Activity). is_ended act.status) xs) h).1 at

-- so that nobody takes a step
pub nobody_steps : (m : ModuleValue) (w u : World) (a : ℕ) (e : Event) → step m w a ≡ Stepped u e → all_ended w ≡ true → ⊥
nobody_steps m w u a e h ended =
    let x = found_of m w a u e h in
    true≢false (sym (ended_at w.activities a x.0 ended x.1) ∙ alive_of m w a x.0 u e x.1 h)

-- a world that a legal schedule leads to is reached
led_reached : (m : ModuleValue) (args : List ℤ) (w : World) (numbers : List ℤ) → AreArguments m args → IsLedTo m args w numbers → IsReached m w
led_reached m args w numbers taken led =
    let same = run_arguments m led.list (opening m args) w led.legal in (
      led.list,
      (
        subst (AreArguments m) (sym same) taken,
        subst (λ xs. run m led.list (opening m xs) ≡ Through w) (sym same) led.legal,
      ),
    )

-- ---- schedules by which all have ended

-- the schedule leads from here to where all have ended, and prints these numbers
record Ends (m : ModuleValue) (list : List ℕ) (w : World) (numbers : List ℤ) : Type 0 where
  last : World
  legal : run m list w ≡ Through last
  ended : all_ended last ≡ true
  prints : printed m list w ≡ numbers

-- and so it does from a world that is alike
ends_alike : (m : ModuleValue) (list : List ℕ) (w v : World) (numbers : List ℤ) → AreAlike w v → Ends m list w numbers → Ends m list v numbers
ends_alike m [] w v numbers alike h = record {
  last = v;
  legal = refl;
  ended = sym ((alike_worlds_go_alike m).ends w v alike) ∙ ap all_ended (same_through w h.last h.legal) ∙ h.ended;
  prints = h.prints;
}
ends_alike m (a ∷ list) w v numbers alike h =
    let f = first_step w h.last (step m w a) (run m list) h.legal in
    let next = (alike_worlds_go_alike m).steps w v f.0 a f.1 alike f.2 in
    let rest : Ends m list next.0 (printed m list f.0) =
    ends_alike m list f.0 next.0 (printed m list f.0) next.2 (record { last = h.last; legal = f.3; ended = h.ended; prints = refl }) in
    record {
      last = rest.last;
      legal = ap (λ o. run_on v o (run m list)) next.1 ∙ rest.legal;
      ended = rest.ended;
      prints = printed_first m list v next.0 a f.1 next.1 ∙ ap (λ ns. option_to_list (number_printed f.1) ++ ns) rest.prints
          ∙ sym (printed_first m list w f.0 a f.1 f.2) ∙ h.prints;
    }

-- a schedule from behind a quiet step, shorter by that step, which prints the same
record Rest (m : ModuleValue) (list : List ℕ) (u : World) (numbers : List ℤ) : Type 0 where
  rest : List ℕ
  shorter : length list ≡ suc (length rest)
  ends : Ends m rest u numbers

module _ (m : ModuleValue) (limits : IsWithinLimits m) (ok : IsAccepted m) where
  abbrev law : QuietStepsGoFirst m
  law = quiet_steps_go_first m limits ok

  -- what is known of a shorter list
  abbrev Moves : List ℕ → Type 0
  Moves list = (w u : World) (a : ℕ) (e : Event) (numbers : List ℤ) → IsReached m w → has_quiet_step m w a ≡ true → step m w a ≡ Stepped u e
      → Ends m list w numbers → Rest m list u numbers

  -- the quiet step comes first
  comes_first : (b : ℕ) (list : List ℕ) (w u : World) (a : ℕ) (e : Event) (numbers : List ℤ) → has_quiet_step m w a ≡ true → step m w a ≡ Stepped u e → b ≡ a
      → Ends m (b ∷ list) w numbers → Rest m (b ∷ list) u numbers
  comes_first b list w u a e numbers quiet takes same h =
      let f = first_step w h.last (step m w b) (run m list) h.legal in
      let one : (f.0 ≡ u) × (f.1 ≡ e) = same_step f.0 u f.1 e (sym f.2 ∙ ap (step m w) same ∙ takes) in
      let silent : number_printed f.1 ≡ None = ap number_printed one.1 ∙ law.silent w u a e quiet takes in
      record {
        rest = list;
        shorter = refl;
        ends = record {
          last = h.last;
          legal = ap (run m list) (sym one.0) ∙ f.3;
          ended = h.ended;
          prints = ap (printed m list) (sym one.0) ∙ sym (ap (λ o. option_to_list o ++ printed m list f.0) silent)
              ∙ sym (printed_first m list w f.0 b f.1 f.2) ∙ h.prints;
        };
      }

  -- another's step comes first
  comes_later : (b : ℕ) (list : List ℕ) → Moves list → (w u : World) (a : ℕ) (e : Event) (numbers : List ℤ) → IsReached m w → has_quiet_step m w a ≡ true
      → step m w a ≡ Stepped u e → (b ≡ a → ⊥) → Ends m (b ∷ list) w numbers → Rest m (b ∷ list) u numbers
  comes_later b list shorter w u a e numbers reached quiet takes differs h =
      let f = first_step w h.last (step m w b) (run m list) h.legal in
      let square = law.square w a b reached quiet differs u f.0 e f.1 takes f.2 in
      let r : Rest m list square.0 (printed m list f.0) =
      shorter f.0 square.0 a e (printed m list f.0) (reached_step m w f.0 b f.1 reached f.2) (law.stays w f.0 a b f.1 reached quiet differs f.2) square.2
      (record { last = h.last; legal = f.3; ended = h.ended; prints = refl }) in
      let there : Ends m r.rest square.1 (printed m list f.0) = ends_alike m r.rest square.0 square.1 (printed m list f.0) square.4 r.ends in
      record {
        rest = b ∷ r.rest;
        shorter = ap suc r.shorter;
        ends = record {
          last = there.last;
          legal = ap (λ o. run_on u o (run m r.rest)) square.3 ∙ there.legal;
          ended = there.ended;
          prints = printed_first m r.rest u square.1 b f.1 square.3 ∙ ap (λ ns. option_to_list (number_printed f.1) ++ ns) there.prints
              ∙ sym (printed_first m list w f.0 b f.1 f.2) ∙ h.prints;
        };
      }

  moved : (list : List ℕ) → Moves list
  moved [] w u a e numbers reached quiet takes h = absurd (nobody_steps m w u a e takes (ap all_ended (same_through w h.last h.legal) ∙ h.ended))
  moved (b ∷ list) w u a e numbers reached quiet takes h = by (moved list) (same_or_not b a)
    where
      by : Moves list → (b ≡ a) ⊎ (b ≡ a → ⊥) → Rest m (b ∷ list) u numbers
      by shorter (inl same) = comes_first b list w u a e numbers quiet takes same h
      by shorter (inr differs) = comes_later b list shorter w u a e numbers reached quiet takes differs h

  -- ---- worlds that were found

  module _ (args : List ℤ) (Found : World → List ℤ → Type 0) (taken : AreArguments m args) (led : AreLedTo m args Found) (explored : AreExplored m Found) where
    -- one was found in which all have ended, these numbers being printed by then
    abbrev IsMet : List ℤ → Type 0
    IsMet numbers = (v : World) × Found v numbers × (all_ended v ≡ true)

    -- what is known of shorter lists
    abbrev Meets : ℕ → Type 0
    Meets n = (list : List ℕ) (w : World) (before numbers : List ℤ) → length list ≤ n → HasAlike Found w before → Ends m list w numbers → IsMet (before ++ numbers)

    -- one quiet step was taken
    by_quiet : (n : ℕ) → Meets n → (list : List ℕ) (w : World) (before numbers : List ℤ) → length list ≤ suc n → Found w before → Ends m list w numbers
        → (a : ℕ) → has_quiet_step m w a ≡ true → HasNext m Found w before a → IsMet (before ++ numbers)
    by_quiet n shorter list w before numbers short found h a quiet next =
        let u = enabled_step (step m w a) (quiet_enabled m w a quiet) in
        let r : Rest m list u.0 numbers = moved list w u.0 a u.1 numbers (led_reached m args w before taken (led w before found)) quiet u.2 h in
        let silent : number_printed u.1 ≡ None = law.silent w u.0 a u.1 quiet u.2 in
        let has : HasAlike Found u.0 before =
        subst (HasAlike Found u.0) (ap (λ o. before ++ option_to_list o) silent ∙ append-nil before) (next u.0 u.1 u.2) in
        shorter r.rest u.0 before numbers (omega (arith, r.shorter, short)) has r.ends

    -- each step was
    by_each : (n : ℕ) → Meets n → (b : ℕ) (list : List ℕ) (w : World) (before numbers : List ℤ) → length (b ∷ list) ≤ suc n → Ends m (b ∷ list) w numbers
        → HasNext m Found w before b → IsMet (before ++ numbers)
    by_each n shorter b list w before numbers short h next =
        let f = first_step w h.last (step m w b) (run m list) h.legal in
        let more : List ℤ = option_to_list (number_printed f.1) in
        let met : IsMet ((before ++ more) ++ printed m list f.0) =
        shorter list f.0 (before ++ more) (printed m list f.0) (omega (arith, short)) (next f.0 f.1 f.2) (record { last = h.last; legal = f.3; ended = h.ended; prints = refl }) in
        subst IsMet (append_assoc before more (printed m list f.0) ∙ ap (λ ns. before ++ ns) (sym (printed_first m list w f.0 b f.1 f.2) ∙ h.prints)) met

    meets : (n : ℕ) → Meets n
    meets n [] w before numbers short has h = (
      has.other,
      subst (Found has.other) (sym (append-nil before) ∙ ap (λ ns. before ++ ns) h.prints) has.found,
      sym ((alike_worlds_go_alike m).ends w has.other has.alike) ∙ ap all_ended (same_through w h.last h.legal) ∙ h.ended,
    )
    meets zero (b ∷ list) w before numbers short has h = absurd (omega (arith, short))
    meets (suc n) (b ∷ list) w before numbers short has h =
        by (meets n) (explored has.other before has.found) (ends_alike m (b ∷ list) w has.other numbers has.alike h)
      where
        by : Meets n → ((a : ℕ) × (has_quiet_step m has.other a ≡ true) × HasNext m Found has.other before a) ⊎ ((a : ℕ) → HasNext m Found has.other before a)
            → Ends m (b ∷ list) has.other numbers → IsMet (before ++ numbers)
        by shorter (inl one) g = by_quiet n shorter (b ∷ list) has.other before numbers short has.found g one.0 one.1 one.2
        by shorter (inr all) g = by_each n shorter b list has.other before numbers short g (all b)

pub nothing_missed : (m : ModuleValue) (args : List ℤ) (Found : World → List ℤ → Type 0) → IsWithinLimits m → IsAccepted m → AreArguments m args
    → AreLedTo m args Found → HasAlike Found (opening m args) [] → AreExplored m Found → NothingIsMissed m args Found
nothing_missed m args Found limits ok taken led begun explored list w legal ended =
    meets m limits ok args Found taken led explored (length list) list (opening m args) [] (printed m list (opening m args)) (omega arith) begun
    (record { last = w; legal = legal; ended = ended; prints = refl })
