-- Phases of clocks only grow, by one in a step at most; and a clock is seen to have advanced in a step exactly where its phase is greater
-- behind it.
use Rattle.std.proofs.Common.{◌≡◌, ℕ, zero, suc, ◌+◌, ◌<◌, ◌≤◌, ◌==◌, Bool, true, false, true≢false, cond, List, [], ◌∷◌, ◌++◌, map, length}
use Rattle.std.proofs.Common.{Some, None, Option, refl, sym, ap, ◌∙◌, subst, eqb-true, eq-eqb, arith}
use Rattle.std.specs.Prelude.{slice_get, option_map}
use Rattle.std.specs.Option.{option_map_or}
use Rattle.xk_types.specs.declared.world.Standing.{Standing}
use Rattle.xk_types.specs.declared.world.Event.{Event}
use Rattle.xk_types.specs.Code.{ModuleValue}
use Rattle.xk_types.specs.World.{Clock, World}
use Rattle.xk_types.specs.Step.{Outcome, Blocked, Wrong, Stepped, is_ready, settled_clock, advanced, moved, joined, new_clock, is_given}
use Rattle.xk_types.specs.Step.{none, all, dropped, resumed, step}
use Rattle.xk_types.specs.Schedule.{Through, run}
use Rattle.xk_law_schedules.proofs.ReachabilityLemmas.{same_through, first_step}
use Rattle.xk_law_schedules.proofs.StepFormLemmas.{step_kind}
use Rattle.xk_law_traces.specs.Edges.{phase_of}

-- ---- one clock

-- what of a clock only its advance changes
abbrev Marks : Type 0
Marks = ℕ × ℕ

abbrev marks : Clock → Marks
marks k = (k.phase, k.last)

abbrev at_clock : List Clock → ℕ → Option Marks
at_clock cs c = option_map marks (slice_get cs c)

moved_marks : (a : ℕ) (change : ℕ → Standing → Standing) (cs : List Clock) (c : ℕ) → at_clock (moved a change cs) c ≡ at_clock cs c
moved_marks a change [] c = refl
moved_marks a change (k ∷ cs) zero = refl
moved_marks a change (k ∷ cs) (suc c) = moved_marks a (λ j. change (suc j)) cs c

joined_marks : (a : ℕ) (given : ℕ → Bool) (cs : List Clock) (c : ℕ) → at_clock (joined a given cs) c ≡ at_clock cs c
joined_marks a given [] c = refl
joined_marks a given (k ∷ cs) zero = refl
joined_marks a given (k ∷ cs) (suc c) = joined_marks a (λ j. given (suc j)) cs c

-- ---- before the end of a step

abbrev phase_by : Option Marks → ℕ
phase_by o = option_map_or (λ p. p.0) o 0

abbrev last_by : Option Marks → ℕ
last_by o = option_map_or (λ p. p.1) o 0

-- Before the end of a step a clock's phase is as before, and it hasn't advanced since.
record IsAsBefore (cs ds : List Clock) (c : ℕ) : Type 0 where
  phase : phase_by (at_clock cs c) ≡ phase_by (at_clock ds c)
  last : last_by (at_clock ds c) ≡ last_by (at_clock cs c)

as_before : (cs ds : List Clock) (c : ℕ) → at_clock ds c ≡ at_clock cs c → IsAsBefore cs ds c
as_before cs ds c same = record { phase = ap phase_by (sym same); last = ap last_by same }

push_as_before : (cs : List Clock) (k : Clock) (c : ℕ) → k.phase ≡ 0 → k.last ≡ 0 → IsAsBefore cs (cs ++ k ∷ []) c
push_as_before [] k zero phase last = record { phase = sym phase; last = last }
push_as_before [] k (suc c) phase last = record { phase = refl; last = refl }
push_as_before (d ∷ cs) k zero phase last = record { phase = refl; last = refl }
push_as_before (d ∷ cs) k (suc c) phase last = let r = push_as_before cs k c phase last in record { phase = r.phase; last = r.last }

-- ---- at the end of a step

-- clock c at the end of step number now
record IsSettled (ds es : List Clock) (now c : ℕ) : Type 0 where
  grows : phase_by (at_clock ds c) ≤ phase_by (at_clock es c)
  advances : last_by (at_clock ds c) < now → last_by (at_clock es c) ≡ now → phase_by (at_clock ds c) < phase_by (at_clock es c)
  near : phase_by (at_clock es c) ≤ suc (phase_by (at_clock ds c))
  shows : phase_by (at_clock ds c) < phase_by (at_clock es c) → last_by (at_clock es c) ≡ now

settled_marks : (now : ℕ) (ds : List Clock) (c : ℕ) → IsSettled ds (map (settled_clock now) ds) now c
settled_marks now [] c =
    record {
      grows = omega arith;
      advances = λ h g. absurd (omega (arith, h, g));
      near = omega arith;
      shows = λ h. absurd (omega (arith, h));
    }
settled_marks now (k ∷ ds) zero = by (is_ready k)
  where
    by : (b : Bool)
        → IsSettled (k ∷ ds) (cond b (record { phase = k.phase + 1; last = now; standings = map advanced k.standings }) k
        ∷ map (settled_clock now) ds) now zero
    by true = record { grows = omega arith; advances = λ h g. omega arith; near = omega arith; shows = λ h. refl }
    by false = record {
      grows = omega arith;
      advances = λ h g. absurd (omega (arith, h, g));
      near = omega arith;
      shows = λ h. absurd (omega (arith, h));
    }
settled_marks now (k ∷ ds) (suc c) =
    let r = settled_marks now ds c in record { grows = r.grows; advances = r.advances; near = r.near; shows = r.shows }

-- ---- phases

-- the phase of clock c
abbrev pub phase_in : List Clock → ℕ → ℕ
phase_in cs c = option_map_or (λ (k : Clock). k.phase) (slice_get cs c) 0

phase_marks : (cs : List Clock) (c : ℕ) → phase_in cs c ≡ phase_by (at_clock cs c)
phase_marks cs c = by (slice_get cs c)
  where
    by : (o : Option Clock) → option_map_or (λ (k : Clock). k.phase) o 0 ≡ phase_by (option_map marks o)
    by None = refl
    by (Some k) = refl

-- before the end of a step it is as before
pub moved_phase : (a : ℕ) (change : ℕ → Standing → Standing) (cs : List Clock) (c : ℕ) → phase_in (moved a change cs) c ≡ phase_in cs c
moved_phase a change cs c =
    phase_marks (moved a change cs) c ∙ ap phase_by (moved_marks a change cs c) ∙ sym (phase_marks cs c)

pub joined_phase : (a : ℕ) (given : ℕ → Bool) (cs : List Clock) (c : ℕ) → phase_in (joined a given cs) c ≡ phase_in cs c
joined_phase a given cs c =
    phase_marks (joined a given cs) c ∙ ap phase_by (joined_marks a given cs c) ∙ sym (phase_marks cs c)

pub pushed_phase : (cs : List Clock) (k : Clock) (c : ℕ) → k.phase ≡ 0 → k.last ≡ 0 → phase_in (cs ++ k ∷ []) c ≡ phase_in cs c
pushed_phase cs k c phase last =
    phase_marks (cs ++ k ∷ []) c ∙ sym ((push_as_before cs k c phase last).phase) ∙ sym (phase_marks cs c)

-- ---- a step

-- it isn't a step, or phases only grow, by one at most, where a clock advances
record GoesUp (w u : World) (c : ℕ) : Type 0 where
  grows : phase_of w c ≤ phase_of u c
  advances : last_by (at_clock w.clocks c) ≤ w.steps → last_by (at_clock u.clocks c) ≡ u.steps → phase_of w c < phase_of u c
  near : phase_of u c ≤ suc (phase_of w c)
  shows : phase_of w c < phase_of u c → last_by (at_clock u.clocks c) ≡ u.steps

abbrev GoUp : World → ℕ → Outcome → Type 0
GoUp w c Blocked = Unit {0}
GoUp w c (Wrong d) = Unit {0}
GoUp w c (Stepped u e) = GoesUp w u c

goes_up : (w u : World) (c : ℕ) (ds : List Clock) → IsAsBefore w.clocks ds c → u.clocks ≡ map (settled_clock (w.steps + 1)) ds
    → u.steps ≡ w.steps + 1 → GoesUp w u c
goes_up w u c ds near clocks steps = record {
  grows = (let g = s.grows in omega (arith, g, first, second, near.phase));
  advances = λ old now.
      (let l = near.last in let e = ap (λ cs. last_by (at_clock cs c)) clocks in
      let g = s.advances (omega (arith, l, old)) (omega (arith, e, now, steps)) in omega (arith, g, first, second, near.phase));
  near = (let g = s.near in omega (arith, g, first, second, near.phase));
  shows = λ more. ap (λ cs. last_by (at_clock cs c)) clocks ∙ s.shows (omega (arith, more, first, second, near.phase)) ∙ sym steps;
}
  where
    s : IsSettled ds (map (settled_clock (w.steps + 1)) ds) (w.steps + 1) c
    s = settled_marks (w.steps + 1) ds c

    first : phase_of w c ≡ phase_by (at_clock w.clocks c)
    first = phase_marks w.clocks c

    second : phase_of u c ≡ phase_by (at_clock (map (settled_clock (w.steps + 1)) ds) c)
    second = phase_marks u.clocks c ∙ ap (λ cs. phase_by (at_clock cs c)) clocks

moved_up : (w u : World) (a c : ℕ) (change : ℕ → Standing → Standing)
    → u.clocks ≡ map (settled_clock (w.steps + 1)) (moved a change w.clocks)
    → u.steps ≡ w.steps + 1 → GoesUp w u c
moved_up w u a c change =
    goes_up w u c (moved a change w.clocks) (as_before w.clocks (moved a change w.clocks) c (moved_marks a change w.clocks c))

go_up : (m : ModuleValue) (w : World) (a c : ℕ) → GoUp w c (step m w a)
go_up m w a c = step_kind (GoUp w c) m w a tt (λ d. tt) (λ act found lives. record {
  closed = λ n some nobody runs. moved_up w _ a c none refl refl;
  over = λ here none'. moved_up w _ a c (all dropped) refl refl;
  arrives = moved_up w _ a c (all resumed) refl refl;
  done = λ next change e goes quiet rests. moved_up w _ a c change refl refl;
  made = λ next goes. goes_up w _ c (w.clocks ++ new_clock (length w.activities) a ∷ [])
      (push_as_before w.clocks (new_clock (length w.activities) a) c refl refl) refl refl;
  stored = λ s n e goes quiet. moved_up w _ a c none refl refl;
  spawned = λ t args values at goes. goes_up w _ c (joined a (is_given values) w.clocks)
      (as_before w.clocks (joined a (is_given values) w.clocks) c (joined_marks a (is_given values) w.clocks c)) refl refl;
})

step_up : (m : ModuleValue) (w u : World) (a c : ℕ) (e : Event) → step m w a ≡ Stepped u e → GoesUp w u c
step_up m w u a c e takes = subst (GoUp w c) takes (go_up m w a c)

-- ---- what others use

-- along a run a phase only grows
pub phase_grows : (m : ModuleValue) (list : List ℕ) (w v : World) (c : ℕ) → run m list w ≡ Through v → phase_of w c ≤ phase_of v c
phase_grows m [] w v c h = let e = ap (λ (z : World). phase_of z c) (same_through w v h) in omega (arith, e)
phase_grows m (a ∷ list) w v c h =
    let x = first_step w v (step m w a) (run m list) h in
    let one = (step_up m w x.0 a c x.1 x.2).grows in
    let rest = phase_grows m list x.0 v c x.3 in
    omega (arith, one, rest)

-- by one in a step at most
pub phase_near : (m : ModuleValue) (w u : World) (a c : ℕ) (e : Event) → step m w a ≡ Stepped u e → phase_of u c ≤ suc (phase_of w c)
phase_near m w u a c e takes = (step_up m w u a c e takes).near

-- where a clock is seen to have advanced in a step, its phase has grown by that
pub phase_advances : (m : ModuleValue) (w u : World) (a c : ℕ) (e : Event) → step m w a ≡ Stepped u e
    → ((k : Clock) → slice_get w.clocks c ≡ Some k → k.last ≤ w.steps)
    → option_map_or (λ (k : Clock). k.last == u.steps) (slice_get u.clocks c) false ≡ true
    → phase_of w c < phase_of u c
phase_advances m w u a c e takes old now =
    (step_up m w u a c e takes).advances (before (slice_get w.clocks c) refl) (behind (slice_get u.clocks c) refl now)
  where
    before : (o : Option Clock) → slice_get w.clocks c ≡ o → last_by (option_map marks o) ≤ w.steps
    before None is = omega arith
    before (Some k) is = old k is

    behind : (o : Option Clock) → slice_get u.clocks c ≡ o → option_map_or (λ (k : Clock). k.last == u.steps) o false ≡ true
        → last_by (option_map marks o) ≡ u.steps
    behind None is h = absurd (true≢false (sym h))
    behind (Some k) is h = eqb-true k.last u.steps h

-- and where its phase has grown it is seen to have advanced
pub phase_shows : (m : ModuleValue) (w u : World) (a c : ℕ) (e : Event) → step m w a ≡ Stepped u e → phase_of w c < phase_of u c
    → option_map_or (λ (k : Clock). k.last == u.steps) (slice_get u.clocks c) false ≡ true
phase_shows m w u a c e takes more = by (slice_get u.clocks c) refl
  where
    by : (o : Option Clock) → slice_get u.clocks c ≡ o → option_map_or (λ (k : Clock). k.last == u.steps) o false ≡ true
    by None is =
        let none : phase_of u c ≡ 0 = ap (λ o. option_map_or (λ (k : Clock). k.phase) o 0) is in absurd (omega (arith, more, none))
    by (Some k) is = eq-eqb k.last u.steps
        (sym (ap (λ o. last_by (option_map marks o)) is) ∙ (step_up m w u a c e takes).shows more)
