-- Of a step the same deeds that wait or let go are told as for races, those that wait before the step itself, the others behind it.
use Rattle.std.proofs.Common.{◌≡◌, ◌∙◌, ℕ, zero, suc, ◌+◌, ◌<◌, ◌⊎◌, inl, inr, Bool, true, false, true≢false, ◌||◌, cond, List, []}
use Rattle.std.proofs.Common.{◌∷◌, ◌++◌}
use Rattle.std.proofs.Common.{length, filter, Some, refl, sym, ap, subst, length-append, arith, if◌then◌else◌}
use Rattle.std.specs.Prelude.{flat_map, slice_get}
use Rattle.std.proofs.lemmas.List.{append-nil}
use Rattle.std.proofs.lemmas.List.Elements.{filter-append}
use Rattle.std.proofs.lemmas.Option.{none-some, same_Some}
use Rattle.xk_types.specs.declared.world.Event.{Event}
use Rattle.xk_types.specs.declared.world.Event.TheVariants as event
use Rattle.xk_types.specs.Code.{ModuleValue}
use Rattle.xk_types.specs.World.{World}
use Rattle.xk_types.specs.Step.{Blocked, Outcome, Stepped, Wrong, step}
use Rattle.xk_types.proofs.ListLemmas.{get-append_left}
use Rattle.xk_show_events.specs.declared.steps.RunStep.{RunStep}
use Rattle.xk_show_events.specs.Steps.{run_step, told, told_on}
use Rattle.xk_races.specs.declared.deeds.Deed.{Deed}
use Rattle.xk_races.specs.declared.deeds.Part.{Part}
use Rattle.xk_races.specs.declared.deeds.Part.TheVariants as part
use Rattle.xk_races.specs.Deeds.{awaiting, deed, pass, tell_deeds}
use Rattle.xk_law_races.proofs.DeedPartLemmas.{Says, is_pass, part_is}
use Rattle.xk_law_races.proofs.TurnLemmas.{Turn, get_right, get_split}
use Rattle.xk_span.specs.Steps.{if_lets_go, if_waits, lets_go, tell_step, waits}
use Rattle.xk_law_work.proofs.TiedLemmas.{is_tied, tied}

-- ---- those that pass a test

abbrev if_so : (Part → Bool) → Deed → List Deed
if_so test d = if test d.part then d ∷ [] else []

-- one of them passes it, and is one of all
in_if : (test : Part → Bool) (ds : List Deed) (i : ℕ) (d : Deed) → slice_get (flat_map (if_so test) ds) i ≡ Some d
    → (test d.part ≡ true) × ((j : ℕ) × (slice_get ds j ≡ Some d))
in_if test [] i d at = absurd (none-some d at)
in_if test (x ∷ ds) i d at = by (test x.part) refl i at (λ k g. in_if test ds k d g)
  where
    by : (b : Bool) → test x.part ≡ b → (i : ℕ) → slice_get ((if b then x ∷ [] else []) ++ flat_map (if_so test) ds) i ≡ Some d
        → ((k : ℕ) → slice_get (flat_map (if_so test) ds) k ≡ Some d → (test d.part ≡ true) × ((j : ℕ) × (slice_get ds j ≡ Some d)))
        → (test d.part ≡ true) × ((j : ℕ) × (slice_get (x ∷ ds) j ≡ Some d))
    by true e zero h rest = (ap (λ (c : Deed). test c.part) (sym (same_Some x d h)) ∙ e, (0, h))
    by true e (suc i) h rest = let r = rest i h in (r.0, (suc r.1.0, r.1.1))
    by false e i h rest = let r = rest i h in (r.0, (suc r.1.0, r.1.1))

abbrev Each : (Deed → Type 0) → List Deed → Type 0
Each P ds = (i : ℕ) (d : Deed) → slice_get ds i ≡ Some d → P d

-- none where none passes it
none_if : (test : Part → Bool) (ds : List Deed) → Each (λ d. test d.part ≡ false) ds → flat_map (if_so test) ds ≡ []
none_if test [] none = refl
none_if test (x ∷ ds) none = by (test x.part) (none 0 x refl) (none_if test ds (λ i d at. none (suc i) d at))
  where
    by : (b : Bool) → b ≡ false → flat_map (if_so test) ds ≡ [] → (if b then x ∷ [] else []) ++ flat_map (if_so test) ds ≡ []
    by true e rest = absurd (true≢false e)
    by false e rest = rest

-- the same ones are tied where that is the test
all_if : (test : Part → Bool) (ds : List Deed) → Each (λ d. is_tied d.part ≡ test d.part) ds
    → filter tied (flat_map (if_so test) ds) ≡ filter tied ds
all_if test [] same = refl
all_if test (x ∷ ds) same = by (test x.part) (same 0 x refl) (all_if test ds (λ i d at. same (suc i) d at))
  where
    by : (b : Bool) → is_tied x.part ≡ b → filter tied (flat_map (if_so test) ds) ≡ filter tied ds
        → filter tied ((if b then x ∷ [] else []) ++ flat_map (if_so test) ds) ≡ cond (is_tied x.part) (x ∷ filter tied ds) (filter tied ds)
    by true e rest = ap (λ l. cond (is_tied x.part) (x ∷ l) l) rest
    by false e rest = rest ∙ sym (ap (λ q. cond q (x ∷ filter tied ds) (filter tied ds)) e)

-- ---- a step

is_close : Event → Bool
is_close event.Closed = true
is_close _ = false

module _ (m : ModuleValue) (w v : World) (a : ℕ) where
  abbrev deeds_of : Event → List Deed
  deeds_of e = tell_deeds m a w v e

  abbrev itself : Event → Deed
  itself e = deed (run_step a w v e) part.Print

  -- those before the step itself, and behind it
  both_sides : (e : Event) → filter tied (tell_step m a w v e)
      ≡ filter tied (flat_map if_waits (deeds_of e)) ++ filter tied (flat_map if_lets_go (deeds_of e))
  both_sides e =
      filter-append tied (flat_map if_waits (deeds_of e) ++ itself e ∷ []) (flat_map if_lets_go (deeds_of e))
      ∙ ap (λ l. l ++ filter tied (flat_map if_lets_go (deeds_of e)))
      (filter-append tied (flat_map if_waits (deeds_of e)) (itself e ∷ []) ∙ append-nil (filter tied (flat_map if_waits (deeds_of e))))

  -- where none waits
  none_waits : (e : Event) → Each (λ d. waits d.part ≡ false) (deeds_of e) → filter tied (tell_step m a w v e) ≡ filter tied (deeds_of e)
  none_waits e none =
      both_sides e ∙ ap (λ l. filter tied l ++ filter tied (flat_map if_lets_go (deeds_of e))) (none_if waits (deeds_of e) none)
      ∙ all_if lets_go (deeds_of e) (λ i d at. ap (λ b. b || lets_go d.part) (none i d at))

  says : (e : Event) → step m w a ≡ Stepped v e → (i : ℕ) (d : Deed) → slice_get (deeds_of e) i ≡ Some d
      → Says m (run_step a w v e) w v e i d.part
  says e takes i d at =
      let t : Turn m w (a ∷ []) =
      record { before = []; after = []; act = a; here = w; there = v; e = e; whole = refl; leads = refl; takes = takes } in
      (part_is m w (a ∷ []) t i d (record { offset = i; number = omega arith; among = at })).1

  waits_not : (e : Event) (i : ℕ) (p : Part) → is_pass e ≡ false → is_close e ≡ false → Says m (run_step a w v e) w v e i p
      → waits p ≡ false
  unfolding is_close
  waits_not e i (part.Pass c) h g s = absurd (true≢false (sym (ap is_pass s.0) ∙ h))
  waits_not e i part.Close h g s = absurd (true≢false (sym (ap is_close s.0) ∙ g))
  waits_not e i (part.Start b) h g s = refl
  waits_not e i (part.Signal c) h g s = refl
  waits_not e i (part.Leave c) h g s = refl
  waits_not e i (part.Advance c) h g s = refl
  waits_not e i part.Open h g s = refl
  waits_not e i part.End h g s = refl
  waits_not e i (part.Access x) h g s = refl
  waits_not e i part.Print h g s = refl

  others : (e : Event) → step m w a ≡ Stepped v e → is_pass e ≡ false → is_close e ≡ false
      → filter tied (tell_step m a w v e) ≡ filter tied (deeds_of e)
  others e takes h g = none_waits e (λ i d at. waits_not e i d.part h g (says e takes i d at))

  -- those of a pass
  passes : (s : RunStep) (cs : List ℕ) → Each (λ d. (waits d.part ≡ true) × (lets_go d.part ≡ false)) (flat_map (pass s) cs)
  passes s [] i d at = absurd (none-some d at)
  passes s (c ∷ cs) zero d at =
      subst (λ (x : Deed). (waits x.part ≡ true) × (lets_go x.part ≡ false)) (same_Some (deed s (part.Pass c)) d at) (refl, refl)
  passes s (c ∷ cs) (suc i) d at = passes s cs i d at

  passed : filter tied (tell_step m a w v event.Passed) ≡ filter tied (deeds_of event.Passed)
  passed =
      let each = passes (run_step a w v event.Passed) (awaiting w a) in
      both_sides event.Passed
      ∙ ap (λ l. filter tied (flat_map if_waits (deeds_of event.Passed)) ++ filter tied l)
      (none_if lets_go (deeds_of event.Passed) (λ i d at. (each i d at).1))
      ∙ append-nil (filter tied (flat_map if_waits (deeds_of event.Passed)))
      ∙ all_if waits (deeds_of event.Passed)
      (λ i d at. ap (λ b. b || lets_go d.part) (each i d at).0 ∙ sym (each i d at).0)

  step_tied : (e : Event) → step m w a ≡ Stepped v e → filter tied (tell_step m a w v e) ≡ filter tied (deeds_of e)
  unfolding is_close
  step_tied event.Passed takes = passed
  step_tied event.Closed takes = refl
  step_tied event.Local takes = others event.Local takes refl refl
  step_tied (event.Printed n) takes = others (event.Printed n) takes refl refl
  step_tied event.Made takes = others event.Made takes refl refl
  step_tied event.Got takes = others event.Got takes refl refl
  step_tied event.Put takes = others event.Put takes refl refl
  step_tied event.Added takes = others event.Added takes refl refl
  step_tied event.Opened takes = others event.Opened takes refl refl
  step_tied event.Spawned takes = others event.Spawned takes refl refl
  step_tied event.Resumed takes = others event.Resumed takes refl refl
  step_tied event.Dropped takes = others event.Dropped takes refl refl
  step_tied event.Arrived takes = others event.Arrived takes refl refl
  step_tied event.Ended takes = others event.Ended takes refl refl

  -- ---- where each stands

  -- how many wait
  abbrev pub waiting : Event → ℕ
  waiting e = length (flat_map if_waits (deeds_of e))

  -- deed number i of a step, which is d
  pub data Place (e : Event) (i : ℕ) (d : Deed) : Type 0 where
    Front : i < waiting e → waits d.part ≡ true → (j : ℕ) → slice_get (deeds_of e) j ≡ Some d → Place e i d
    Mid : i ≡ waiting e → itself e ≡ d → Place e i d
    Back : waiting e < i → lets_go d.part ≡ true → (j : ℕ) → slice_get (deeds_of e) j ≡ Some d → Place e i d

  pub place_of : (e : Event) (i : ℕ) (d : Deed) → slice_get (tell_step m a w v e) i ≡ Some d → Place e i d
  place_of e i d at = by (get_split (flat_map if_waits (deeds_of e) ++ itself e ∷ []) (flat_map if_lets_go (deeds_of e)) i d at)
    where
      mid : (j : ℕ) → i ≡ waiting e + j → slice_get (itself e ∷ []) j ≡ Some d → Place e i d
      mid zero is h = Mid (omega (arith, is)) (same_Some (itself e) d h)
      mid (suc j) is h = absurd (none-some d h)

      front : ((i < waiting e) × (slice_get (flat_map if_waits (deeds_of e)) i ≡ Some d))
          ⊎ ((j : ℕ) × (i ≡ waiting e + j) × (slice_get (itself e ∷ []) j ≡ Some d)) → Place e i d
      front (inl p) = let r = in_if waits (deeds_of e) i d p.1 in Front p.0 r.0 r.1.0 r.1.1
      front (inr p) = mid p.0 p.1 p.2

      by : ((i < length (flat_map if_waits (deeds_of e) ++ itself e ∷ []))
          × (slice_get (flat_map if_waits (deeds_of e) ++ itself e ∷ []) i ≡ Some d))
          ⊎ ((j : ℕ) × (i ≡ length (flat_map if_waits (deeds_of e) ++ itself e ∷ []) + j)
          × (slice_get (flat_map if_lets_go (deeds_of e)) j ≡ Some d))
          → Place e i d
      by (inl p) = front (get_split (flat_map if_waits (deeds_of e)) (itself e ∷ []) i d p.1)
      by (inr p) =
          let r = in_if lets_go (deeds_of e) p.0 d p.2 in
          let n = length-append (flat_map if_waits (deeds_of e)) (itself e ∷ []) in
          let is = p.1 in
          Back (omega (arith, n, is)) r.0 r.1.0 r.1.1

  -- the step itself
  pub stands_mid : (e : Event) → slice_get (tell_step m a w v e) (waiting e) ≡ Some (itself e)
  stands_mid e =
      let n : waiting e ≡ waiting e + 0 = omega arith in
      get-append_left (flat_map if_waits (deeds_of e) ++ itself e ∷ []) (flat_map if_lets_go (deeds_of e)) (waiting e) (itself e)
      (ap (slice_get (flat_map if_waits (deeds_of e) ++ itself e ∷ [])) n ∙ get_right (flat_map if_waits (deeds_of e)) (itself e ∷ []) 0)

-- ---- a run

pub run_tied : (m : ModuleValue) (s : List ℕ) (w : World) → filter tied (told (tell_step m) m s w) ≡ filter tied (told (tell_deeds m) m s w)
run_tied m [] w = refl
run_tied m (a ∷ s) w = by (step m w a) refl (run_tied m s)
  where
    by : (o : Outcome) → step m w a ≡ o → ((v : World) → filter tied (told (tell_step m) m s v) ≡ filter tied (told (tell_deeds m) m s v))
        → filter tied (told_on (tell_step m) a w o (told (tell_step m) m s))
        ≡ filter tied (told_on (tell_deeds m) a w o (told (tell_deeds m) m s))
    by Blocked is rest = refl
    by (Wrong c) is rest = refl
    by (Stepped v e) is rest =
        filter-append tied (tell_step m a w v e) (told (tell_step m) m s v)
        ∙ ap (λ l. l ++ filter tied (told (tell_step m) m s v)) (step_tied m w v a e is)
        ∙ ap (λ l. filter tied (tell_deeds m a w v e) ++ l) (rest v)
        ∙ sym (filter-append tied (tell_deeds m a w v e) (told (tell_deeds m) m s v))
