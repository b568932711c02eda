-- In each schedule of a class the same steps cause one another, by their names there.
use Rattle.std.proofs.Common.{◌≡◌, ◌∙◌, ℕ, ℤ, suc, ◌+◌, ◌<◌, ◌≤◌, inl, inr, true, false, cond, List, ◌∷◌, ◌++◌, length}
use Rattle.std.proofs.Common.{Some, None, option_map, refl, sym, ap, subst, arith, eq-eqb}
use Rattle.std.specs.Prelude.{slice_get}
use Rattle.std.proofs.lemmas.Bool.{cases_lt}
use Rattle.std.proofs.lemmas.Option.{same_Some}
use Rattle.xk_types.specs.declared.world.Event.TheVariants as event
use Rattle.xk_types.specs.Acceptance.{IsAccepted}
use Rattle.xk_types.specs.Code.{ModuleValue, IsWithinLimits}
use Rattle.xk_types.specs.World.{Activity, World, AreArguments, opening, instruction_at}
use Rattle.xk_types.specs.Step.{Stepped, innermost, is_registered, is_under, step, waits}
use Rattle.xk_types.specs.Schedule.{Through, run, IsReached, is_step}
use Rattle.xk_types.proofs.ListLemmas.{get_inside}
use Rattle.xk_law_schedules.proofs.ReachabilityLemmas.{first_step, opening_reached, reached_run}
use Rattle.xk_law_commute.proofs.ChangeSquareLemmas.{found_of}
use Rattle.xk_law_names.specs.Names.{Exchange, all_named}
use Rattle.xk_law_names.proofs.NameLaw.{clocks_named, clock_there}
use Rattle.xk_law_names.proofs.NamelessLemmas.{finish_named, governed_same, nameless_activity}
use Rattle.xk_law_traces.specs.Classes.{AreJoined, AreOneClass, names_along}
use Rattle.xk_law_traces.specs.Edges.{StepName, turns_of, IsCause, IsPass, IsStart, IsTaken, IsTurn, IsUnderFinish}
use Rattle.xk_law_traces.specs.Edges.{held_in, phase_of, standing_on}
use Rattle.xk_law_traces.specs.Moments.{is_start}
use Rattle.xk_law_traces.specs.OneRun.{GoesAsWell, IsWholeRun}
use Rattle.xk_law_traces.proofs.ClassLemmas.{class_as_well, deeds, same_deeds}
use Rattle.xk_law_traces.proofs.EdgeLaw.{WasTaken, at_turn, by_first, run_behind, turns_on, turns_same, was_taken}
use Rattle.xk_law_traces.proofs.FinishEdgeLaw.{governed_stays, under_taken}
use Rattle.xk_law_traces.proofs.InstructionEventLemmas.{arrived_free, passes_arrived}
use Rattle.xk_law_traces.proofs.StageLemmas.{registered_stage, stage_at, unsignalled_stage}
use Rattle.xk_law_traces.proofs.SwapLemmas.{Deed, State, deed_named, deed_of, get_map, stand_named, stand_of}
use Rattle.xk_law_rounds.proofs.CompleteLaw.{inside_before}
use Rattle.xk_law_rounds.proofs.HoldLemmas.{stage_tells}
use Rattle.xk_law_rounds.proofs.IdleLemmas.{owned_in, under_over}
use Rattle.xk_law_rounds.proofs.RoundLaw.{same_turns}

-- a step that is taken by some steps is one of them
taken_of : (m : ModuleValue) (w : World) (list : List ℕ) (a k : ℕ) → WasTaken m w list a k → k < turns_of a list
taken_of m w list a k r =
    let n = ap (turns_of a) r.whole ∙ turns_on a r.front (a ∷ r.back) in
    let o = turns_same a a r.back (eq-eqb a a refl) in
    let t = r.turn in
    omega (arith, n, o, t)

-- what an activity does by its step
pub deed_at : (m : ModuleValue) (w : World) (list : List ℕ) (a k : ℕ) (r : WasTaken m w list a k)
    → slice_get (deeds m list w a) k ≡ Some (deed_of r.here a r.e)
deed_at m w list a k r =
    ap (slice_get (deeds m list w a)) (sym r.turn)
    ∙ ap (λ l. slice_get (deeds m l w a) (turns_of a r.front)) r.whole
    ∙ at_turn m r.front (a ∷ r.back) w r.here a r.leads
    ∙ ap (λ l. slice_get l 0) (by_first m r.back r.here r.there a r.e a r.takes)
    ∙ ap (λ q. slice_get (cond q (deed_of r.here a r.e ∷ deeds m r.back r.there a) (deeds m r.back r.there a)) 0) (eq-eqb a a refl)

-- the step of a start
abbrev pub start_turn : (m : ModuleValue) (w : World) (s : List ℕ) (x y : StepName) → IsStart m w s x y → WasTaken m w s x.0 x.1
start_turn m w s x y f = record {
  front = f.before;
  back = f.after;
  here = f.here;
  there = f.there;
  e = event.Spawned;
  whole = f.whole;
  leads = f.leads;
  takes = f.starts;
  turn = f.turn;
}

module _ (m : ModuleValue) (args : List ℤ) (limits : IsWithinLimits m) (ok : IsAccepted m) (taken : AreArguments m args)
    (s : List ℕ) (z : World) (one : IsWholeRun m args s z) (t : List ℕ) (member : AreOneClass m (opening m args) s t) where
  abbrev w : World
  w = opening m args

  abbrev xs : List Exchange
  xs = names_along member.between

  -- an activity's number there
  abbrev named : ℕ → ℕ
  named a = all_named xs a

  -- a step by its name there
  abbrev step_named : StepName → StepName
  step_named x = (all_named xs x.0, x.1)

  reached : IsReached m w
  reached = opening_reached m args taken

  g : GoesAsWell m w s t member z
  g = class_as_well m limits ok w z reached s t member one.legal

  -- ---- a step in both

  abbrev Here : StepName → Type 0
  Here x = WasTaken m w s x.0 x.1

  abbrev There : StepName → Type 0
  There x = WasTaken m w t (named x.0) x.1

  there_of : (x : StepName) → IsTaken s x → There x
  there_of x h = was_taken m t w g.last (named x.0) x.1 g.legal
      (let n = same_turns m args limits ok taken s t z one member x.0 in omega (arith, n, h))

  abbrev here_of : (x : StepName) → IsTurn m w s x → Here x
  here_of x r =
      let rest : run m (x.0 ∷ r.after) r.here ≡ Through z =
      sym (run_behind m r.before (x.0 ∷ r.after) w r.here r.leads) ∙ ap (λ l. run m l w) (sym r.whole) ∙ one.legal in
      let u = first_step r.here z (step m r.here x.0) (run m r.after) rest in
      record {
        front = r.before;
        back = r.after;
        here = r.here;
        there = u.0;
        e = u.1;
        whole = r.whole;
        leads = r.leads;
        takes = u.2;
        turn = r.turn;
      }

  same_deed : (x : StepName) (p : Here x) (q : There x) → deed_of q.here (named x.0) q.e ≡ deed_named xs (deed_of p.here x.0 p.e)
  same_deed x p q = same_Some (deed_of q.here (named x.0) q.e) (deed_named xs (deed_of p.here x.0 p.e))
      (sym (deed_at m w t (named x.0) x.1 q)
      ∙ ap (λ l. slice_get l x.1) (same_deeds m limits ok w z reached s t member one.legal x.0)
      ∙ get_map (deed_named xs) (deeds m s w x.0) x.1
      ∙ ap (option_map (deed_named xs)) (deed_at m w s x.0 x.1 p))

  same_event : (x : StepName) (p : Here x) (q : There x) → q.e ≡ p.e
  same_event x p q = ap (λ (d : Deed). d.0) (same_deed x p q)

  same_stand : (x : StepName) (p : Here x) (q : There x) → stand_of q.here (named x.0) ≡ stand_named xs (stand_of p.here x.0)
  same_stand x p q = ap (λ (d : Deed). d.1) (same_deed x p q)

  same_child : (x : StepName) (p : Here x) (q : There x)
      → cond (is_start q.e) (Some (length q.here.activities)) None
      ≡ option_map named (cond (is_start p.e) (Some (length p.here.activities)) None)
  same_child x p q = ap (λ (d : Deed). d.2) (same_deed x p q)

  same_stage : (x : StepName) (p : Here x) (q : There x) (k : ℕ)
      → stage_at q.here (clocks_named xs k) (named x.0) ≡ stage_at p.here k x.0
  same_stage x p q k =
      ap (λ (st : State). st.1 (clocks_named xs k)) (same_stand x p q) ∙ ap (λ j. stage_at p.here j x.0) (clock_there xs k)

  -- ---- a start

  module _ (x y : StepName) (f : IsStart m w s x y) where
    abbrev starter : Here x
    starter = start_turn m w s x y f

    starter_there : There x
    starter_there = there_of x (taken_of m w s x.0 x.1 starter)

    starts : starter_there.e ≡ event.Spawned
    starts = same_event x starter starter_there

    pub start_there : IsStart m w t (step_named x) (step_named y)
    start_there = record {
      before = starter_there.front;
      after = starter_there.back;
      here = starter_there.here;
      there = starter_there.there;
      whole = starter_there.whole;
      leads = starter_there.leads;
      turn = starter_there.turn;
      starts = starter_there.takes ∙ ap (Stepped starter_there.there) starts;
      child = ap named f.child ∙ sym (same_Some (length starter_there.here.activities) (named (length f.here.activities))
          (ap (λ e. cond (is_start e) (Some (length starter_there.here.activities)) None) (sym starts)
          ∙ same_child x starter starter_there));
      first = f.first;
    }

  -- ---- a pass

  module _ (x y : StepName) (f : IsPass m w s x y) where
    abbrev k : ℕ
    k = clocks_named xs f.clock

    abbrev p : Here x
    p = here_of x f.first

    abbrev r : Here y
    r = record {
      front = f.second.before;
      back = f.second.after;
      here = f.second.here;
      there = f.there;
      e = event.Passed;
      whole = f.second.whole;
      leads = f.second.leads;
      takes = f.passes;
      turn = f.second.turn;
    }

    q : There x
    q = there_of x (taken_of m w s x.0 x.1 p)

    u : There y
    u = there_of y (taken_of m w s y.0 y.1 r)

    passes : step m u.here (named y.0) ≡ Stepped u.there event.Passed
    passes = u.takes ∙ ap (Stepped u.there) (same_event y r u)

    -- whoever passes waits for no clock
    free : waits u.here (named y.0) ≡ false
    free =
        let act = found_of m u.here (named y.0) u.there event.Passed passes in
        arrived_free m u.here (named y.0) act.0 act.1 (passes_arrived m u.here u.there (named y.0) act.0 passes act.1) (ap is_step passes)

    -- the phase in which an activity holds a clock
    abbrev held : World → ℕ → ℕ → ℕ
    held v a c = held_in (phase_of v c) (standing_on v a c)

    -- who waits stands in its phase
    waiting : (suc (phase_of f.second.here f.clock + phase_of f.second.here f.clock) ≤ stage_at u.here k (named y.0))
        × (stage_at u.here k (named y.0) ≤ suc (suc (phase_of f.second.here f.clock + phase_of f.second.here f.clock)))
    waiting = subst (λ n. (suc (phase_of f.second.here f.clock + phase_of f.second.here f.clock) ≤ n)
        × (n ≤ suc (suc (phase_of f.second.here f.clock + phase_of f.second.here f.clock))))
        (sym (same_stage y r u f.clock)) ((stage_tells f.second.here f.clock y.0).awaited f.awaited)

    most : stage_at u.here k (named y.0) ≤ suc (suc (phase_of u.here k + phase_of u.here k))
    most = unsignalled_stage u.here.clocks k (named y.0) free

    least : suc (phase_of u.here k + phase_of u.here k) ≤ stage_at u.here k (named y.0)
    least = registered_stage u.here.clocks k (named y.0) (let a = waiting in omega (arith, a))

    same_phase : phase_of u.here k ≡ phase_of f.second.here f.clock
    same_phase = let a = waiting in let b = most in let c = least in omega (arith, a, b, c)

    -- who is waited for holds it in the same phase
    holds : (0 < stage_at q.here k (named x.0))
        × (suc (held f.first.here x.0 f.clock + held f.first.here x.0 f.clock) ≤ stage_at q.here k (named x.0))
        × (stage_at q.here k (named x.0) ≤ suc (suc (held f.first.here x.0 f.clock + held f.first.here x.0 f.clock)))
    holds =
        let tells = stage_tells f.first.here f.clock x.0 in
        let some = tells.some f.registered in
        let h = tells.holds some in
        subst (λ n. (0 < n) × (suc (held f.first.here x.0 f.clock + held f.first.here x.0 f.clock) ≤ n)
        × (n ≤ suc (suc (held f.first.here x.0 f.clock + held f.first.here x.0 f.clock))))
        (sym (same_stage x p q f.clock)) (some, h.1, h.2)

    holds_there : (is_registered (standing_on q.here (named x.0) k) ≡ true)
        × (suc (held q.here (named x.0) k + held q.here (named x.0) k) ≤ stage_at q.here k (named x.0))
    holds_there = let h = (stage_tells q.here k (named x.0)).holds holds.0 in (h.0, h.1)

    pass_there : IsPass m w t (step_named x) (step_named y)
    pass_there = record {
      first = record { before = q.front; after = q.back; here = q.here; whole = q.whole; leads = q.leads; turn = q.turn };
      second = record { before = u.front; after = u.back; here = u.here; whole = u.whole; leads = u.leads; turn = u.turn };
      clock = k;
      registered = holds_there.0;
      there = u.there;
      passes = passes;
      awaited = (stage_tells u.here k (named y.0)).awaits least most;
      advanced = (let a = holds in let b = holds_there.1 in let c = f.advanced in let d = same_phase in omega (arith, a, b, c, d));
    }

  -- ---- a finish

  module _ (x y : StepName) (f : IsUnderFinish m w s x y) where
    abbrev o : Here y
    o = record {
      front = f.before;
      back = f.after;
      here = f.here;
      there = f.there;
      e = f.closed;
      whole = f.whole;
      leads = f.leads;
      takes = f.takes;
      turn = f.turn;
    }

    v : There y
    v = there_of y (taken_of m w s y.0 y.1 o)

    closer : (act : Activity) × (slice_get v.here.activities (named y.0) ≡ Some act)
    closer = found_of m v.here (named y.0) v.there v.e v.takes

    same_closer : nameless_activity closer.0 ≡ nameless_activity f.closer
    same_closer = same_Some (nameless_activity closer.0) (nameless_activity f.closer)
        (sym (ap (option_map nameless_activity) closer.1) ∙ ap (λ (st : State). st.0) (same_stand y o v)
        ∙ ap (option_map nameless_activity) f.found)

    -- the other has taken its step there, too
    before_there : IsTaken v.front (step_named x)
    before_there =
        let same : AreOneClass m w s (v.front ++ (named y.0 ∷ v.back)) =
        record { between = member.between; joined = subst (AreJoined m w s member.between) v.whole member.joined } in
        under_taken m args limits ok taken s z one.legal one.ended x y f v.front (named y.0 ∷ v.back) v.here same v.leads v.turn
        (ap is_step v.takes)

    inside : named x.0 < length v.here.activities
    inside = elim (cases_lt (named x.0) (length v.here.activities)) [
      | inl less ↦ less
      | inr above ↦ absurd (let none = inside_before m v.front w v.here (named x.0) v.leads above in
          let some = before_there in omega (arith, none, some))
    ]

    child : (act : Activity) × (slice_get v.here.activities (named x.0) ≡ Some act)
    child = get_inside v.here.activities (named x.0) inside

    end : run m (y.0 ∷ f.after) f.here ≡ Through z
    end = sym (run_behind m f.before (y.0 ∷ f.after) w f.here f.leads) ∙ ap (λ l. run m l w) (sym f.whole) ∙ one.legal

    rest : run m (named y.0 ∷ v.back) v.here ≡ Through g.last
    rest = sym (run_behind m v.front (named y.0 ∷ v.back) w v.here v.leads) ∙ ap (λ l. run m l w) (sym v.whole) ∙ g.legal

    -- who is in both is governed by the same, by its owner's number there
    same_governed : (n : ℕ) (i j : Activity) → slice_get f.here.activities n ≡ Some i → slice_get v.here.activities (named n) ≡ Some j
        → j.governed ≡ finish_named xs i.governed
    same_governed n i j hi hj =
        let a = governed_stays m (y.0 ∷ f.after) f.here z n i end hi in
        let b = governed_stays m (named y.0 ∷ v.back) v.here g.last (named n) j rest hj in
        let both : b.0.governed ≡ finish_named xs a.0.governed =
        same_Some b.0.governed (finish_named xs a.0.governed)
        (sym (ap (option_map (λ (act : Activity). act.governed)) b.1) ∙ governed_same xs z g.last n g.alike
        ∙ ap (λ c. option_map (finish_named xs) (option_map (λ (act : Activity). act.governed) c)) a.1) in
        sym b.2 ∙ both ∙ ap (finish_named xs) a.2

    under : is_under v.here.activities (innermost (named y.0) closer.0) (named x.0) ≡ true
    under =
        ap (λ (act : Activity). is_under v.here.activities (innermost (named y.0) act) (named x.0)) same_closer
        ∙ under_over f.here.activities v.here.activities
        (owned_in m limits ok f.here (reached_run m f.before w f.here reached f.leads))
        (owned_in m limits ok v.here (reached_run m v.front w v.here reached v.leads))
        named (finish_named xs) (λ h c own. ap (option_map named) own) same_governed
        (innermost y.0 f.closer) (suc x.0) x.0 (omega arith) inside f.child f.known f.under

    finish_there : IsUnderFinish m w t (step_named x) (step_named y)
    finish_there = record {
      before = v.front;
      after = v.back;
      here = v.here;
      there = v.there;
      closed = v.e;
      whole = v.whole;
      leads = v.leads;
      turn = v.turn;
      takes = v.takes;
      closer = closer.0;
      found = closer.1;
      first = f.first;
      closes = ap (λ (act : Activity). instruction_at m act.frame) same_closer ∙ f.closes;
      child = child.0;
      known = child.1;
      under = under;
      taken = (let n = same_turns m args limits ok taken s t z one member x.0 in let h = f.taken in omega (arith, n, h));
    }

  -- ---- the law

  pub cause_there : (x y : StepName) → IsCause m w s x y → IsCause m w t (step_named x) (step_named y)
  cause_there x y (inl (inl f)) = inl (inl (start_there x y f))
  cause_there x y (inl (inr f)) = inl (inr (finish_there x y f))
  cause_there x y (inr f) = inr (pass_there x y f)
