-- A pass comes after what its activity waited for: an edge that is sound. For who passes in a phase has come as far on the clock in each
-- schedule of the class, and so has who was waited for, when it takes that step. Before the pass the clock has advanced in each of them
-- beyond the phase in which that one holds it, and it never goes back: so one that took the step later would have come further.
use Rattle.std.proofs.Common.{◌≡◌, ℕ, ℤ, suc, ◌+◌, ◌-◌, ◌<◌, ◌≤◌, inl, inr, true, false, cond, List, [], ◌∷◌, ◌++◌, Some, option_map, refl, sym, ap, ◌∙◌, subst, append_assoc, eq-eqb, arith}
use Rattle.std.specs.Prelude.{slice_get}
use Rattle.std.proofs.lemmas.Bool.{cases_lt}
use Rattle.std.proofs.lemmas.Option.{same_Some}
use Rattle.xk_types.specs.declared.world.Status.TheVariants as status
use Rattle.xk_types.specs.Acceptance.{IsAccepted}
use Rattle.xk_types.specs.Code.{ModuleValue, IsWithinLimits}
use Rattle.xk_types.specs.World.{Activity, World, AreArguments, opening}
use Rattle.xk_types.specs.Step.{waits, step}
use Rattle.xk_types.specs.Schedule.{Through, run, IsReached, is_step, is_enabled, all_ended}
use Rattle.xk_law_schedules.proofs.ReachabilityLemmas.{same_through, first_step, reached_step, opening_reached}
use Rattle.xk_law_commute.proofs.ChangeSquareLemmas.{found_of}
use Rattle.xk_law_commute.proofs.QuietStepLaw.{enabled_step}
use Rattle.xk_law_names.specs.Names.{Exchange}
use Rattle.xk_law_names.proofs.NameLaw.{clocks_named, clock_there}
use Rattle.xk_law_names.proofs.NamelessLemmas.{nameless_activity}
use Rattle.xk_law_traces.specs.Classes.{AreJoined, AreOneClass, names_along, name_in}
use Rattle.xk_law_traces.specs.Edges.{StepName, turns_of, IsTaken, IsEdge, AreSound, IsTurn, standing_on, phase_of, held_in, IsPass, IsCause}
use Rattle.xk_law_traces.specs.OneRun.{GoesAsWell}
use Rattle.xk_law_traces.proofs.InstructionEventLemmas.{passes_arrived, arrived_free}
use Rattle.xk_law_traces.proofs.StageLemmas.{stage_at, moves_on, held_stage, pending_stage, registered_stage, unsignalled_stage}
use Rattle.xk_law_traces.proofs.SwapLemmas.{State, stand_of, stand_named, deed_of, reached_run}
use Rattle.xk_law_traces.proofs.ClassLemmas.{deeds, class_as_well}
use Rattle.xk_law_traces.proofs.EdgeLaw.{turns_on, turns_same, WasTaken, was_taken, run_behind, by_first, at_turn, state_in, stands}
use Rattle.xk_law_traces.proofs.StartEdgeLaw.{turns_all, start_taken}
use Rattle.xk_law_traces.proofs.FinishEdgeLaw.{under_taken}

-- no clock goes back
phases_rise : (m : ModuleValue) → IsWithinLimits m → IsAccepted m → (list : List ℕ) (w v : World) (k : ℕ) → IsReached m w
    → run m list w ≡ Through v
    → phase_of w k ≤ phase_of v k
phases_rise m limits ok [] w v k reached legal = subst (λ z. phase_of w k ≤ phase_of z k) (same_through w v legal) (omega arith)
phases_rise m limits ok (d ∷ list) w v k reached legal =
    let x = first_step w v (step m w d) (run m list) legal in
    let here : phase_of w k ≤ phase_of x.0 k = (moves_on m limits ok w x.0 d x.1 reached x.2).phases k in
    let rest : phase_of x.0 k ≤ phase_of v k = phases_rise m limits ok list x.0 v k (reached_step m w x.0 d x.1 reached x.2) x.3 in
    omega arith

module _ (m : ModuleValue) (args : List ℤ) (limits : IsWithinLimits m) (ok : IsAccepted m) (taken : AreArguments m args)
    (s : List ℕ) (z : World)
    (legal : run m s (opening m args) ≡ Through z) (over : all_ended z ≡ true) where
  abbrev w : World
  w = opening m args

  reached : IsReached m w
  reached = opening_reached m args taken

  -- how one stands that takes a step of the schedule
  turn_stands : (x : StepName) (t : IsTurn m w s x) → state_in (slice_get (deeds m s w x.0) x.1) ≡ Some (stand_of t.here x.0)
  turn_stands x t =
      let rest : run m (x.0 ∷ t.after) t.here ≡ Through z =
      sym (run_behind m t.before (x.0 ∷ t.after) w t.here t.leads) ∙ ap (λ l. run m l w) (sym t.whole) ∙ legal in
      let u = first_step t.here z (step m t.here x.0) (run m t.after) rest in
      ap (λ k. state_in (slice_get (deeds m s w x.0) k)) (sym t.turn)
      ∙ ap (λ l. state_in (slice_get (deeds m l w x.0) (turns_of x.0 t.before))) t.whole
      ∙ ap state_in (at_turn m t.before (x.0 ∷ t.after) w t.here x.0 t.leads)
      ∙ ap (λ l. state_in (slice_get l 0)) (by_first m t.after t.here u.0 x.0 u.1 x.0 u.2)
      ∙ ap (λ q. state_in (slice_get (cond q (deed_of t.here x.0 u.1 ∷ deeds m t.after u.0 x.0) (deeds m t.after u.0 x.0)) 0))
      (eq-eqb x.0 x.0 refl)

  -- it stands so in the whole class, by the numbers there
  same_turn : (x : StepName) (t : IsTurn m w s x) (before after : List ℕ) (v : World) (member : AreOneClass m w s (before ++ after))
      → run m before w ≡ Through v
      → turns_of (name_in member x.0) before ≡ x.1 → is_enabled m v (name_in member x.0) ≡ true
      → stand_named (names_along member.between) (stand_of t.here x.0) ≡ stand_of v (name_in member x.0)
  same_turn x t before after v member leads turn enabled =
      let xs : List Exchange = names_along member.between in
      same_Some (stand_named xs (stand_of t.here x.0)) (stand_of v (name_in member x.0))
      (sym (ap (option_map (stand_named xs)) (turn_stands x t))
      ∙ ap (λ k. option_map (stand_named xs) (state_in (slice_get (deeds m s w x.0) k))) (sym turn)
      ∙ stands m limits ok w z reached s legal over before after v member leads x.0 enabled)

  module _ (x y : StepName) (f : IsPass m w s x y) (before after : List ℕ) (v : World) (member : AreOneClass m w s (before ++ after))
      (leads : run m before w ≡ Through v)
      (turn : turns_of (name_in member y.0) before ≡ y.1) (enabled : is_enabled m v (name_in member y.0) ≡ true) where
    abbrev xs : List Exchange
    xs = names_along member.between

    -- the clock's number there
    abbrev clock : ℕ
    clock = clocks_named xs f.clock

    -- who stands so is at the same stage on the clock
    same_stage : (u r : World) (a : ℕ) → stand_named xs (stand_of u a) ≡ stand_of r (name_in member a)
        → stage_at u f.clock a ≡ stage_at r clock (name_in member a)
    same_stage u r a h = ap (λ k. stage_at u k a) (sym (clock_there xs f.clock)) ∙ ap (λ (st : State). st.1 clock) h

    same_pass : stand_named xs (stand_of f.second.here y.0) ≡ stand_of v (name_in member y.0)
    same_pass = same_turn y f.second before after v member leads turn enabled

    -- whoever passes waits for no clock
    free : waits v (name_in member y.0) ≡ false
    free =
        let a = found_of m f.second.here y.0 f.there _ f.passes in
        let u = enabled_step (step m v (name_in member y.0)) enabled in
        let b = found_of m v (name_in member y.0) u.0 u.1 u.2 in
        let both : nameless_activity a.0 ≡ nameless_activity b.0 =
        same_Some (nameless_activity a.0) (nameless_activity b.0)
        (sym (ap (option_map nameless_activity) a.1) ∙ ap (λ (t : State). t.0) same_pass ∙ ap (option_map nameless_activity) b.1) in
        let arrived : b.0.status ≡ status.Arrived = sym (ap (λ (t : Activity). t.status) both)
        ∙ passes_arrived m f.second.here f.there y.0 a.0 f.passes a.1 in
        arrived_free m v (name_in member y.0) b.0 b.1 arrived enabled

    -- so the clock has advanced as far
    advanced_there : phase_of f.second.here f.clock ≤ phase_of v clock
    advanced_there =
        let same : stage_at f.second.here f.clock y.0 ≡ stage_at v clock (name_in member y.0) = same_stage f.second.here v y.0 same_pass in
        let least = pending_stage f.second.here.clocks f.clock y.0 f.awaited in
        let most = unsignalled_stage v.clocks clock (name_in member y.0) free in
        half (phase_of f.second.here f.clock) (phase_of v clock) (stage_at f.second.here f.clock y.0)
        (stage_at v clock (name_in member y.0)) same least most
      where
        half : (p q a b : ℕ) → a ≡ b → suc (p + p) ≤ a → b ≤ suc (suc (q + q)) → p ≤ q
        half p q a b h g k = omega arith

    -- the phase in which the first one holds the clock
    abbrev held : ℕ
    held = held_in (phase_of f.first.here f.clock) (standing_on f.first.here x.0 f.clock)

    -- where the first step is still to come, the clock hasn't come further than that
    still_there : turns_of (name_in member x.0) before ≤ x.1 → phase_of v clock ≤ held
    still_there late =
        let c : ℕ = name_in member x.0 in
        let g : GoesAsWell m w s (before ++ after) member z = class_as_well m limits ok w z reached s (before ++ after) member legal in
        let rest : run m after v ≡ Through g.last = sym (run_behind m before after w v leads) ∙ g.legal in
        let many = turns_all m limits ok w z reached s legal before after v member leads x.0 in
        let some = ap (turns_of x.0) f.first.whole ∙ turns_on x.0 f.first.before (x.0 ∷ f.first.after) in
        let one = turns_same x.0 x.0 f.first.after (eq-eqb x.0 x.0 refl) in
        let named = f.first.turn in
        let k : ℕ = x.1 - turns_of c before in
        let r : WasTaken m v after c k = was_taken m after v g.last c k rest (omega arith) in
        let whole : before ++ after ≡ (before ++ r.front) ++ (c ∷ r.back) = ap (λ l. before ++ l) r.whole
        ∙ sym (append_assoc before r.front (c ∷ r.back)) in
        let same_class : AreOneClass m w s ((before ++ r.front) ++ (c ∷ r.back)) =
        record { between = member.between; joined = subst (AreJoined m w s member.between) whole member.joined } in
        let there : run m (before ++ r.front) w ≡ Through r.here = run_behind m before r.front w v leads ∙ r.leads in
        let turns : turns_of c (before ++ r.front) ≡ x.1 = (let n = turns_on c before r.front in let o = r.turn in omega arith) in
        let same : stand_named xs (stand_of f.first.here x.0) ≡ stand_of r.here c =
        same_turn x f.first (before ++ r.front) (c ∷ r.back) r.here same_class there turns (ap is_step r.takes) in
        let stage : stage_at f.first.here f.clock x.0 ≡ stage_at r.here clock c = same_stage f.first.here r.here x.0 same in
        let rise = phases_rise m limits ok r.front v r.here clock (reached_run m before w v reached leads) r.leads in
        let p = held_stage f.first.here.clocks f.clock x.0 f.registered in
        let least = registered_stage r.here.clocks clock c
        (some_stage (stage_at f.first.here f.clock x.0) (stage_at r.here clock c) stage p.0) in
        half (phase_of v clock) (phase_of r.here clock) held (stage_at f.first.here f.clock x.0)
        (stage_at r.here clock c) rise stage p.1 least
      where
        some_stage : (a b : ℕ) → a ≡ b → 0 < a → 0 < b
        some_stage a b h g = omega arith

        half : (v r h a b : ℕ) → v ≤ r → a ≡ b → a ≤ suc (suc (h + h)) → suc (r + r) ≤ b → v ≤ h
        half v r h a b f g k l = omega arith

    pub pass_taken : IsTaken before (name_in member x.0, x.1)
    pass_taken = elim (cases_lt x.1 (turns_of (name_in member x.0) before)) [
      | inl is ↦ is
      | inr late ↦ absurd (let p = advanced_there in let q = still_there late in let r = f.advanced in omega arith)
    ]

  pub causes_sound : (edges : List (StepName × StepName)) → ((x y : StepName) → IsEdge edges x y → IsCause m w s x y) → AreSound m w s edges
  causes_sound edges each x y edge before after v member leads turn enabled = by (each x y edge)
    where
      by : IsCause m w s x y → IsTaken before (name_in member x.0, x.1)
      by (inl (inl start)) = start_taken m limits ok w z reached s legal before after v member leads x y start enabled
      by (inl (inr finish)) = under_taken m args limits ok taken s z legal over x y finish before after v member leads turn enabled
      by (inr pass) = pass_taken x y pass before after v member leads turn enabled
