-- What is under a finish comes before its end: in each schedule of a class all under it are there when it ends, by their numbers there,
-- and have taken all their steps.
use Rattle.std.proofs.Common.{◌≡◌, ℕ, ℤ, suc, zero, ◌+◌, ◌<◌, ◌≤◌, ◌==◌, ◌⊎◌, inl, inr, Bool, true, false, true≢false, cond, List, [], ◌∷◌, ◌++◌, length, set, Some, option_map, refl, sym, ap, ◌∙◌, subst, append_assoc, length-set, eq-eqb, arith, Option, None}
use Rattle.std.specs.Prelude.{slice_get}
use Rattle.std.proofs.lemmas.Bool.{eqb-false, cases_lt}
use Rattle.std.proofs.lemmas.Option.{same_Some, slice_get_within}
use Rattle.xk_types.specs.declared.instr.Instr.{Instr}
use Rattle.xk_types.specs.declared.instr.Instr.TheVariants as instr
use Rattle.xk_types.specs.declared.world.Status.{Status}
use Rattle.xk_types.specs.declared.world.Status.TheVariants as status
use Rattle.xk_types.specs.declared.world.Event.{Event}
use Rattle.xk_types.specs.declared.world.Event.TheVariants as event
use Rattle.xk_types.specs.Acceptance.{IsAccepted}
use Rattle.xk_types.specs.Code.{ModuleValue, IsWithinLimits}
use Rattle.xk_types.specs.World.{Finish, Activity, World, AreArguments, opening, is_ended, instruction_at}
use Rattle.xk_types.specs.Step.{Outcome, Blocked, Wrong, Stepped, child, onward, left, ended, arrived, none, done, innermost, governing, awaits, is_under, closing, run_at, step_by, step_of, step}
use Rattle.xk_types.specs.Schedule.{Through, run, IsReached, is_step, is_enabled, all_ended}
use Rattle.xk_types.proofs.ListLemmas.{get-set_same, get-set_other, get-append_left, get_inside, get_push}
use Rattle.xk_law_schedules.proofs.ReachabilityLemmas.{same_through, first_step, reached_sound, reached_scoped, opening_reached}
use Rattle.xk_law_schedules.proofs.StepFormLemmas.{step_kind}
use Rattle.xk_law_schedules.proofs.ScopeLemmas.FinishOwnerLemmas.{AreOwned, under_governed, under_owner, under_cases, under_above}
use Rattle.xk_law_commute.proofs.AwaitIndependenceLemmas.{same_or_not, awaits_given}
use Rattle.xk_law_commute.proofs.ChangeSquareLemmas.{found_of}
use Rattle.xk_law_commute.proofs.StartSquareLemmas.{alive_of}
use Rattle.xk_law_commute.proofs.QuietStepLaw.{enabled_step}
use Rattle.xk_law_names.specs.Names.{Exchange, all_named}
use Rattle.xk_law_names.proofs.NamelessLemmas.{nameless_activity, state_of, finish_named, governed_same}
use Rattle.xk_law_names.proofs.StartEventLemmas.{at_advance}
use Rattle.xk_law_names.proofs.ActivityNameOrderLaw.{run_first}
use Rattle.xk_law_traces.specs.Moments.{is_start}
use Rattle.xk_law_traces.specs.Classes.{AreOneClass, names_along, name_in}
use Rattle.xk_law_traces.specs.Edges.{StepName, turns_of, IsTaken, IsUnderFinish}
use Rattle.xk_law_traces.specs.OneRun.{GoesAsWell}
use Rattle.xk_law_traces.proofs.StepEventLemmas.{not_start, grown, others_stay}
use Rattle.xk_law_traces.proofs.SwapLemmas.{State, stand_of, stand_named, reached_run}
use Rattle.xk_law_traces.proofs.ClassLemmas.{deeds, class_as_well}
use Rattle.xk_law_traces.proofs.EdgeLaw.{turns_on, turns_same, turns_other, WasTaken, was_taken, run_behind, state_in, stands}
use Rattle.xk_law_traces.proofs.StartEdgeLaw.{child_in, start_deed, turns_all, child_done}

-- ---- who stays as it is, and what governs it

-- who takes no step stays as it is
pub idle_stays : (m : ModuleValue) (p : List ℕ) (v h : World) (a : ℕ) (act : Activity) → turns_of a p ≡ 0 → run m p v ≡ Through h
    → slice_get v.activities a ≡ Some act
    → slice_get h.activities a ≡ Some act
idle_stays m [] v h a act idle legal at = ap (λ (z : World). slice_get z.activities a) (sym (same_through v h legal)) ∙ at
idle_stays m (d ∷ p) v h a act idle legal at =
    let x = first_step v h (step m v d) (run m p) legal in
    by (d == a) refl x.0 x.1 x.2 (λ more there. idle_stays m p x.0 h a act more x.3 there)
  where
    by : (q : Bool) → (d == a) ≡ q → (u : World) (e : Event) → step m v d ≡ Stepped u e
        → (turns_of a p ≡ 0 → slice_get u.activities a ≡ Some act → slice_get h.activities a ≡ Some act)
        → slice_get h.activities a ≡ Some act
    by true g u e takes rest = let n = turns_same a d p g in absurd (omega arith)
    by false g u e takes rest =
        rest (let n = turns_other a d p g in omega arith) (others_stay m v u d a e act takes (λ q. eqb-false d a g (sym q)) at)

-- an activity in a later world, governed by the same finish
abbrev IsThere : World → ℕ → Finish → Type 0
IsThere w a g = (y : Activity) × (slice_get w.activities a ≡ Some y) × (y.governed ≡ g)

-- it isn't a step, or each activity is still there and governed by the same finish
abbrev KeepsGoverned : World → Outcome → Type 0
KeepsGoverned w Blocked = Unit {0}
KeepsGoverned w (Wrong c) = Unit {0}
KeepsGoverned w (Stepped u e) = (b : ℕ) (x : Activity) → slice_get w.activities b ≡ Some x → IsThere u b x.governed

step_governed : (m : ModuleValue) (w : World) (a : ℕ) → KeepsGoverned w (step m w a)
step_governed m w a = step_kind (KeepsGoverned w) m w a tt (λ c. tt) (λ act found lives. record {
  closed = λ n some nobody runs. kept act found (left act n) refl;
  over = λ here none. kept act found (ended act) refl;
  arrives = kept act found (arrived act) refl;
  done = λ next change e goes quiet rests. kept act found next goes.governed;
  made = λ next goes. kept act found next goes.governed;
  stored = λ s n e goes quiet. kept act found (onward act) refl;
  spawned = λ t args values at goes. λ b x there.
      (let r = kept act found (onward act) refl b x there in
      (r.0, get-append_left (set w.activities a (onward act)) (child m a act t values ∷ []) b r.0 r.1, r.2));
})
  where
    kept : (act : Activity) → slice_get w.activities a ≡ Some act → (next : Activity) → next.governed ≡ act.governed
        → (b : ℕ) (x : Activity) → slice_get w.activities b ≡ Some x
        → (y : Activity) × (slice_get (set w.activities a next) b ≡ Some y) × (y.governed ≡ x.governed)
    kept act found next same b x there = by (same_or_not b a)
      where
        by : (b ≡ a) ⊎ (b ≡ a → ⊥) → (y : Activity) × (slice_get (set w.activities a next) b ≡ Some y) × (y.governed ≡ x.governed)
        by (inl is) = (
          next,
          ap (slice_get (set w.activities a next)) is ∙ get-set_same w.activities a act next found,
          same ∙ ap (λ (z : Activity). z.governed) (same_Some act x (sym found ∙ sym (ap (slice_get w.activities) is) ∙ there)),
        )
        by (inr differs) = (x, get-set_other w.activities a b next differs ∙ there, refl)

pub governed_stays : (m : ModuleValue) (p : List ℕ) (v h : World) (b : ℕ) (x : Activity) → run m p v ≡ Through h
    → slice_get v.activities b ≡ Some x → IsThere h b x.governed
governed_stays m [] v h b x legal at = (x, ap (λ (z : World). slice_get z.activities b) (sym (same_through v h legal)) ∙ at, refl)
governed_stays m (d ∷ p) v h b x legal at =
    let f = first_step v h (step m v d) (run m p) legal in
    let one : KeepsGoverned v (Stepped f.0 f.1) = subst (KeepsGoverned v) f.2 (step_governed m v d) in
    let next = one b x at in
    let r = governed_stays m p f.0 h b next.0 f.3 next.1 in
    (r.0, r.1, r.2 ∙ next.2)

-- the child of a start is governed as its starter's own finishes say
abbrev HasChild : World → ℕ → Outcome → Type 0
HasChild w a Blocked = Unit {0}
HasChild w a (Wrong c) = Unit {0}
HasChild w a (Stepped u e) = is_start e ≡ true → (x : Activity) → slice_get w.activities a ≡ Some x
    → IsThere u (length w.activities) (governing a x)

start_child : (m : ModuleValue) (w : World) (a : ℕ) → HasChild w a (step m w a)
start_child m w a = step_kind (HasChild w a) m w a tt (λ c. tt) (λ act found lives. record {
  closed = λ n some nobody runs h x at. absurd (true≢false (sym h));
  over = λ here none h x at. absurd (true≢false (sym h));
  arrives = λ h x at. absurd (true≢false (sym h));
  done = λ next change e goes quiet rests h x at. absurd (true≢false (sym h ∙ not_start e quiet));
  made = λ next goes h x at. absurd (true≢false (sym h));
  stored = λ s n e goes quiet h x at. absurd (true≢false (sym h ∙ not_start e quiet));
  spawned = λ t args values at goes h x there. (
    child m a act t values,
    ap (slice_get (set w.activities a (onward act) ++ child m a act t values ∷ [])) (sym (length-set w.activities a (onward act)))
        ∙ get_push (set w.activities a (onward act)) (child m a act t values),
    ap (governing a) (same_Some act x (sym found ∙ there)),
  );
})

-- ---- who was started

-- the start of activity c
record StartsAt (m : ModuleValue) (list : List ℕ) (w : World) (c : ℕ) : Type 0 where
  front : List ℕ
  back : List ℕ
  who : ℕ
  here : World
  there : World
  e : Event
  whole : list ≡ front ++ who ∷ back
  leads : run m front w ≡ Through here
  takes : step m here who ≡ Stepped there e
  starts : is_start e ≡ true
  wide : length here.activities ≡ c

starts_at : (m : ModuleValue) (list : List ℕ) (w v : World) (c : ℕ) → run m list w ≡ Through v → length w.activities ≤ c
    → c < length v.activities → StartsAt m list w c
starts_at m [] w v c legal above below = let e = ap (λ (z : World). length z.activities) (same_through w v legal) in absurd (omega arith)
starts_at m (d ∷ list) w v c legal above below =
    by (is_start x.1) refl (grown m w x.0 d x.1 x.2) (cases_lt c (length x.0.activities)) (λ wide. starts_at m list x.0 v c x.3 wide below)
  where
    x : (u : World) × (e : Event) × (step m w d ≡ Stepped u e) × (run m list u ≡ Through v)
    x = first_step w v (step m w d) (run m list) legal

    by : (q : Bool) → is_start x.1 ≡ q → length x.0.activities ≡ length w.activities + cond q 1 0
        → (c < length x.0.activities) ⊎ (length x.0.activities ≤ c)
        → (length x.0.activities ≤ c → StartsAt m list x.0 c) → StartsAt m (d ∷ list) w c
    by true g more (inl h) later = record {
      front = [];
      back = list;
      who = d;
      here = w;
      there = x.0;
      e = x.1;
      whole = refl;
      leads = refl;
      takes = x.2;
      starts = g;
      wide = omega arith;
    }
    by false g more (inl h) later = absurd (omega arith)
    by q g more (inr h) later =
        let r : StartsAt m list x.0 c = later h in
        record {
          front = d ∷ r.front;
          back = r.back;
          who = r.who;
          here = r.here;
          there = r.there;
          e = r.e;
          whole = ap (λ l. d ∷ l) r.whole;
          leads = run_first m r.front w x.0 d x.1 x.2 ∙ r.leads;
          takes = r.takes;
          starts = r.starts;
          wide = r.wide;
        }

-- ---- a finish that could be closed

-- where it could be, nobody is awaited
closing_free : (m : ModuleValue) (limits : IsWithinLimits m) (ok : IsAccepted m) (v : World) (b : ℕ) (act : Activity) (first : ℕ)
    → IsReached m v → slice_get v.activities b ≡ Some act
    → instruction_at m act.frame ≡ Some (instr.EndFinish first) → is_enabled m v b ≡ true → awaits v.activities (innermost b act) ≡ false
closing_free m limits ok v b act first reached at here enabled =
    by_status act.status refl (sym (ap is_step (ap (step_of m v b) at)) ∙ enabled)
  where
    by_many : (n : ℕ) → is_step (closing v b act n) ≡ true → awaits v.activities (innermost b act) ≡ false
    by_many zero h = absurd (true≢false (sym h))
    by_many (suc n) h = by_awaits (awaits v.activities (innermost b act)) refl h
      where
        by_awaits : (q : Bool) → awaits v.activities (innermost b act) ≡ q
            → is_step (cond q Blocked (done v b (left act n) none event.Closed)) ≡ true
            → awaits v.activities (innermost b act) ≡ false
        by_awaits true e g = absurd (true≢false (sym g))
        by_awaits false e g = e

    by_status : (st : Status) → act.status ≡ st → is_step (step_by m v b act st) ≡ true → awaits v.activities (innermost b act) ≡ false
    by_status status.Running is h = by_many act.opened (sym (ap (λ o. is_step (run_at m v b act o)) here) ∙ h)
    by_status status.Arrived is h =
        let a = (reached_sound m limits ok v reached).activities b act at in
        absurd (not_advance (same_Some instr.Advance (instr.EndFinish first) (sym (at_advance m act a.u a.unit (a.advance is)) ∙ here)))
      where
        is_advance : Instr → Bool
        is_advance instr.Advance = true
        is_advance _ = false

        not_advance : instr.Advance ≡ instr.EndFinish first → ⊥
        not_advance e = true≢false (ap is_advance e)
    by_status status.Ended is h = absurd (true≢false (sym h))

-- ---- the law

module _ (m : ModuleValue) (args : List ℤ) (limits : IsWithinLimits m) (ok : IsAccepted m) (taken : AreArguments m args)
    (s : List ℕ) (z : World)
    (legal : run m s (opening m args) ≡ Through z) (over : all_ended z ≡ true) where
  abbrev w : World
  w = opening m args

  reached : IsReached m w
  reached = opening_reached m args taken

  module _ (x y : StepName) (f : IsUnderFinish m w s x y) (before after : List ℕ) (v : World) (member : AreOneClass m w s (before ++ after))
      (leads : run m before w ≡ Through v)
      (turn : turns_of (name_in member y.0) before ≡ y.1) (enabled : is_enabled m v (name_in member y.0) ≡ true) where
    abbrev xs : List Exchange
    xs = names_along member.between

    -- an activity's number there
    abbrev named : ℕ → ℕ
    named a = all_named xs a

    -- the finish here, and there
    abbrev finish : Finish
    finish = innermost y.0 f.closer

    abbrev other : Finish
    other = innermost (named y.0) f.closer

    g : GoesAsWell m w s (before ++ after) member z
    g = class_as_well m limits ok w z reached s (before ++ after) member legal

    -- the rest of both
    rest : run m after v ≡ Through g.last
    rest = sym (run_behind m before after w v leads) ∙ g.legal

    end : run m (y.0 ∷ f.after) f.here ≡ Through z
    end = sym (run_behind m f.before (y.0 ∷ f.after) w f.here f.leads) ∙ ap (λ l. run m l w) (sym f.whole) ∙ legal

    reached_here : IsReached m f.here
    reached_here = reached_run m f.before w f.here reached f.leads

    reached_there : IsReached m v
    reached_there = reached_run m before w v reached leads

    owned_here : AreOwned f.here.activities
    owned_here k act at o own = ((reached_scoped m limits ok f.here reached_here).activities k act at).owner o own

    owned_there : AreOwned v.activities
    owned_there k act at o own = ((reached_scoped m limits ok v reached_there).activities k act at).owner o own

    -- who is in both is governed by the same, by its owner's number there
    same_governed : (n : ℕ) (p q : Activity) → slice_get f.here.activities n ≡ Some p → slice_get v.activities (named n) ≡ Some q
        → q.governed ≡ finish_named xs p.governed
    same_governed n p q hp hq =
        let a = governed_stays m (y.0 ∷ f.after) f.here z n p end hp in
        let b = governed_stays m after v g.last (named n) q rest hq in
        let both : b.0.governed ≡ finish_named xs a.0.governed =
        same_Some b.0.governed (finish_named xs a.0.governed)
        (sym (ap (option_map (λ (act : Activity). act.governed)) b.1) ∙ governed_same xs z g.last n g.alike
        ∙ ap (λ o. option_map (finish_named xs) (option_map (λ (act : Activity). act.governed) o)) a.1) in
        sym b.2 ∙ both ∙ ap (finish_named xs) a.2

    -- who closes the finish has as many open there
    closer : (act : Activity) × (slice_get v.activities (named y.0) ≡ Some act) × (nameless_activity f.closer ≡ nameless_activity act)
    closer =
        let u = enabled_step (step m v (named y.0)) enabled in
        let a = found_of m v (named y.0) u.0 u.1 u.2 in
        let itself : AreOneClass m w s (f.before ++ y.0 ∷ f.after) = record { between = []; joined = f.whole } in
        let one : option_map (stand_named []) (state_in (slice_get (deeds m s w y.0) (turns_of y.0 f.before)))
        ≡ Some (stand_of f.here y.0) =
        stands m limits ok w z reached s legal over f.before (y.0 ∷ f.after) f.here itself f.leads y.0 (ap is_step f.takes) in
        let two : option_map (stand_named xs) (state_in (slice_get (deeds m s w y.0) (turns_of (named y.0) before)))
        ≡ Some (stand_of v (named y.0)) =
        stands m limits ok w z reached s legal over before after v member leads y.0 enabled in
        let states : state_of f.here y.0 ≡ state_of v (named y.0) =
        same_Some (state_of f.here y.0) (state_of v (named y.0))
        (sym (ap (option_map (λ (st : State). st.0)) one) ∙ by (state_in (slice_get (deeds m s w y.0) (turns_of y.0 f.before)))
        ∙ ap (λ k. option_map (λ (st : State). st.0) (option_map (stand_named xs) (state_in (slice_get (deeds m s w y.0) k))))
        (f.turn ∙ sym turn)
        ∙ ap (option_map (λ (st : State). st.0)) two) in (
          a.0,
          a.1,
          same_Some (nameless_activity f.closer) (nameless_activity a.0)
              (sym (ap (option_map nameless_activity) f.found) ∙ states ∙ ap (option_map nameless_activity) a.1),
        )
      where
        by : (o : Option State) → option_map (λ (st : State). st.0) (option_map (stand_named []) o)
            ≡ option_map (λ (st : State). st.0) (option_map (stand_named xs) o)
        by None = refl
        by (Some st) = refl

    free : awaits v.activities other ≡ false
    free =
        ap (λ (act : Activity). awaits v.activities (innermost (named y.0) act)) closer.2
        ∙ closing_free m limits ok v (named y.0) closer.0 f.first reached_there closer.1
        (sym (ap (λ (act : Activity). instruction_at m act.frame) closer.2) ∙ f.closes) enabled

    -- who is under the finish here is so there
    under_there : (n c : ℕ) → c < n → named c < length v.activities → (p : Activity) → slice_get f.here.activities c ≡ Some p
        → is_under f.here.activities finish c ≡ true
        → is_under v.activities other (named c) ≡ true
    under_there zero c less inside p at under = absurd (omega arith)
    under_there (suc n) c less inside p at under =
        by (get_inside v.activities (named c) inside) (under_cases f.here.activities owned_here finish c p at under) (under_there n)
      where
        by : (q : Activity) × (slice_get v.activities (named c) ≡ Some q)
            → (p.governed ≡ finish) ⊎ ((o : ℕ) × (p.governed.owner ≡ Some o) × (is_under f.here.activities finish o ≡ true))
            → ((o : ℕ) → o < n → named o < length v.activities → (p : Activity) → slice_get f.here.activities o ≡ Some p
            → is_under f.here.activities finish o ≡ true
            → is_under v.activities other (named o) ≡ true)
            → is_under v.activities other (named c) ≡ true
        by q (inl same) smaller =
            under_governed v.activities owned_there other (named c) q.0 q.1 (same_governed c p q.0 at q.1 ∙ ap (finish_named xs) same)
        by q (inr o) smaller =
            let below : o.0 < c = owned_here c p at o.0 o.1 in
            let within : c < length f.here.activities = slice_get_within f.here.activities c p at in
            let owner : q.0.governed.owner ≡ Some (named o.0) = ap (λ (h : Finish). h.owner) (same_governed c p q.0 at q.1)
            ∙ ap (option_map (all_named xs)) o.1 in
            let lower : named o.0 < named c = owned_there (named c) q.0 q.1 (named o.0) owner in
            let r = get_inside f.here.activities o.0 (omega arith) in
            under_owner v.activities owned_there other (named c) (named o.0) q.0 q.1 owner
            (smaller o.0 (omega arith) (omega arith) r.0 r.1 o.2)

    -- and has ended there
    ended_there : (c : ℕ) (q : Activity) → slice_get v.activities c ≡ Some q → is_under v.activities other c ≡ true
        → is_ended q.status ≡ true
    ended_there c q at under = by (is_ended q.status) refl
      where
        by : (e : Bool) → is_ended q.status ≡ e → is_ended q.status ≡ true
        by true h = h
        by false h = absurd
            (true≢false (sym (awaits_given v.activities other (record { b = c; act = q; found = at; under = under; alive = h })) ∙ free))

    -- so that it has taken all its steps
    none_later : (c : ℕ) (q : Activity) → slice_get v.activities c ≡ Some q → is_ended q.status ≡ true → (n : ℕ)
        → turns_of c after ≡ n → n ≡ 0
    none_later c q at is zero h = refl
    none_later c q at is (suc n) h =
        let r : WasTaken m v after c 0 = was_taken m after v g.last c 0 rest (omega arith) in
        let still : slice_get r.here.activities c ≡ Some q = idle_stays m r.front v r.here c q r.turn r.leads at in
        absurd (true≢false (sym is ∙ alive_of m r.here c q r.there r.e still r.takes))

    all_taken : (c k : ℕ) → named c < length v.activities → (p : Activity) → slice_get f.here.activities c ≡ Some p
        → is_under f.here.activities finish c ≡ true → k < turns_of c s
        → k < turns_of (named c) before
    all_taken c k inside p at under less =
        let q = get_inside v.activities (named c) inside in
        let later : turns_of (named c) after ≡ 0 =
        none_later (named c) q.0 q.1 (ended_there (named c) q.0 q.1 (under_there (suc c) c (omega arith) inside p at under))
        (turns_of (named c) after) refl in
        let all = turns_all m limits ok w z reached s legal before after v member leads c in
        omega arith

    -- ---- who isn't there yet

    -- the start of an activity that is here, in the whole schedule
    whole_start : (c : ℕ) (r : StartsAt m f.before w c) → s ≡ r.front ++ r.who ∷ (r.back ++ y.0 ∷ f.after)
    whole_start c r = f.whole ∙ ap (λ l. l ++ y.0 ∷ f.after) r.whole ∙ append_assoc r.front (r.who ∷ r.back) (y.0 ∷ f.after)

    -- if that step is taken there, the activity is there
    started_there : (c : ℕ) (r : StartsAt m f.before w c) → turns_of r.who r.front < turns_of (named r.who) before
        → named c < length v.activities
    started_there c r less =
        child_done m limits ok w z reached s legal before after v member leads r.who (turns_of r.who r.front) c
        (ap (λ l. child_in (slice_get (deeds m l w r.who) (turns_of r.who r.front))) (whole_start c r)
        ∙ start_deed m r.front (r.back ++ y.0 ∷ f.after) w r.here r.there r.who r.e r.leads r.takes r.starts ∙ ap (λ n. Some n) r.wide)
        less

    -- what is known of those with smaller numbers
    abbrev AreThere : ℕ → Type 0
    AreThere n = (c : ℕ) → c < n → (p : Activity) → slice_get f.here.activities c ≡ Some p → is_under f.here.activities finish c ≡ true
        → named c < length v.activities

    -- where its starter is under the finish, too
    by_starter : (n : ℕ) → AreThere n → (c : ℕ) (r : StartsAt m f.before w c) (q : Activity) → r.who < n
        → slice_get f.here.activities r.who ≡ Some q
        → is_under f.here.activities finish r.who ≡ true → named c < length v.activities
    by_starter n smaller c r q less at under =
        let inside : named r.who < length v.activities = smaller r.who less q at under in
        let many : turns_of r.who r.front < turns_of r.who s =
        (let a = ap (turns_of r.who) (whole_start c r) ∙ turns_on r.who r.front (r.who ∷ (r.back ++ y.0 ∷ f.after)) in
        let b = turns_same r.who r.who (r.back ++ y.0 ∷ f.after) (eq-eqb r.who r.who refl) in omega arith) in
        started_there c r (all_taken r.who (turns_of r.who r.front) inside q at under many)

    -- where who closes it started the activity
    by_closer : (c : ℕ) (r : StartsAt m f.before w c) → r.who ≡ y.0 → named c < length v.activities
    by_closer c r is =
        let a = ap (turns_of r.who) r.whole ∙ turns_on r.who r.front (r.who ∷ r.back) in
        let b = turns_same r.who r.who r.back (eq-eqb r.who r.who refl) in
        let d : turns_of r.who f.before ≡ turns_of (named r.who) before =
        subst (λ a. turns_of a f.before ≡ turns_of (named a) before) (sym is) (f.turn ∙ sym turn) in
        started_there c r (omega arith)

    by_start : (n : ℕ) → AreThere n → (c : ℕ) → 0 < c → c < suc n → (p : Activity) → slice_get f.here.activities c ≡ Some p
        → is_under f.here.activities finish c ≡ true
        → named c < length v.activities
    by_start n smaller c some less p at under =
        by_governing (starts_at m f.before w f.here c f.leads (omega arith) (slice_get_within f.here.activities c p at))
      where
        by_governing : StartsAt m f.before w c → named c < length v.activities
        by_governing r =
            let q = found_of m r.here r.who r.there r.e r.takes in
            let k = subst (HasChild r.here r.who) r.takes (start_child m r.here r.who) r.starts q.0 q.1 in
            let back : run m (r.who ∷ r.back) r.here ≡ Through f.here =
            sym (run_behind m r.front (r.who ∷ r.back) w r.here r.leads) ∙ ap (λ l. run m l w) (sym r.whole) ∙ f.leads in
            let grown = governed_stays m r.back r.there f.here c k.0 (sym (run_first m r.back r.here r.there r.who r.e r.takes) ∙ back)
            (ap (slice_get r.there.activities) (sym r.wide) ∙ k.1) in
            let starter = governed_stays m (r.who ∷ r.back) r.here f.here r.who q.0 back q.1 in
            let lower : r.who < length r.here.activities = slice_get_within r.here.activities r.who q.0 q.1 in
            let below : r.who < n = (let e = r.wide in omega arith) in
            by_open r q.0 starter.0 starter.1 starter.2 below (q.0.opened == 0)
            (ap (λ (u : Activity). u.governed) (same_Some p grown.0 (sym at ∙ grown.1)) ∙ grown.2 ∙ k.2)
          where
            by_open : (r : StartsAt m f.before w c) (q there : Activity) → slice_get f.here.activities r.who ≡ Some there
                → there.governed ≡ q.governed → r.who < n
                → (b : Bool) → p.governed ≡ cond b q.governed (innermost r.who q) → named c < length v.activities
            by_open r q there found same below true is = by (under_cases f.here.activities owned_here finish c p at under)
              where
                by : (p.governed ≡ finish) ⊎ ((o : ℕ) × (p.governed.owner ≡ Some o) × (is_under f.here.activities finish o ≡ true))
                    → named c < length v.activities
                by (inl e) = by_starter n smaller c r there below found
                    (under_governed f.here.activities owned_here finish r.who there found (same ∙ sym is ∙ e))
                by (inr o) = by_starter n smaller c r there below found
                    (under_owner f.here.activities owned_here finish r.who o.0 there found
                    (ap (λ (h : Finish). h.owner) (same ∙ sym is) ∙ o.1) o.2)
            by_open r q there found same below false is = by (under_cases f.here.activities owned_here finish c p at under)
              where
                by : (p.governed ≡ finish) ⊎ ((o : ℕ) × (p.governed.owner ≡ Some o) × (is_under f.here.activities finish o ≡ true))
                    → named c < length v.activities
                by (inl e) = by_closer c r (same_Some r.who y.0 (ap (λ (h : Finish). h.owner) (sym is ∙ e)))
                by (inr o) = by_starter n smaller c r there below found
                    (subst (λ k. is_under f.here.activities finish k ≡ true)
                    (sym (same_Some r.who o.0 (ap (λ (h : Finish). h.owner) (sym is) ∙ o.1))) o.2)

    are_there : (n : ℕ) → AreThere n
    are_there zero c less p at under = absurd (omega arith)
    are_there (suc n) zero less p at under =
        let above : y.0 < 0 = under_above f.here.activities owned_here finish 1 0 y.0 (omega arith) refl p at under in
        absurd (omega arith)
    are_there (suc n) (suc j) less p at under = by_start n (are_there n) (suc j) (omega arith) less p at under

    pub under_taken : IsTaken before (named x.0, x.1)
    under_taken = all_taken x.0 x.1 (are_there (suc x.0) x.0 (omega arith) f.child f.known f.under) f.child f.known f.under f.taken
