-- Along a run: a finish keeps its number as long as it is open, and the one that governs an activity is open as long as that lives.
use Rattle.std.proofs.Common.{◌≡◌, ℕ, ℤ, zero, suc, ◌-◌, ◌<◌, ◌≤◌, ◌⊎◌, inl, inr, Bool, true, false, true≢false, List, [], ◌∷◌, ◌++◌}
use Rattle.std.proofs.Common.{length, set, Some, refl, sym, ap, ◌∙◌, subst, arith}
use Rattle.std.specs.Prelude.{slice_get, option_and_then}
use Rattle.std.specs.Option.{option_map_or}
use Rattle.std.proofs.lemmas.Bool.{cases_eq, cases_lt}
use Rattle.std.proofs.lemmas.Option.{none-some, same_Some, slice_get_within}
use Rattle.xk_types.specs.declared.instr.Instr.TheVariants as instr
use Rattle.xk_types.specs.declared.world.Event.{Event}
use Rattle.xk_types.specs.declared.world.Event.TheVariants as event
use Rattle.xk_types.specs.Acceptance.{IsAccepted}
use Rattle.xk_types.specs.Code.{ModuleValue, IsWithinLimits}
use Rattle.xk_types.specs.World.{Activity, Finish, World, opening, root, main_of, is_ended, instruction_at}
use Rattle.xk_types.specs.Step.{Outcome, Blocked, Wrong, Stepped, arrived, awaits, child, ended, innermost, left, onward, step}
use Rattle.xk_types.specs.Schedule.{Through, run, run_on, IsReached}
use Rattle.xk_types.proofs.ListLemmas.{get-append_left, get-push_other, get-set_other, get-set_same, get_inside, get_push}
use Rattle.xk_law_schedules.proofs.ReachabilityLemmas.{same_through, first_step, reached_sound, reached_scoped}
use Rattle.xk_law_schedules.proofs.SafetyLemmas.StepLemmas.{closed_at_end}
use Rattle.xk_law_schedules.proofs.ScopeLemmas.FinishOwnerLemmas.{AreOwned, under_governed}
use Rattle.xk_law_schedules.proofs.StepFormLemmas.{step_kind}
use Rattle.xk_law_commute.proofs.AwaitIndependenceLemmas.{awaits_given}
use Rattle.xk_law_commute.proofs.ChangeSquareLemmas.{found_of}
use Rattle.xk_law_commute.proofs.StartSquareLemmas.{alive_of}
use Rattle.xk_law_traces.proofs.StepEventLemmas.{others_stay}
use Rattle.xk_law_traces.proofs.SwapLemmas.{reached_run}
use Rattle.xk_races.specs.Deeds.{tell_deeds}
use Rattle.xk_races.specs.Knowledge.{Scopes, nothing_known}
use Rattle.xk_races.specs.Order.{scopes_after}
use Rattle.xk_law_races.proofs.NumberedFinishLemmas.{Nest, AreNumbered, finish, number, base}
use Rattle.xk_law_races.proofs.NestChangeLemmas.{Change, GoesIn, GoesOut, Begun, Still, base_stays, governed_stays, number_stays}
use Rattle.xk_law_races.proofs.NestChangeLemmas.{open_falls}
use Rattle.xk_law_races.proofs.TurnLemmas.{deeds, deeds_first}
use Rattle.xk_law_races.proofs.ScopeLemmas.{nest, opened_in, scopes_append, change_step, numbered_step}

-- ---- one step

-- it isn't a step, or where it leaves the activity fewer finishes open, nobody was awaited
abbrev WaitsToClose : World → ℕ → Outcome → Type 0
WaitsToClose w a Blocked = Unit {0}
WaitsToClose w a (Wrong c) = Unit {0}
WaitsToClose w a (Stepped u e) =
    (act : Activity) → slice_get w.activities a ≡ Some act → opened_in u.activities a < act.opened
    → awaits w.activities (innermost a act) ≡ false

-- it isn't a step, or where the activity is over behind it, it stood at a `ret`, and no frame waited
abbrev EndsAtRet : ModuleValue → World → ℕ → Outcome → Type 0
EndsAtRet m w a Blocked = Unit {0}
EndsAtRet m w a (Wrong c) = Unit {0}
EndsAtRet m w a (Stepped u e) =
    (act next : Activity) → slice_get w.activities a ≡ Some act → slice_get u.activities a ≡ Some next → is_ended next.status ≡ true
    → (instruction_at m act.frame ≡ Some instr.Ret) × (act.callers ≡ [])

module _ (m : ModuleValue) (w : World) (a : ℕ) where
  -- where the activity is this one behind the step, with as many finishes open
  not_fewer : (act next : Activity) (after : List Activity) → slice_get w.activities a ≡ Some act → slice_get after a ≡ Some next
      → act.opened ≤ next.opened → (x : Activity) → slice_get w.activities a ≡ Some x → opened_in after a < x.opened
      → awaits w.activities (innermost a x) ≡ false
  not_fewer act next after found at le x there less =
      let same = ap (λ (y : Activity). y.opened) (same_Some act x (sym found ∙ there)) in
      let n = ap (λ o. option_map_or (λ (y : Activity). y.opened) o 0) at in
      absurd (omega (arith, le, less, same, n))

  -- and where it isn't over
  not_over : (next : Activity) (after : List Activity) → slice_get after a ≡ Some next → is_ended next.status ≡ false
      → (x y : Activity) → slice_get w.activities a ≡ Some x → slice_get after a ≡ Some y → is_ended y.status ≡ true
      → (instruction_at m x.frame ≡ Some instr.Ret) × (x.callers ≡ [])
  not_over next after at lives x y there is over =
      absurd (true≢false (sym over ∙ ap (λ (z : Activity). is_ended z.status) (sym (same_Some next y (sym at ∙ is))) ∙ lives))

  abbrev changed : Activity → List Activity
  changed next = set w.activities a next

  same_at : (act next : Activity) → slice_get w.activities a ≡ Some act → slice_get (changed next) a ≡ Some next
  same_at act next found = get-set_same w.activities a act next found

  pushed_at : (act next one : Activity) → slice_get w.activities a ≡ Some act → slice_get (changed next ++ one ∷ []) a ≡ Some next
  pushed_at act next one found = get-append_left (changed next) (one ∷ []) a next (same_at act next found)

  waits_to_close : WaitsToClose w a (step m w a)
  waits_to_close = step_kind (WaitsToClose w a) m w a tt (λ c. tt) (λ act found lives. record {
    closed = λ n some nobody runs x there less.
        subst (λ (y : Activity). awaits w.activities (innermost a y) ≡ false) (same_Some act x (sym found ∙ there)) nobody;
    over = λ here none. not_fewer act (ended act) (changed (ended act)) found (same_at act (ended act) found) (omega arith);
    arrives = not_fewer act (arrived act) (changed (arrived act)) found (same_at act (arrived act) found) (omega arith);
    done = λ next change e goes quiet rests. not_fewer act next (changed next) found (same_at act next found) goes.opened;
    made = λ next goes. not_fewer act next (changed next) found (same_at act next found) goes.opened;
    stored = λ s n e goes quiet. not_fewer act (onward act) (changed (onward act)) found (same_at act (onward act) found) goes.opened;
    spawned = λ t args values at goes. not_fewer act (onward act) (changed (onward act) ++ child m a act t values ∷ []) found
        (pushed_at act (onward act) (child m a act t values) found) goes.opened;
  })

  ends_at_ret : EndsAtRet m w a (step m w a)
  ends_at_ret = step_kind (EndsAtRet m w a) m w a tt (λ c. tt) (λ act found lives. record {
    closed = λ n some nobody runs. not_over (left act n) (changed (left act n)) (same_at act (left act n) found) (ap is_ended runs);
    over = λ here none x y there is over.
        subst (λ (z : Activity). (instruction_at m z.frame ≡ Some instr.Ret) × (z.callers ≡ [])) (same_Some act x (sym found ∙ there)) (here, none);
    arrives = not_over (arrived act) (changed (arrived act)) (same_at act (arrived act) found) refl;
    done = λ next change e goes quiet rests. not_over next (changed next) (same_at act next found) (ap is_ended goes.runs);
    made = λ next goes. not_over next (changed next) (same_at act next found) (ap is_ended goes.runs);
    stored = λ s n e goes quiet. not_over (onward act) (changed (onward act)) (same_at act (onward act) found) (ap is_ended goes.runs);
    spawned = λ t args values at goes. not_over (onward act) (changed (onward act) ++ child m a act t values ∷ [])
        (pushed_at act (onward act) (child m a act t values) found) (ap is_ended goes.runs);
  })

-- who is over behind a step was it before, or ends by it
abbrev EndsOnly : World → ℕ → Outcome → Type 0
EndsOnly w a Blocked = Unit {0}
EndsOnly w a (Wrong c) = Unit {0}
EndsOnly w a (Stepped u e) = (y : ℕ) (x : Activity) → slice_get u.activities y ≡ Some x → is_ended x.status ≡ true
    → (slice_get w.activities y ≡ Some x) ⊎ ((y ≡ a) × (e ≡ event.Ended))

module _ (m : ModuleValue) (w : World) (a : ℕ) where
  never : (next : Activity) (e : Event) → is_ended next.status ≡ false → is_ended next.status ≡ true → e ≡ event.Ended
  never next e lives over = absurd (true≢false (sym over ∙ lives))

  kept_end : (act next : Activity) (e : Event) → slice_get w.activities a ≡ Some act → (is_ended next.status ≡ true → e ≡ event.Ended)
      → (y : ℕ) (x : Activity) → slice_get (set w.activities a next) y ≡ Some x → is_ended x.status ≡ true
      → (slice_get w.activities y ≡ Some x) ⊎ ((y ≡ a) × (e ≡ event.Ended))
  kept_end act next e found ends y x at over = by (cases_eq y a)
    where
      by : (y ≡ a) ⊎ (y ≡ a → ⊥) → (slice_get w.activities y ≡ Some x) ⊎ ((y ≡ a) × (e ≡ event.Ended))
      by (inl is) =
          let one : next ≡ x = same_Some next x (sym (same_at m w a act next found) ∙ ap (slice_get (set w.activities a next)) (sym is) ∙ at) in
          inr (is, ends (ap (λ (z : Activity). is_ended z.status) one ∙ over))
      by (inr differs) = inl (sym (get-set_other w.activities a y next differs) ∙ at)

  pushed_end : (act one : Activity) → slice_get w.activities a ≡ Some act → is_ended (onward act).status ≡ false → is_ended one.status ≡ false
      → (y : ℕ) (x : Activity) → slice_get (set w.activities a (onward act) ++ one ∷ []) y ≡ Some x → is_ended x.status ≡ true
      → (slice_get w.activities y ≡ Some x) ⊎ ((y ≡ a) × (event.Spawned ≡ event.Ended))
  pushed_end act one found lives fresh y x at over = by (cases_eq y (length (set w.activities a (onward act))))
    where
      by : (y ≡ length (set w.activities a (onward act))) ⊎ (y ≡ length (set w.activities a (onward act)) → ⊥)
          → (slice_get w.activities y ≡ Some x) ⊎ ((y ≡ a) × (event.Spawned ≡ event.Ended))
      by (inl is) =
          let last = get_push (set w.activities a (onward act)) one in
          let same : one ≡ x = same_Some one x (sym last ∙ ap (slice_get (set w.activities a (onward act) ++ one ∷ [])) (sym is) ∙ at) in
          absurd (true≢false (sym over ∙ ap (λ (z : Activity). is_ended z.status) (sym same) ∙ fresh))
      by (inr differs) =
          kept_end act (onward act) event.Spawned found (never (onward act) event.Spawned lives) y x
          (sym (get-push_other (set w.activities a (onward act)) one y differs) ∙ at) over

  ends_only : EndsOnly w a (step m w a)
  ends_only = step_kind (EndsOnly w a) m w a tt (λ c. tt) (λ act found lives. record {
    closed = λ n some nobody runs. kept_end act (left act n) event.Closed found (never (left act n) event.Closed (ap is_ended runs));
    over = λ here none. kept_end act (ended act) event.Ended found (λ over. refl);
    arrives = kept_end act (arrived act) event.Arrived found (never (arrived act) event.Arrived refl);
    done = λ next change e goes quiet rests. kept_end act next e found (never next e (ap is_ended goes.runs));
    made = λ next goes. kept_end act next event.Made found (never next event.Made (ap is_ended goes.runs));
    stored = λ s n e goes quiet. kept_end act (onward act) e found (never (onward act) e (ap is_ended goes.runs));
    spawned = λ t args values at goes. pushed_end act (child m a act t values) found (ap is_ended goes.runs) refl;
  })

-- a step of these ends activity x
pub record IsEndedOn (m : ModuleValue) (list : List ℕ) (w : World) (x : ℕ) : Type 0 where
  pub before : List ℕ
  pub after : List ℕ
  pub here : World
  pub there : World
  pub whole : list ≡ before ++ x ∷ after
  pub leads : run m before w ≡ Through here
  pub takes : step m here x ≡ Stepped there event.Ended

-- who is over behind a run was it before, or ends on the way
pub ended_on : (m : ModuleValue) (list : List ℕ) (w v : World) (x : ℕ) (act : Activity) → run m list w ≡ Through v → slice_get v.activities x ≡ Some act
    → is_ended act.status ≡ true → (slice_get w.activities x ≡ Some act) ⊎ IsEndedOn m list w x
ended_on m [] w v x act h at over = inl (ap (λ (z : World). slice_get z.activities x) (same_through w v h) ∙ at)
ended_on m (b ∷ list) w v x act h at over = by (ended_on m list f.0 v x act f.3 at over)
  where
    f : (u : World) × (e : Event) × (step m w b ≡ Stepped u e) × (run m list u ≡ Through v)
    f = first_step w v (step m w b) (run m list) h

    here_or_before : (slice_get w.activities x ≡ Some act) ⊎ ((x ≡ b) × (f.1 ≡ event.Ended))
        → (slice_get w.activities x ≡ Some act) ⊎ IsEndedOn m (b ∷ list) w x
    here_or_before (inl was) = inl was
    here_or_before (inr p) = inr (record {
      before = [];
      after = list;
      here = w;
      there = f.0;
      whole = ap (λ i. i ∷ list) (sym p.0);
      leads = refl;
      takes = ap (step m w) p.0 ∙ f.2 ∙ ap (Stepped f.0) p.1;
    })

    by : (slice_get f.0.activities x ≡ Some act) ⊎ IsEndedOn m list f.0 x → (slice_get w.activities x ≡ Some act) ⊎ IsEndedOn m (b ∷ list) w x
    by (inl there) = here_or_before (subst (EndsOnly w b) f.2 (ends_only m w b) x act there over)
    by (inr r) = inr (record {
      before = b ∷ r.before;
      after = r.after;
      here = r.here;
      there = r.there;
      whole = ap (λ l. b ∷ l) r.whole;
      leads = ap (λ o. run_on w o (run m r.before)) f.2 ∙ r.leads;
      takes = r.takes;
    })

-- where one closes a finish, nobody under it is left
pub close_awaits : (m : ModuleValue) (w u : World) (a : ℕ) (e : Event) (act : Activity) → step m w a ≡ Stepped u e → slice_get w.activities a ≡ Some act
    → opened_in u.activities a < act.opened → awaits w.activities (innermost a act) ≡ false
close_awaits m w u a e act takes found less = subst (WaitsToClose w a) takes (waits_to_close m w a) act found less

-- who ends has no finish open
pub end_closed : (m : ModuleValue) (limits : IsWithinLimits m) (ok : IsAccepted m) (w u : World) (a : ℕ) (e : Event) (act next : Activity)
    → IsReached m w → step m w a ≡ Stepped u e → slice_get w.activities a ≡ Some act → slice_get u.activities a ≡ Some next
    → is_ended next.status ≡ true → act.opened ≡ 0
end_closed m limits ok w u a e act next reached takes found at over =
    let r = subst (EndsAtRet m w a) takes (ends_at_ret m w a) act next found at over in
    let sound = reached_sound m limits ok w reached in
    let me = sound.activities a act found in
    closed_at_end m ok w sound (reached_scoped m limits ok w reached) a act found
    (sym (ap (option_and_then (λ unit. slice_get unit.code act.frame.place)) me.unit) ∙ r.0) r.1

-- ---- what governs who lives

-- Who hasn't ended is governed by the root, or by a finish that is open and has the number that the activity has for it.
abbrev AreIn : Scopes → World → Type 0
AreIn q w = (y a d : ℕ) (act : Activity) → slice_get w.activities y ≡ Some act → is_ended act.status ≡ false → act.governed ≡ finish a d
    → (0 < d) × (d ≤ opened_in w.activities a) × (number (nest q w.activities) a (opened_in w.activities a - d) ≡ base (nest q w.activities) y)

module _ (m : ModuleValue) (limits : IsWithinLimits m) (ok : IsAccepted m) (q : Scopes) (w u : World) (b : ℕ) (e : Event)
    (takes : step m w b ≡ Stepped u e) (reached : IsReached m w) (was : AreNumbered (nest q w.activities)) (inside : AreIn q w) where
  abbrev s : Nest
  s = nest q w.activities

  abbrev t : Nest
  t = nest (scopes_after (tell_deeds m b w u e) q) u.activities

  change : Change s t b e
  change = change_step m w u b e q takes

  who : (x : Activity) × (slice_get w.activities b ≡ Some x)
  who = found_of m w b u e takes

  alive : is_ended who.0.status ≡ false
  alive = alive_of m w b who.0 u e who.1 takes

  owned : AreOwned w.activities
  owned k act at o own = ((reached_scoped m limits ok w reached).activities k act at).owner o own

  -- the finish that governs one who lives isn't closed by the step
  still_open : (y a d : ℕ) (act : Activity) → slice_get w.activities y ≡ Some act → is_ended act.status ≡ false → act.governed ≡ finish a d
      → d ≤ opened_in w.activities a → d ≤ opened_in u.activities a
  still_open y a d act at lives is before = by (cases_lt (opened_in u.activities a) d)
    where
      closing' : (a ≡ b) × (e ≡ event.Closed) × (s.opened a ≡ d) → opened_in u.activities a < d → ⊥
      closing' f fell =
          let own : opened_in w.activities b ≡ who.0.opened = ap (λ o. option_map_or (λ (x : Activity). x.opened) o 0) who.1 in
          let deep : d ≡ who.0.opened = sym f.2 ∙ ap (opened_in w.activities) f.0 ∙ own in
          let same : act.governed ≡ innermost b who.0 = is ∙ ap (λ i. finish i d) f.0 ∙ ap (finish b) deep in
          let now = ap (opened_in u.activities) f.0 in
          let nobody = subst (WaitsToClose w b) takes (waits_to_close m w b) who.0 who.1 (omega (arith, fell, now, deep)) in
          true≢false (sym (awaits_given w.activities (innermost b who.0) (record {
            b = y;
            act = act;
            found = at;
            under = under_governed w.activities owned (innermost b who.0) y act at same;
            alive = lives;
          })) ∙ nobody)

      by : (opened_in u.activities a < d) ⊎ (d ≤ opened_in u.activities a) → d ≤ opened_in u.activities a
      by (inr le) = le
      by (inl fell) = absurd (closing' (open_falls s t b e was change a d before fell) fell)

  abbrev IsIn : ℕ → ℕ → ℕ → Type 0
  IsIn y a d = (0 < d) × (d ≤ t.opened a) × (number t a (t.opened a - d) ≡ base t y)

  -- one that was there
  in_before : (y a d : ℕ) (act x : Activity) → y < length w.activities → slice_get u.activities y ≡ Some act → is_ended act.status ≡ false
      → act.governed ≡ finish a d → slice_get w.activities y ≡ Some x → IsIn y a d
  in_before y a d act x less at lives is there = by (is_ended x.status) refl
    where
      gov : x.governed ≡ finish a d
      gov = sym (ap (λ o. option_map_or (λ (z : Activity). z.governed) o root) there) ∙ sym (governed_stays s t b e change y less)
          ∙ ap (λ o. option_map_or (λ (z : Activity). z.governed) o root) at ∙ is

      by : (o : Bool) → is_ended x.status ≡ o → IsIn y a d
      by true over =
          let differs : y ≡ b → ⊥ = (λ h. true≢false (sym over ∙ alive_of m w b x u e (ap (slice_get w.activities) (sym h) ∙ there) takes)) in
          let stays = others_stay m w u b y e x takes differs there in
          absurd (true≢false (sym over ∙ ap (λ (z : Activity). is_ended z.status) (same_Some x act (sym stays ∙ at)) ∙ lives))
      by false lived =
          let i = inside y a d x there lived gov in
          let open' = still_open y a d x there lived gov i.1 in (
            i.0,
            open',
            number_stays s t b e was change a d i.0 i.1 open' ∙ i.2 ∙ sym (base_stays s t b e was change y less),
          )

  -- only a start brings a new one
  not_new : (y a d : ℕ) (act : Activity) → length w.activities ≤ y → slice_get u.activities y ≡ Some act
      → length u.activities ≡ length w.activities → IsIn y a d
  not_new y a d act new at same = let n = slice_get_within u.activities y act at in absurd (omega (arith, n, same, new))

  -- one that is started now
  in_new : (y a d : ℕ) (act : Activity) → length w.activities ≤ y → slice_get u.activities y ≡ Some act → act.governed ≡ finish a d
      → Change s t b e → IsIn y a d
  in_new y a d act new at is (GoesIn c) = not_new y a d act new at c.activities
  in_new y a d act new at is (GoesOut closed c) = not_new y a d act new at c.activities
  in_new y a d act new at is (Still c) = not_new y a d act new at c.activities
  in_new y a d act new at is (Begun c) = by (s.opened b) refl
    where
      child_is : y ≡ length w.activities
      child_is =
          let n = slice_get_within u.activities y act at in
          let k : length u.activities ≡ suc (length w.activities) = c.activities in
          omega (arith, n, k, new)

      gov : t.governed s.activities ≡ finish a d
      gov = ap t.governed (sym child_is) ∙ ap (λ o. option_map_or (λ (z : Activity). z.governed) o root) at ∙ is

      from : base t y ≡ s.within b
      from = ap (base t) child_is ∙ ap (number t s.activities) c.none ∙ c.goes

      differs : b ≡ s.activities → ⊥
      differs h = let k = c.known in absurd (omega (arith, h, k))

      by : (o : ℕ) → s.opened b ≡ o → IsIn y a d
      by zero none =
          let own : who.0.governed ≡ finish a d =
          sym (ap (λ o. option_map_or (λ (z : Activity). z.governed) o root) who.1) ∙ sym (c.outer none) ∙ gov in
          let i = inside b a d who.0 who.1 alive own in
          let open' = still_open b a d who.0 who.1 alive own i.1 in
          (i.0, open', number_stays s t b e was change a d i.0 i.1 open' ∙ i.2 ∙ ap (number s b) none ∙ sym from)
      by (suc k) some =
          let one : finish b (suc k) ≡ finish a d = sym (c.inner k some) ∙ gov in
          let same : b ≡ a = same_Some b a (ap (λ (f : Finish). f.owner) one) in
          let deep : suc k ≡ d = ap (λ (f : Finish). f.depth) one in
          let many : t.opened a ≡ d = ap t.opened (sym same) ∙ c.opened b differs ∙ some ∙ deep in
          let top : t.opened a - d ≡ 0 = omega (arith, many) in (
            omega (arith, deep),
            omega (arith, many),
            ap (number t a) top ∙ ap t.within (sym same) ∙ c.others b differs ∙ sym from,
          )

  in_step : AreIn (scopes_after (tell_deeds m b w u e) q) u
  in_step y a d act at lives is = by (cases_lt y (length w.activities))
    where
      by : (y < length w.activities) ⊎ (length w.activities ≤ y) → IsIn y a d
      by (inl less) = let x = get_inside w.activities y less in in_before y a d act x.0 less at lives is x.1
      by (inr new) = in_new y a d act new at is change

-- main is governed by the root
opening_in : (m : ModuleValue) (args : List ℤ) → AreIn nothing_known.scopes (opening m args)
opening_in m args zero a d act at lives is =
    absurd (none-some a (ap (λ (f : Finish). f.owner) (ap (λ (z : Activity). z.governed) (same_Some (main_of m args) act at) ∙ is)))
opening_in m args (suc y) a d act at lives is = absurd (none-some act at)

-- ---- a run

-- where the deeds of a step, and of those behind it, lead
scopes_first : (m : ModuleValue) (list : List ℕ) (w u : World) (a : ℕ) (e : Event) (q : Scopes) → step m w a ≡ Stepped u e
    → scopes_after (deeds m (a ∷ list) w) q ≡ scopes_after (deeds m list u) (scopes_after (tell_deeds m a w u e) q)
scopes_first m list w u a e q takes =
    ap (λ ds. scopes_after ds q) (deeds_first m list w u a e takes) ∙ scopes_append (tell_deeds m a w u e) (deeds m list u) q

-- what each step keeps is kept
pub along_run : (m : ModuleValue) (P : Scopes → World → Type 0)
    → ((q : Scopes) (w u : World) (a : ℕ) (e : Event) → step m w a ≡ Stepped u e → IsReached m w → AreNumbered (nest q w.activities) → P q w
    → P (scopes_after (tell_deeds m a w u e) q) u)
    → (list : List ℕ) (w v : World) (q : Scopes) → run m list w ≡ Through v → IsReached m w → AreNumbered (nest q w.activities) → P q w
    → P (scopes_after (deeds m list w) q) v
along_run m P keeps [] w v q h reached was p = subst (P q) (same_through w v h) p
along_run m P keeps (a ∷ list) w v q h reached was p =
    let x = first_step w v (step m w a) (run m list) h in
    let next = reached_run m (a ∷ []) w x.0 reached (ap (λ o. run_on w o (run m [])) x.2) in
    subst (λ r. P r v) (sym (scopes_first m list w x.0 a x.1 q x.2))
    (along_run m P keeps list x.0 v (scopes_after (tell_deeds m a w x.0 x.1) q) x.3 next (numbered_step m w x.0 a x.1 q x.2 was)
    (keeps q w x.0 a x.1 x.2 reached was p))

-- so it is with what governs who lives
pub in_run : (m : ModuleValue) (limits : IsWithinLimits m) (ok : IsAccepted m) (args : List ℤ) (list : List ℕ) (v : World)
    → IsReached m (opening m args) → AreNumbered (nest nothing_known.scopes (opening m args).activities) → run m list (opening m args) ≡ Through v
    → AreIn (scopes_after (deeds m list (opening m args)) nothing_known.scopes) v
in_run m limits ok args list v reached was h =
    along_run m AreIn (λ q w u a e takes there numbered inside. in_step m limits ok q w u a e takes there numbered inside)
    list (opening m args) v nothing_known.scopes h reached was (opening_in m args)

-- ---- open from here to there

-- a step of these closes the finish of activity a at depth d, which has the same number up to there
pub record IsClosedOn (m : ModuleValue) (list : List ℕ) (w : World) (q : Scopes) (a d : ℕ) : Type 0 where
  pub before : List ℕ
  pub after : List ℕ
  pub here : World
  pub there : World
  pub whole : list ≡ before ++ a ∷ after
  pub leads : run m before w ≡ Through here
  pub takes : step m here a ≡ Stepped there event.Closed
  pub depth : opened_in here.activities a ≡ d
  pub same : number (nest (scopes_after (deeds m before w) q) here.activities) a 0
      ≡ number (nest q w.activities) a (opened_in w.activities a - d)

-- it is open behind the run, and has the same number
abbrev pub StaysOpen : ℕ → ℕ → Scopes → World → Scopes → World → Type 0
StaysOpen a d q w r v = (d ≤ opened_in v.activities a)
    × (number (nest r v.activities) a (opened_in v.activities a - d) ≡ number (nest q w.activities) a (opened_in w.activities a - d))

-- one that is open is closed by a step of the run, or it stays open
pub open_or_closed : (m : ModuleValue) (a d : ℕ) → 0 < d → (list : List ℕ) (w v : World) (q : Scopes) → run m list w ≡ Through v
    → AreNumbered (nest q w.activities) → d ≤ opened_in w.activities a
    → IsClosedOn m list w q a d ⊎ StaysOpen a d q w (scopes_after (deeds m list w) q) v
open_or_closed m a d some [] w v q h was before = inr (subst (λ (z : World). StaysOpen a d q w q z) (same_through w v h) (before, refl))
open_or_closed m a d some (b ∷ list) w v q h was before =
    by (cases_lt (opened_in x.0.activities a) d)
    (λ le. open_or_closed m a d some list x.0 v r x.3 (numbered_step m w x.0 b x.1 q x.2 was) le)
  where
    x : (u : World) × (e : Event) × (step m w b ≡ Stepped u e) × (run m list u ≡ Through v)
    x = first_step w v (step m w b) (run m list) h

    r : Scopes
    r = scopes_after (tell_deeds m b w x.0 x.1) q

    change' : Change (nest q w.activities) (nest r x.0.activities) b x.1
    change' = change_step m w x.0 b x.1 q x.2

    stays : d ≤ opened_in x.0.activities a
        → number (nest r x.0.activities) a (opened_in x.0.activities a - d) ≡ number (nest q w.activities) a (opened_in w.activities a - d)
    stays le = number_stays (nest q w.activities) (nest r x.0.activities) b x.1 was change' a d some before le

    behind : d ≤ opened_in x.0.activities a → IsClosedOn m list x.0 r a d ⊎ StaysOpen a d r x.0 (scopes_after (deeds m list x.0) r) v
        → IsClosedOn m (b ∷ list) w q a d ⊎ StaysOpen a d q w (scopes_after (deeds m (b ∷ list) w) q) v
    behind le (inl c) = inl (record {
      before = b ∷ c.before;
      after = c.after;
      here = c.here;
      there = c.there;
      whole = ap (λ l. b ∷ l) c.whole;
      leads = ap (λ o. run_on w o (run m c.before)) x.2 ∙ c.leads;
      takes = c.takes;
      depth = c.depth;
      same = subst (λ z. number (nest z c.here.activities) a 0 ≡ number (nest q w.activities) a (opened_in w.activities a - d))
          (sym (scopes_first m c.before w x.0 b x.1 q x.2)) (c.same ∙ stays le);
    })
    behind le (inr p) = inr (
      p.0,
      subst (λ z. number (nest z v.activities) a (opened_in v.activities a - d) ≡ number (nest q w.activities) a (opened_in w.activities a - d))
          (sym (scopes_first m list w x.0 b x.1 q x.2))
          (p.1 ∙ stays le),
    )

    by : (opened_in x.0.activities a < d) ⊎ (d ≤ opened_in x.0.activities a)
        → (d ≤ opened_in x.0.activities a → IsClosedOn m list x.0 r a d ⊎ StaysOpen a d r x.0 (scopes_after (deeds m list x.0) r) v)
        → IsClosedOn m (b ∷ list) w q a d ⊎ StaysOpen a d q w (scopes_after (deeds m (b ∷ list) w) q) v
    by (inl fell) rest =
        let f = open_falls (nest q w.activities) (nest r x.0.activities) b x.1 was change' a d before fell in
        inl (record {
          before = [];
          after = list;
          here = w;
          there = x.0;
          whole = ap (λ i. i ∷ list) (sym f.0);
          leads = refl;
          takes = ap (step m w) f.0 ∙ x.2 ∙ ap (Stepped x.0) f.1;
          depth = f.2;
          same = (let e = f.2 in let top : 0 ≡ opened_in w.activities a - d = omega (arith, e) in ap (number (nest q w.activities) a) top);
        })
    by (inr le) rest = behind le (rest le)
