-- The finish that an activity is in, by the number that its deeds give it, is the one of the world, as long as it is open.
use Rattle.std.proofs.Common.{◌≡◌, ℕ, ℤ, zero, suc, ◌<◌, ◌==◌, ◌⊎◌, inl, inr, true, false, true≢false, cond, List, [], ◌∷◌, ◌++◌, length}
use Rattle.std.proofs.Common.{set, Some, refl, sym, ap, ◌∙◌, subst, length-set, arith}
use Rattle.std.specs.Prelude.{slice_get}
use Rattle.std.specs.Option.{option_map_or}
use Rattle.std.proofs.lemmas.Bool.{cases_eq, ne_eqb}
use Rattle.std.proofs.lemmas.List.{length_push}
use Rattle.std.proofs.lemmas.Option.{slice_get_within}
use Rattle.xk_types.specs.declared.world.Event.{Event}
use Rattle.xk_types.specs.declared.world.Event.TheVariants as event
use Rattle.xk_types.specs.Code.{ModuleValue}
use Rattle.xk_types.specs.World.{Finish, Activity, World, opening, root, is_ended}
use Rattle.xk_types.specs.Step.{Stepped, governing, step}
use Rattle.xk_types.specs.Schedule.{Through, run}
use Rattle.xk_types.proofs.ListLemmas.{get-set_same, get-set_other, get_push, get-push_other}
use Rattle.xk_law_schedules.proofs.ReachabilityLemmas.{same_through, first_step}
use Rattle.xk_law_commute.proofs.ChangeSquareLemmas.{found_of}
use Rattle.xk_law_commute.proofs.StartSquareLemmas.{alive_of}
use Rattle.xk_law_traces.proofs.StepEventLemmas.{others_stay}
use Rattle.xk_law_traces.specs.Moments.{is_start}
use Rattle.xk_races.specs.declared.deeds.Deed.{Deed}
use Rattle.xk_races.specs.declared.deeds.Part.{Part}
use Rattle.xk_races.specs.declared.deeds.Part.TheVariants as part
use Rattle.xk_races.specs.Lists.{number_at, with_at}
use Rattle.xk_races.specs.Knowledge.{Scopes, scope_opened, scope_closed, scoped, nothing_known}
use Rattle.xk_races.specs.Order.{scopes_after}
use Rattle.xk_races.specs.Deeds.{tell_deeds, at_clocks, awaiting, resumed_by}
use Rattle.xk_races.proofs.RowLemmas.{with_at_same, with_at_other}
use Rattle.xk_show_events.specs.Steps.{run_step}
use Rattle.xk_law_races.proofs.NumberedFinishLemmas.{finish, Nest, AreNumbered, Opens, Closes, Begins, Keeps}
use Rattle.xk_law_races.proofs.NestChangeLemmas.{Change, GoesIn, GoesOut, Begun, Still, changed_numbered}
use Rattle.xk_law_races.proofs.StepNestingLemmas.{Nests, Effect, DoesGo, DoesStart, effect_of}
use Rattle.xk_law_races.proofs.TurnLemmas.{deeds, deeds_first}
use Rattle.xk_law_races.proofs.DeedPartLemmas.{at_clock, clock_parts}

-- ---- scopes along deeds

-- of some deeds and of others behind them
pub scopes_append : (xs ys : List Deed) (s : Scopes) → scopes_after (xs ++ ys) s ≡ scopes_after ys (scopes_after xs s)
scopes_append [] ys s = refl
scopes_append (d ∷ xs) ys s = scopes_append xs ys (scoped d.step.act d.part s)

-- a deed at a clock leaves everybody where they are
scopes_still : (ds : List Deed) (s : Scopes) → ((i : ℕ) (d : Deed) → slice_get ds i ≡ Some d → (a : ℕ) (q : Scopes) → scoped a d.part q ≡ q)
    → scopes_after ds s ≡ s
scopes_still [] s still = refl
scopes_still (d ∷ ds) s still = ap (scopes_after ds) (still 0 d refl d.step.act s) ∙ scopes_still ds s (λ i e at. still (suc i) e at)

-- where everybody is behind a step of activity a with this event, where there were n activities
abbrev scopes_by : ℕ → ℕ → Event → Scopes → Scopes
scopes_by a n event.Opened s = scope_opened a s
scopes_by a n event.Closed s = scope_closed a s
scopes_by a n event.Spawned s = record s { within = with_at 0 s.within n (number_at s.within a) }
scopes_by a n _ s = s

module _ (m : ModuleValue) (a : ℕ) (w v : World) (s : Scopes) where
  clocks_still : (e : Event) → scopes_after (at_clocks v (run_step a w v e) (resumed_by w a) (awaiting w a) e) s ≡ s
  clocks_still e = scopes_still (at_clocks v (run_step a w v e) (resumed_by w a) (awaiting w a) e) s (λ i d at. by d.part (clock_parts m a w v e i d at).1)
    where
      by : (p : Part) → at_clock p ≡ true → (b : ℕ) (q : Scopes) → scoped b p q ≡ q
      by (part.Signal c) h b q = refl
      by (part.Leave c) h b q = refl
      by (part.Advance c) h b q = refl
      by (part.Pass c) h b q = refl
      by (part.Start x) h b q = absurd (true≢false (sym h))
      by part.Open h b q = absurd (true≢false (sym h))
      by part.Close h b q = absurd (true≢false (sym h))
      by part.End h b q = absurd (true≢false (sym h))
      by (part.Access x) h b q = absurd (true≢false (sym h))
      by part.Print h b q = absurd (true≢false (sym h))

  -- the deeds of a step lead there
  pub scopes_step : (e : Event) → scopes_after (tell_deeds m a w v e) s ≡ scopes_by a (length w.activities) e s
  scopes_step event.Opened = refl
  scopes_step event.Closed = refl
  scopes_step event.Spawned = refl
  scopes_step event.Ended = clocks_still event.Ended
  scopes_step event.Resumed = clocks_still event.Resumed
  scopes_step event.Dropped = clocks_still event.Dropped
  scopes_step event.Arrived = clocks_still event.Arrived
  scopes_step event.Passed = clocks_still event.Passed
  scopes_step event.Local = refl
  scopes_step (event.Printed n) = refl
  scopes_step event.Made = refl
  scopes_step event.Got = refl
  scopes_step event.Put = refl
  scopes_step event.Added = refl

-- ---- scopes and worlds

-- how many finishes activity a has open, and which one governs it
abbrev pub opened_in : List Activity → ℕ → ℕ
opened_in acts a = option_map_or (λ act. act.opened) (slice_get acts a) 0

abbrev governed_in : List Activity → ℕ → Finish
governed_in acts a = option_map_or (λ act. act.governed) (slice_get acts a) root

-- the finishes of these activities, as these scopes number them
abbrev pub nest : Scopes → List Activity → Nest
nest s acts = record {
  within = λ a. number_at s.within a;
  around = λ n. number_at s.around n;
  opened = λ a. opened_in acts a;
  governed = λ a. governed_in acts a;
  finishes = length s.around;
  activities = length acts;
}

-- what is read of each activity stays, where it does of the one that changes
set_kept : {X : Type 0} (f : Activity → X) (d : X) (acts : List Activity) (a b : ℕ) (act next : Activity) → slice_get acts a ≡ Some act
    → f next ≡ f act
    → option_map_or f (slice_get (set acts a next) b) d ≡ option_map_or f (slice_get acts b) d
set_kept f d acts a b act next found same = by (cases_eq b a)
  where
    by : (b ≡ a) ⊎ (b ≡ a → ⊥) → option_map_or f (slice_get (set acts a next) b) d ≡ option_map_or f (slice_get acts b) d
    by (inl is) =
        ap (λ o. option_map_or f o d) (ap (slice_get (set acts a next)) is ∙ get-set_same acts a act next found) ∙ same
        ∙ sym (ap (λ o. option_map_or f o d) (ap (slice_get acts) is ∙ found))
    by (inr differs) = ap (λ o. option_map_or f o d) (get-set_other acts a b next differs)

push_other : (xs : List ℕ) (x n : ℕ) → (n ≡ length xs → ⊥) → number_at (xs ++ x ∷ []) n ≡ number_at xs n
push_other [] x zero differs = absurd (differs refl)
push_other [] x (suc n) differs = refl
push_other (y ∷ xs) x zero differs = refl
push_other (y ∷ xs) x (suc n) differs = push_other xs x n (λ e. differs (ap suc e))

push_last : (xs : List ℕ) (x : ℕ) → number_at (xs ++ x ∷ []) (length xs) ≡ x
push_last [] x = refl
push_last (y ∷ xs) x = push_last xs x

-- ---- one step

module _ (m : ModuleValue) (acts : List Activity) (a : ℕ) (act : Activity) (found : slice_get acts a ≡ Some act) (s : Scopes) where
  own_opened : opened_in acts a ≡ act.opened
  own_opened = ap (λ o. option_map_or (λ (x : Activity). x.opened) o 0) found

  next_opened : (next : Activity) → opened_in (set acts a next) a ≡ next.opened
  next_opened next = ap (λ o. option_map_or (λ (x : Activity). x.opened) o 0) (get-set_same acts a act next found)

  other_opened : (next : Activity) (b : ℕ) → (b ≡ a → ⊥) → opened_in (set acts a next) b ≡ opened_in acts b
  other_opened next b differs = ap (λ o. option_map_or (λ (x : Activity). x.opened) o 0) (get-set_other acts a b next differs)

  all_governed : (next : Activity) → next.governed ≡ act.governed → (b : ℕ) → governed_in (set acts a next) b ≡ governed_in acts b
  all_governed next same b = set_kept (λ (x : Activity). x.governed) root acts a b act next found same

  keeps : (next : Activity) → next.governed ≡ act.governed → next.opened ≡ act.opened → Keeps (nest s acts) (nest s (set acts a next))
  keeps next governed opened = record {
    within = λ b. refl;
    around = λ n. refl;
    opened = λ b. set_kept (λ (x : Activity). x.opened) 0 acts a b act next found opened;
    governed = all_governed next governed;
    finishes = refl;
    activities = length-set acts a next;
  }

  opens : (next : Activity) → next.governed ≡ act.governed → next.opened ≡ suc act.opened
      → Opens (nest s acts) (nest (scope_opened a s) (set acts a next)) a
  opens next governed opened = record {
    known = slice_get_within acts a act found;
    goes = with_at_same 0 s.within a (length s.around);
    others = λ b differs. with_at_other 0 s.within a b (length s.around) differs;
    wraps = push_last s.around (number_at s.within a);
    rest = λ n differs. push_other s.around (number_at s.within a) n differs;
    more = next_opened next ∙ opened ∙ ap suc (sym own_opened);
    opened = other_opened next;
    governed = all_governed next governed;
    finishes = (let e = length_push s.around (number_at s.within a) in omega (arith, e));
    activities = length-set acts a next;
  }

  closes : (next : Activity) → next.governed ≡ act.governed → act.opened ≡ suc next.opened
      → Closes (nest s acts) (nest (scope_closed a s) (set acts a next)) a
  closes next governed opened = record {
    goes = with_at_same 0 s.within a (number_at s.around (number_at s.within a));
    others = λ b differs. with_at_other 0 s.within a b (number_at s.around (number_at s.within a)) differs;
    around = λ n. refl;
    fewer = own_opened ∙ opened ∙ ap suc (sym (next_opened next));
    opened = other_opened next;
    governed = all_governed next governed;
    finishes = refl;
    activities = length-set acts a next;
  }

  going : (e : Event) (next : Activity) → next.governed ≡ act.governed → Nests m e act next → is_start e ≡ false
      → Change (nest s acts) (nest (scopes_by a (length acts) e s) (set acts a next)) a e
  going event.Opened next governed nests alone = GoesIn (opens next governed nests)
  going event.Closed next governed nests alone = GoesOut refl (closes next governed nests.0)
  going event.Ended next governed nests alone = Still (keeps next governed nests.0)
  going event.Spawned next governed nests alone = absurd (true≢false alone)
  going event.Local next governed nests alone = Still (keeps next governed nests)
  going _ next governed nests alone = Still (keeps next governed nests)

  -- whoever isn't the new one stays
  push_kept : {X : Type 0} (f : Activity → X) (d : X) (next one : Activity) → f next ≡ f act → (b : ℕ) → (b ≡ length acts → ⊥)
      → option_map_or f (slice_get (set acts a next ++ one ∷ []) b) d ≡ option_map_or f (slice_get acts b) d
  push_kept f d next one same b differs =
      ap (λ o. option_map_or f o d) (get-push_other (set acts a next) one b (λ e. differs (e ∙ length-set acts a next)))
      ∙ set_kept f d acts a b act next found same

  push_new : {X : Type 0} (f : Activity → X) (d : X) (next one : Activity)
      → option_map_or f (slice_get (set acts a next ++ one ∷ []) (length acts)) d ≡ f one
  push_new f d next one =
      ap (λ o. option_map_or f o d)
      (ap (slice_get (set acts a next ++ one ∷ [])) (sym (length-set acts a next)) ∙ get_push (set acts a next) one)

  beginning : (next one : Activity) → next.governed ≡ act.governed → next.opened ≡ act.opened → one.opened ≡ 0 → one.governed ≡ governing a act
      → Begins (nest s acts) (nest (scopes_by a (length acts) event.Spawned s) (set acts a next ++ one ∷ [])) a
  beginning next one governed opened none under = record {
    known = slice_get_within acts a act found;
    goes = with_at_same 0 s.within (length acts) (number_at s.within a);
    others = λ b differs. with_at_other 0 s.within (length acts) b (number_at s.within a) differs;
    around = λ n. refl;
    none = push_new (λ (x : Activity). x.opened) 0 next one ∙ none;
    opened = λ b differs. push_kept (λ (x : Activity). x.opened) 0 next one opened b differs;
    outer = λ zero'. push_new (λ (x : Activity). x.governed) root next one ∙ under ∙ ap (λ n. cond (n == 0) act.governed (finish a n)) (sym own_opened ∙ zero')
        ∙ sym (ap (λ o. option_map_or (λ (x : Activity). x.governed) o root) found)
        ∙ ap (λ n. governed_in acts a) zero';
    inner = λ n some. push_new (λ (x : Activity). x.governed) root next one ∙ under
        ∙ by act.opened n (sym own_opened ∙ some);
    governed = λ b differs. push_kept (λ (x : Activity). x.governed) root next one governed b differs;
    finishes = refl;
    activities = (let e = length_push (set acts a next) one in let f = length-set acts a next in omega (arith, e, f));
  }
    where
      by : (o n : ℕ) → o ≡ suc n → cond (o == 0) act.governed (finish a o) ≡ finish a (suc n)
      by o n is = ap (λ k. cond (k == 0) act.governed (finish a k)) is ∙ ap (λ q. cond q act.governed (finish a (suc n))) (ne_eqb (suc n) 0 (λ e. absurd (omega (arith, e))))

-- what a step changes of them
pub change_step : (m : ModuleValue) (w u : World) (a : ℕ) (e : Event) (s : Scopes) → step m w a ≡ Stepped u e
    → Change (nest s w.activities) (nest (scopes_after (tell_deeds m a w u e) s) u.activities) a e
change_step m w u a e s takes =
    subst (λ q. Change (nest s w.activities) (nest q u.activities) a e) (sym (scopes_step m a w u s e)) (by (effect_of m w u a x.0 e x.1 takes))
  where
    x : (act : Activity) × (slice_get w.activities a ≡ Some act)
    x = found_of m w a u e takes

    by : Effect m w u a x.0 e → Change (nest s w.activities) (nest (scopes_by a (length w.activities) e s) u.activities) a e
    by (DoesGo g) =
        subst (λ l. Change (nest s w.activities) (nest (scopes_by a (length w.activities) e s) l) a e) (sym g.activities)
        (going m w.activities a x.0 x.1 s e g.next g.governed g.nests g.alone)
    by (DoesStart g) =
        subst (λ l. Change (nest s w.activities) (nest (scopes_by a (length w.activities) e s) l) a e) (sym g.activities)
        (subst (λ f. Change (nest s w.activities) (nest (scopes_by a (length w.activities) f s) (set w.activities a g.next ++ g.one ∷ [])) a e)
        (sym g.is)
        (Begun (beginning m w.activities a x.0 x.1 s g.next g.one g.governed g.opened g.none g.under)))

-- a step keeps finishes numbered
pub numbered_step : (m : ModuleValue) (w u : World) (a : ℕ) (e : Event) (s : Scopes) → step m w a ≡ Stepped u e
    → AreNumbered (nest s w.activities)
    → AreNumbered (nest (scopes_after (tell_deeds m a w u e) s) u.activities)
numbered_step m w u a e s takes was =
    changed_numbered (nest s w.activities) (nest (scopes_after (tell_deeds m a w u e) s) u.activities) a e (change_step m w u a e s takes) was

-- ---- a run

-- and so does each one of a run
pub numbered_run : (m : ModuleValue) (list : List ℕ) (w v : World) (s : Scopes) → run m list w ≡ Through v
    → AreNumbered (nest s w.activities)
    → AreNumbered (nest (scopes_after (deeds m list w) s) v.activities)
numbered_run m [] w v s h was = subst (λ (z : World). AreNumbered (nest s z.activities)) (same_through w v h) was
numbered_run m (a ∷ list) w v s h was =
    let x = first_step w v (step m w a) (run m list) h in
    subst (λ q. AreNumbered (nest q v.activities))
    (sym (ap (λ ds. scopes_after ds s) (deeds_first m list w x.0 a x.1 x.2)
    ∙ scopes_append (tell_deeds m a w x.0 x.1) (deeds m list x.0) s))
    (numbered_run m list x.0 v (scopes_after (tell_deeds m a w x.0 x.1) s) x.3 (numbered_step m w x.0 a x.1 s x.2 was))

-- in the opening world they are
pub opening_numbered : (m : ModuleValue) (args : List ℤ) → AreNumbered (nest nothing_known.scopes (opening m args).activities)
opening_numbered m args = record {
  within = λ a. omega arith;
  around = λ n. wraps n;
  absent = λ a le. no_open a;
  own = λ a b k l less other one. absurd (let e = no_open a in omega (arith, less, e));
  governs = λ x a k inside less one. absurd (let e = no_open a in omega (arith, less, e));
}
  where
    wraps : (n : ℕ) → number_at (0 ∷ []) n < 1
    wraps zero = omega arith
    wraps (suc n) = omega arith

    no_open : (a : ℕ) → opened_in (opening m args).activities a ≡ 0
    no_open zero = refl
    no_open (suc a) = refl

-- ---- who has ended

-- stays behind a step as it is, in the finish that it is in
step_over : (m : ModuleValue) (w u : World) (a x : ℕ) (e : Event) (s : Scopes) (act : Activity) → step m w a ≡ Stepped u e
    → slice_get w.activities x ≡ Some act
    → is_ended act.status ≡ true
    → (slice_get u.activities x ≡ Some act) × (number_at (scopes_after (tell_deeds m a w u e) s).within x ≡ number_at s.within x)
step_over m w u a x e s act takes at over =
    (others_stay m w u a x e act takes differs at, ap (λ q. number_at q.within x) (scopes_step m a w u s e) ∙ by e)
  where
    differs : x ≡ a → ⊥
    differs is = true≢false (sym over ∙ alive_of m w a act u e (ap (slice_get w.activities) (sym is) ∙ at) takes)

    inside : x ≡ length w.activities → ⊥
    inside is = let i = slice_get_within w.activities x act at in absurd (omega (arith, i, is))

    by : (f : Event) → number_at (scopes_by a (length w.activities) f s).within x ≡ number_at s.within x
    by event.Opened = with_at_other 0 s.within a x (length s.around) differs
    by event.Closed = with_at_other 0 s.within a x (number_at s.around (number_at s.within a)) differs
    by event.Spawned = with_at_other 0 s.within (length w.activities) x (number_at s.within a) inside
    by event.Local = refl
    by _ = refl

-- and along a run
pub ended_stays : (m : ModuleValue) (list : List ℕ) (w v : World) (s : Scopes) (x : ℕ) (act : Activity) → run m list w ≡ Through v
    → slice_get w.activities x ≡ Some act
    → is_ended act.status ≡ true
    → (slice_get v.activities x ≡ Some act) × (number_at (scopes_after (deeds m list w) s).within x ≡ number_at s.within x)
ended_stays m [] w v s x act h at over = (ap (λ (z : World). slice_get z.activities x) (sym (same_through w v h)) ∙ at, refl)
ended_stays m (a ∷ list) w v s x act h at over =
    let f = first_step w v (step m w a) (run m list) h in
    let o = step_over m w f.0 a x f.1 s act f.2 at over in
    let rest = ended_stays m list f.0 v (scopes_after (tell_deeds m a w f.0 f.1) s) x act f.3 o.0 over in (
      rest.0,
      ap (λ ds. number_at (scopes_after ds s).within x) (deeds_first m list w f.0 a f.1 f.2)
          ∙ ap (λ q. number_at q.within x) (scopes_append (tell_deeds m a w f.0 f.1) (deeds m list f.0) s) ∙ rest.1 ∙ o.1,
    )
