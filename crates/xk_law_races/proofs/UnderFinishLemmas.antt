-- All that are under a finish have ended before its close, by the order's edges.
use Rattle.std.proofs.Common.{◌≡◌, ℕ, zero, suc, ◌-◌, ◌<◌, ◌≤◌, ◌⊎◌, inl, inr, Bool, true, false, true≢false, List, [], ◌∷◌, ◌++◌, Some}
use Rattle.std.proofs.Common.{refl, sym, ap, ◌∙◌, subst, append_assoc, arith}
use Rattle.std.specs.Prelude.{slice_get}
use Rattle.std.specs.Option.{option_map_or}
use Rattle.std.proofs.lemmas.Bool.{cases_eq, cases_lt}
use Rattle.std.proofs.lemmas.Option.{none-some, same_Some, slice_get_within}
use Rattle.xk_types.specs.declared.world.Event.TheVariants as event
use Rattle.xk_types.specs.World.{Activity, Finish, World, main_of, opening, root, is_ended}
use Rattle.xk_types.specs.Step.{awaits, innermost, is_under}
use Rattle.xk_types.specs.Logs.{schedule_of}
use Rattle.xk_types.proofs.ListLemmas.{get_inside}
use Rattle.xk_law_schedules.proofs.ReachabilityLemmas.{reached_scoped}
use Rattle.xk_law_schedules.proofs.ScopeLemmas.FinishOwnerLemmas.{AreOwned, under_cases}
use Rattle.xk_law_commute.proofs.AwaitIndependenceLemmas.{awaits_given}
use Rattle.xk_show_events.specs.Steps.{run_step}
use Rattle.xk_races.specs.declared.deeds.Deed.{Deed}
use Rattle.xk_races.specs.declared.deeds.Part.TheVariants as part
use Rattle.xk_races.specs.Deeds.{deeds_of_run}
use Rattle.xk_races.specs.Lists.{number_at}
use Rattle.xk_races.specs.Order.{IsAt, IsEnd, Own, Closed, Edge, Leads, Before, finish_at}
use Rattle.xk_law_races.proofs.NumberedFinishLemmas.{finish, number}
use Rattle.xk_law_races.proofs.TurnLemmas.{Turn, deed_at, IsEarlier, AreOne, run_between, turn_reached, numbers_rise, in_order}
use Rattle.xk_law_races.proofs.DeedPartLemmas.{Says, part_is}
use Rattle.xk_law_races.proofs.StepDeedLemmas.{IsDeedOf, first_deed}
use Rattle.xk_law_races.proofs.ScopeLemmas.{opened_in, ended_stays}
use Rattle.xk_law_races.proofs.OpenFinishLemmas.{IsEndedOn, close_awaits, ended_on}
use Rattle.xk_law_races.proofs.EndAndCloseLemmas.{LegalRun, reached, scopes_at, scopes_behind, nest_at, Shows, shows, many_open, one_fewer}
use Rattle.xk_law_races.proofs.EndAndCloseLemmas.{after_end, none_open}
use Rattle.xk_law_races.proofs.GovernedEndLemmas.{inside, IsClosedBefore, closed_or_open, still_waits, there_later}

module _ (trace : LegalRun) where
  open trace use {m, args, limits, ok, log}

  abbrev w : World
  w = opening m args

  abbrev s : List ℕ
  s = schedule_of log

  abbrev ds : List Deed
  ds = deeds_of_run m args log

  abbrev At : Type 0
  At = Turn m w s

  -- where one is before another by an edge, it is before what that one is before
  edge_first : (k i j : ℕ) → Edge ds k i → (ks : List ℕ) → Leads ds i ks j → Leads ds k (ks ++ i ∷ []) j
  edge_first k i j edge [] h = (edge, h)
  edge_first k i j edge (l ∷ ks) h = (edge_first k i l edge ks h.0, h.1)

  before_first : (k i j : ℕ) → Edge ds k i → Before ds i j → Before ds k j
  before_first k i j edge b = (b.0 ++ i ∷ [], edge_first k i j edge b.0 b.1)

  own_edge : (i j : ℕ) (c e : Deed) → i < j → IsAt ds i c → IsAt ds j e → c.step.act ≡ e.step.act → Edge ds i j
  own_edge i j c e less here there same = (e, there, Own (less, c, here, inl same))

  close_edge : (k i : ℕ) (c : Deed) → IsAt ds i c → c.part ≡ part.Close → IsEnd ds i (finish_at ds i c.step.act) k → Edge ds k i
  close_edge k i c at closes waits = (c, at, Closed closes waits)

  -- main lives at the beginning
  none_over : (x : ℕ) (act : Activity) → slice_get w.activities x ≡ Some act → is_ended act.status ≡ true → ⊥
  none_over zero act at over = true≢false (sym over ∙ ap (λ (y : Activity). is_ended y.status) (sym (same_Some (main_of m args) act at)))
  none_over (suc x) act at over = none-some act at

  -- the end of activity x, before turn u
  pub record HasEnded (u : At) (x : ℕ) : Type 0 where
    pub place : ℕ
    pub deed : Deed
    pub at : IsAt ds place deed
    pub ends : deed.part ≡ part.End
    pub shown : Shows trace place deed event.Ended
    pub whose : shown.turn.act ≡ x
    pub before : IsEarlier m w s shown.turn u

  module _ (u : At) (x : ℕ) (c : IsEndedOn m u.before w x) where
    abbrev its_turn : At
    its_turn = record {
      before = c.before;
      after = c.after ++ u.act ∷ u.after;
      act = x;
      here = c.here;
      there = c.there;
      e = event.Ended;
      whole = u.whole ∙ ap (λ l. l ++ u.act ∷ u.after) c.whole ∙ append_assoc c.before (x ∷ c.after) (u.act ∷ u.after);
      leads = c.leads;
      takes = c.takes;
    }

    its_end : IsDeedOf m w s its_turn part.End
    its_end = first_deed m w s its_turn part.End refl

    ended_at : HasEnded u x
    ended_at = record {
      place = its_end.number;
      deed = its_end.deed;
      at = deed_at m w s its_turn its_end.number its_end.deed its_end.told;
      ends = its_end.part;
      shown = shows trace its_end.number its_end.deed event.Ended its_turn its_end.told
          (subst (Says m (run_step x c.here c.there event.Ended) c.here c.there event.Ended its_end.told.offset) its_end.part
          (part_is m w s its_turn its_end.number its_end.deed its_end.told).1);
      whose = refl;
      before = (c.after, c.whole);
    }

  has_ended : (u : At) (x : ℕ) (act : Activity) → slice_get u.here.activities x ≡ Some act → is_ended act.status ≡ true → HasEnded u x
  has_ended u x act at over = by (ended_on m u.before w u.here x act u.leads at over)
    where
      by : (slice_get w.activities x ≡ Some act) ⊎ IsEndedOn m u.before w x → HasEnded u x
      by (inl was) = absurd (none_over x act was over)
      by (inr c) = ended_at u x c

  module _ (j : ℕ) (e : Deed) (at : IsAt ds j e) (closes : e.part ≡ part.Close) (g : Shows trace j e event.Closed) where
    abbrev here : List Activity
    here = g.turn.here.activities

    abbrev it : Finish
    it = innermost g.turn.act g.who

    nobody : awaits here it ≡ false
    nobody =
        close_awaits m g.turn.here g.turn.there g.turn.act g.turn.e g.who g.turn.takes g.found
        (let n = one_fewer trace j e g in omega (arith, n))

    owned : AreOwned here
    owned k act found o own =
        ((reached_scoped m limits ok g.turn.here (turn_reached m w s g.turn (reached trace))).activities k act found).owner o own

    all_over : (x : ℕ) (act : Activity) → slice_get here x ≡ Some act → is_under here it x ≡ true → is_ended act.status ≡ true
    all_over x act found under = by (is_ended act.status) refl
      where
        by : (b : Bool) → is_ended act.status ≡ b → is_ended act.status ≡ true
        by true over = over
        by false lives =
            absurd (true≢false (sym (awaits_given here it (record { b = x; act = act; found = found; under = under; alive = lives })) ∙ nobody))

    -- the end of activity x, before the close
    pub record EndsBefore (x : ℕ) : Type 0 where
      pub own : HasEnded g.turn x
      pub before : Before ds own.place j

    module _ (x : ℕ) (act : Activity) (found : slice_get here x ≡ Some act) (r : HasEnded g.turn x) where
      governed_same : r.shown.who.governed ≡ act.governed
      governed_same =
          sym (there_later trace r.place r.deed r.shown g.turn r.before).2
          ∙ ap (λ i. option_map_or (λ (y : Activity). y.governed) (slice_get here i) root) r.whose
          ∙ ap (λ o. option_map_or (λ (y : Activity). y.governed) o root) found

      -- governed by the finish itself: this close waits for it, or an earlier one of who closes it
      directly : act.governed ≡ it → Before ds r.place j
      directly is = by (closed_or_open trace r.place r.deed r.ends r.shown g.turn.act g.who.opened (governed_same ∙ is) g.turn r.before)
        where
          by : IsClosedBefore trace r.place r.deed r.ends r.shown g.turn.act g.who.opened (governed_same ∙ is) g.turn
              ⊎ ((g.who.opened ≤ opened_in here g.turn.act)
              × (number (nest_at trace g.turn) g.turn.act (opened_in here g.turn.act - g.who.opened)
              ≡ number_at (scopes_at trace r.shown.turn).within r.shown.turn.act))
              → Before ds r.place j
          by (inl c) =
              before_first r.place c.place j (close_edge r.place c.place c.deed c.at c.closes c.waits) (
                [],
                own_edge c.place j c.deed e (numbers_rise m w s g.turn c.turn j c.place e c.deed g.told c.told c.before) c.at at
                    (c.whose ∙ sym g.whose),
              )
          by (inr p) = (
            [],
            close_edge r.place j e at closes (still_waits trace r.place j r.deed e r.ends r.shown g
                (numbers_rise m w s g.turn r.shown.turn j r.place e r.deed g.told r.shown.told r.before) p.1),
          )

      -- governed by a finish of one who ends before the close: that one has closed it before its end
      module _ (o : ℕ) (owner : act.governed.owner ≡ Some o) (q : EndsBefore o) where
        abbrev deep : ℕ
        deep = act.governed.depth

        its : r.shown.who.governed ≡ finish o deep
        its = governed_same ∙ ap (λ p. record { owner = p; depth = deep }) owner

        some : 0 < deep
        some = (inside trace r.place r.deed r.ends r.shown o deep its).0

        other : r.shown.turn.act ≡ q.own.shown.turn.act → ⊥
        other same = let less = owned x act found o owner in let a = r.whose in let b = q.own.whose in absurd (omega (arith, less, a, b, same))

        none_left : opened_in q.own.shown.turn.here.activities o ≡ 0
        none_left =
            ap (opened_in q.own.shown.turn.here.activities) (sym q.own.whose)
            ∙ many_open trace q.own.place q.own.deed event.Ended q.own.shown ∙ none_open trace q.own.place q.own.deed q.own.shown

        -- its owner ends later
        later : IsEarlier m w s r.shown.turn q.own.shown.turn → Before ds r.place j
        later earlier = by (closed_or_open trace r.place r.deed r.ends r.shown o deep its q.own.shown.turn earlier)
          where
            by : IsClosedBefore trace r.place r.deed r.ends r.shown o deep its q.own.shown.turn
                ⊎ ((deep ≤ opened_in q.own.shown.turn.here.activities o)
                × (number (nest_at trace q.own.shown.turn) o (opened_in q.own.shown.turn.here.activities o - deep)
                ≡ number_at (scopes_at trace r.shown.turn).within r.shown.turn.act))
                → Before ds r.place j
            by (inl c) =
                before_first r.place c.place j (close_edge r.place c.place c.deed c.at c.closes c.waits)
                (before_first c.place q.own.place j
                (own_edge c.place q.own.place c.deed q.own.deed
                (numbers_rise m w s q.own.shown.turn c.turn q.own.place c.place q.own.deed c.deed q.own.shown.told c.told c.before) c.at q.own.at
                (c.whose ∙ sym q.own.whose ∙ sym q.own.shown.whose)) q.before)
            by (inr p) = let le = p.0 in absurd (omega (arith, le, none_left, some))

        -- it can't have ended before, since the finish is open
        not_sooner : IsEarlier m w s q.own.shown.turn r.shown.turn → ⊥
        not_sooner sooner =
            let y = after_end trace q.own.place q.own.deed q.own.shown in
            let stays = (ended_stays m sooner.0 q.own.shown.turn.there r.shown.turn.here (scopes_behind trace q.own.shown.turn) q.own.shown.turn.act y.0
            (run_between m w s q.own.shown.turn r.shown.turn sooner) y.1 y.2).0 in
            let n : opened_in r.shown.turn.here.activities q.own.shown.turn.act ≡ y.0.opened =
            ap (λ i. option_map_or (λ (z : Activity). z.opened) i 0) stays in
            let many = ap (opened_in r.shown.turn.here.activities) q.own.whose in
            let zero' = none_open trace q.own.place q.own.deed q.own.shown in
            let same = y.3 in
            let le = (inside trace r.place r.deed r.ends r.shown o deep its).1 in
            absurd (omega (arith, n, many, zero', same, le, some))

        through : Before ds r.place j
        through = by (cases_lt r.place q.own.place)
          where
            up : IsEarlier m w s r.shown.turn q.own.shown.turn ⊎ AreOne m w s r.shown.turn q.own.shown.turn → Before ds r.place j
            up (inl earlier) = later earlier
            up (inr one) = absurd (other one.1)

            down : IsEarlier m w s q.own.shown.turn r.shown.turn ⊎ AreOne m w s q.own.shown.turn r.shown.turn → Before ds r.place j
            down (inl sooner) = absurd (not_sooner sooner)
            down (inr one) = absurd (other (sym one.1))

            back : (q.own.place ≡ r.place) ⊎ (q.own.place ≡ r.place → ⊥) → q.own.place ≤ r.place → Before ds r.place j
            back (inl is) le =
                let d = same_Some q.own.deed r.deed (sym q.own.at ∙ ap (slice_get ds) is ∙ r.at) in
                absurd (other (sym r.shown.whose ∙ sym (ap (λ (c : Deed). c.step.act) d) ∙ q.own.shown.whose))
            back (inr differs) le =
                down (in_order m w s q.own.shown.turn r.shown.turn q.own.place r.place q.own.deed r.deed q.own.shown.told r.shown.told
                (omega (arith, le, differs)))

            by : (r.place < q.own.place) ⊎ (q.own.place ≤ r.place) → Before ds r.place j
            by (inl less) =
                up (in_order m w s r.shown.turn q.own.shown.turn r.place q.own.place r.deed q.own.deed r.shown.told q.own.shown.told less)
            by (inr le) = back (cases_eq q.own.place r.place) le

    -- by the owners above it, of whom there are fewer than n
    pub under_below : (n x : ℕ) → x < n → (act : Activity) → slice_get here x ≡ Some act → is_under here it x ≡ true → EndsBefore x
    under_below zero x less act found under = absurd (omega (arith, less))
    under_below (suc n) x less act found under = by (under_cases here owned it x act found under) (under_below n)
      where
        r : HasEnded g.turn x
        r = has_ended g.turn x act found (all_over x act found under)

        by : (act.governed ≡ it) ⊎ ((o : ℕ) × (act.governed.owner ≡ Some o) × (is_under here it o ≡ true))
            → ((y : ℕ) → y < n → (z : Activity) → slice_get here y ≡ Some z → is_under here it y ≡ true → EndsBefore y)
            → EndsBefore x
        by (inl is) above = record { own = r; before = directly x act found r is }
        by (inr p) above =
            let lower = owned x act found p.0 p.1 in
            let inside' = slice_get_within here x act found in
            let y = get_inside here p.0 (omega (arith, lower, inside')) in
            record { own = r; before = through x act found r p.0 p.1 (above p.0 (omega (arith, lower, less)) y.0 y.1 p.2) }
