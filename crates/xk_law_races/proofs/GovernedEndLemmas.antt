-- A finish that somebody opened governs who ended: a later turn closes it, or it is still the one in which that one ended.
use Rattle.std.proofs.Common.{◌≡◌, ℕ, ◌-◌, ◌<◌, ◌≤◌, ◌⊎◌, inl, inr, List, ◌∷◌, ◌++◌, length, refl, sym, ap, ◌∙◌, subst, append_assoc, arith}
use Rattle.std.specs.Prelude.{slice_get}
use Rattle.std.specs.Option.{option_map_or}
use Rattle.std.proofs.lemmas.Bool.{cases_lt}
use Rattle.std.proofs.lemmas.Option.{same_Some, slice_get_within}
use Rattle.xk_types.specs.declared.world.Event.{Event}
use Rattle.xk_types.specs.declared.world.Event.TheVariants as event
use Rattle.xk_types.specs.World.{Activity, Finish, World, opening, root}
use Rattle.xk_types.specs.Step.{Stepped, innermost, step}
use Rattle.xk_types.specs.Schedule.{run, run_on, IsReached}
use Rattle.xk_types.specs.Logs.{schedule_of}
use Rattle.xk_law_commute.proofs.StartSquareLemmas.{alive_of}
use Rattle.xk_law_traces.proofs.EdgeLaw.{run_behind}
use Rattle.xk_show_events.specs.Steps.{run_step}
use Rattle.xk_races.specs.declared.deeds.Deed.{Deed}
use Rattle.xk_races.specs.declared.deeds.Part.TheVariants as part
use Rattle.xk_races.specs.Deeds.{deeds_of_run, tell_deeds}
use Rattle.xk_races.specs.Knowledge.{Scopes}
use Rattle.xk_races.specs.Lists.{number_at}
use Rattle.xk_races.specs.Order.{IsAt, IsEnd, finish_at, scopes_after}
use Rattle.xk_law_races.specs.Finishes.{IsCloseOf}
use Rattle.xk_law_races.proofs.NumberedFinishLemmas.{AreNumbered, finish, number, base}
use Rattle.xk_law_races.proofs.NestChangeLemmas.{IsAbove, above_stays, activities_grow, base_stays, finishes_grow, governed_stays}
use Rattle.xk_law_races.proofs.NestChangeLemmas.{number_stays, open_falls}
use Rattle.xk_law_races.proofs.TurnLemmas.{Turn, IsToldOf, deeds, deed_at, IsEarlier, run_between, turn_reached, numbers_rise}
use Rattle.xk_law_races.proofs.DeedPartLemmas.{Says, part_is}
use Rattle.xk_law_races.proofs.RunWorldLemmas.{world_of}
use Rattle.xk_law_races.proofs.StepDeedLemmas.{IsDeedOf, first_deed}
use Rattle.xk_law_races.proofs.ScopeLemmas.{nest, opened_in, change_step, opening_numbered}
use Rattle.xk_law_races.proofs.OpenFinishLemmas.{IsClosedOn, StaysOpen, in_run, open_or_closed}
use Rattle.xk_law_races.proofs.EndAndCloseLemmas.{LegalRun, reached, scopes_at, scopes_behind, nest_at, nest_behind, numbered_at}
use Rattle.xk_law_races.proofs.EndAndCloseLemmas.{numbered_behind, change_at, scopes_between, between, Shows, shows, shows_close, same_who}
use Rattle.xk_law_races.proofs.EndAndCloseLemmas.{many_open, in_finish, one_fewer, base_is, behind_end, behind_close, not_both}

module _ (trace : LegalRun) where
  open trace use {m, args, limits, ok, log}

  abbrev w : World
  w = opening m args

  abbrev s : List ℕ
  s = schedule_of log

  abbrev ds : List Deed
  ds = deeds_of_run m args log

  abbrev At : Type 0
  At = Turn m w s

  module _ (k : ℕ) (d : Deed) (ends : d.part ≡ part.End) (h : Shows trace k d event.Ended) (a n : ℕ) (governed : h.who.governed ≡ finish a n) where
    abbrev t : At
    t = h.turn

    -- it is open there, and has the number of the finish in which the activity is
    pub inside : (0 < n) × (n ≤ opened_in t.here.activities a)
        × (number (nest_at trace t) a (opened_in t.here.activities a - n) ≡ base (nest_at trace t) t.act)
    inside =
        in_run m limits ok args t.before t.here (reached trace) (opening_numbered m args) t.leads t.act a n h.who h.found
        (alive_of m t.here t.act h.who t.there t.e h.found t.takes) governed

    open' : n ≤ opened_in t.there.activities a
    open' = by (cases_lt (opened_in t.there.activities a) n)
      where
        by : (opened_in t.there.activities a < n) ⊎ (n ≤ opened_in t.there.activities a) → n ≤ opened_in t.there.activities a
        by (inr le) = le
        by (inl fell) =
            let c = open_falls (nest_at trace t) (nest_behind trace t) t.act t.e (numbered_at trace t) (change_at trace t) a n inside.1 fell in
            absurd (not_both (sym h.seen ∙ c.1))

    one_number : number (nest_behind trace t) a (opened_in t.there.activities a - n) ≡ number_at (scopes_at trace t).within t.act
    one_number =
        number_stays (nest_at trace t) (nest_behind trace t) t.act t.e (numbered_at trace t) (change_at trace t) a n inside.0 inside.1 open' ∙ inside.2
        ∙ base_is trace k d h

    -- a close of it before turn u, which waited for the end
    pub record IsClosedBefore (u : At) : Type 0 where
      pub place : ℕ
      pub deed : Deed
      pub turn : At
      pub told : IsToldOf m w s turn place deed
      pub before : IsEarlier m w s turn u
      pub at : IsAt ds place deed
      pub closes : deed.part ≡ part.Close
      pub whose : deed.step.act ≡ a
      pub is : IsCloseOf m args log place (finish a n)
      pub waits : IsEnd ds place (finish_at ds place deed.step.act) k

    module _ (u : At) (earlier : IsEarlier m w s t u) (c : IsClosedOn m earlier.0 t.there (scopes_behind trace t) a n) where
      split : u.before ≡ (t.before ++ t.act ∷ c.before) ++ a ∷ c.after
      split =
          earlier.1 ∙ ap (λ l. t.before ++ t.act ∷ l) c.whole ∙ sym (append_assoc t.before (t.act ∷ c.before) (a ∷ c.after))

      abbrev v : At
      v = record {
        before = t.before ++ t.act ∷ c.before;
        after = c.after ++ u.act ∷ u.after;
        act = a;
        here = c.here;
        there = c.there;
        e = event.Closed;
        whole = u.whole ∙ ap (λ l. l ++ u.act ∷ u.after) split ∙ append_assoc (t.before ++ t.act ∷ c.before) (a ∷ c.after) (u.act ∷ u.after);
        leads = run_behind m t.before (t.act ∷ c.before) w t.here t.leads ∙ ap (λ o. run_on t.here o (run m c.before)) t.takes ∙ c.leads;
        takes = c.takes;
      }

      first : IsDeedOf m w s v part.Close
      first = first_deed m w s v part.Close refl

      abbrev shown : Shows trace first.number first.deed event.Closed
      shown = shows trace first.number first.deed event.Closed v first.told
          (subst (Says m (run_step v.act v.here v.there v.e) v.here v.there v.e first.told.offset) first.part
          (part_is m w s v first.number first.deed first.told).1)

      depth_is : shown.who.opened ≡ n
      depth_is = sym (many_open trace first.number first.deed event.Closed shown) ∙ c.depth

      same_within : number_at (scopes_at trace v).within a ≡ number_at (scopes_at trace t).within t.act
      same_within = ap (λ q. number_at q.within a) (scopes_between trace t v (c.before, refl)) ∙ c.same ∙ one_number

      closed_on : IsClosedBefore u
      closed_on = record {
        place = first.number;
        deed = first.deed;
        turn = v;
        told = first.told;
        before = (c.after, split);
        at = deed_at m w s v first.number first.deed first.told;
        closes = first.part;
        whose = shown.whose;
        is = record {
          deed = first.deed;
          at = deed_at m w s v first.number first.deed first.told;
          closes = first.part;
          here = c.here;
          there = world_of m args log v first.number first.deed first.told;
          who = shown.who;
          found = ap (slice_get c.here.activities) shown.whose ∙ shown.found;
          deepest = ap (λ i. innermost i shown.who) shown.whose ∙ ap (finish a) depth_is;
        };
        waits = (
          numbers_rise m w s v t first.number k first.deed d first.told h.told (c.before, refl),
          d,
          deed_at m w s t k d h.told,
          ends,
          in_finish trace k d event.Ended h ∙ sym same_within ∙ sym (in_finish trace first.number first.deed event.Closed shown),
        );
      }

    -- by turn u it is closed, or it is still the finish in which the activity ended
    pub closed_or_open : (u : At) → IsEarlier m w s t u → IsClosedBefore u
        ⊎ ((n ≤ opened_in u.here.activities a)
        × (number (nest_at trace u) a (opened_in u.here.activities a - n) ≡ number_at (scopes_at trace t).within t.act))
    closed_or_open u earlier =
        by (open_or_closed m a n inside.0 earlier.0 t.there u.here (scopes_behind trace t) (run_between m w s t u earlier) (numbered_behind trace t) open')
      where
        by : IsClosedOn m earlier.0 t.there (scopes_behind trace t) a n
            ⊎ StaysOpen a n (scopes_behind trace t) t.there (scopes_after (deeds m earlier.0 t.there) (scopes_behind trace t)) u.here
            → IsClosedBefore u
            ⊎ ((n ≤ opened_in u.here.activities a)
            × (number (nest_at trace u) a (opened_in u.here.activities a - n) ≡ number_at (scopes_at trace t).within t.act))
        by (inl c) = inl (closed_on u earlier c)
        by (inr p) = inr (
          p.0,
          subst (λ q. number (nest q u.here.activities) a (opened_in u.here.activities a - n) ≡ number_at (scopes_at trace t).within t.act)
              (sym (scopes_between trace t u earlier)) (p.1 ∙ one_number),
        )

  -- where it is the deepest of who closes one, that close waits for the end
  pub still_waits : (k j : ℕ) (d e : Deed) (ends : d.part ≡ part.End) (h : Shows trace k d event.Ended) (g : Shows trace j e event.Closed)
      → k < j
      → number (nest_at trace g.turn) g.turn.act (opened_in g.turn.here.activities g.turn.act - g.who.opened) ≡ number_at (scopes_at trace h.turn).within h.turn.act
      → IsEnd ds j (finish_at ds j e.step.act) k
  still_waits k j d e ends h g less same =
      let many = many_open trace j e event.Closed g in
      let top : opened_in g.turn.here.activities g.turn.act - g.who.opened ≡ 0 = omega (arith, many) in (
        less,
        d,
        deed_at m w s h.turn k d h.told,
        ends,
        in_finish trace k d event.Ended h ∙ sym same ∙ ap (number (nest_at trace g.turn) g.turn.act) top ∙ sym (in_finish trace j e event.Closed g),
      )

  -- the finish that a deed closes is the deepest of its turn
  pub closed_is : (j : ℕ) (f : Finish) (c : IsCloseOf m args log j f) (g : Shows trace j c.deed event.Closed)
      → f ≡ finish g.turn.act g.who.opened
  closed_is j f c g =
      sym c.deepest ∙ ap (λ i. innermost i c.who) g.whose
      ∙ ap (innermost g.turn.act) (same_who trace j c.deed event.Closed g c.here c.who c.there c.found)

  module _ (k : ℕ) (d : Deed) (h : Shows trace k d event.Ended) where
    abbrev ender : At
    ender = h.turn

    -- who ended is still there, has the same number, and is governed by the same finish
    abbrev pub IsThere : Scopes → World → Type 0
    IsThere q x = (ender.act < length x.activities) × (base (nest q x.activities) ender.act ≡ number_at (scopes_at trace ender).within ender.act)
        × ((nest q x.activities).governed ender.act ≡ h.who.governed)

    there_kept : (q : Scopes) (x y : World) (a : ℕ) (f : Event) → step m x a ≡ Stepped y f → IsReached m x
        → AreNumbered (nest q x.activities) → IsThere q x
        → IsThere (scopes_after (tell_deeds m a x y f) q) y
    there_kept q x y a f takes there was p =
        let c = change_step m x y a f q takes in
        let grown = activities_grow (nest q x.activities) (nest (scopes_after (tell_deeds m a x y f) q) y.activities) a f c in
        let i = p.0 in (
          omega (arith, grown, i),
          base_stays (nest q x.activities) (nest (scopes_after (tell_deeds m a x y f) q) y.activities) a f was c ender.act p.0 ∙ p.1,
          governed_stays (nest q x.activities) (nest (scopes_after (tell_deeds m a x y f) q) y.activities) a f c ender.act p.0 ∙ p.2,
        )

    pub there_later : (u : At) → IsEarlier m w s ender u → IsThere (scopes_at trace u) u.here
    there_later u earlier =
        between trace IsThere there_kept ender u earlier
        (there_kept (scopes_at trace ender) ender.here ender.there ender.act ender.e ender.takes (turn_reached m w s ender (reached trace))
        (numbered_at trace ender) (
          slice_get_within ender.here.activities ender.act h.who h.found,
          base_is trace k d h,
          ap (λ o. option_map_or (λ (x : Activity). x.governed) o root) h.found,
        ))

  module _ (k j : ℕ) (d e : Deed) (h : Shows trace k d event.Ended) (g : Shows trace j e event.Closed) (less : k < j)
      (same : number_at (scopes_at trace h.turn).within h.turn.act ≡ number_at (scopes_at trace g.turn).within g.turn.act) where
    abbrev ending : At
    ending = h.turn

    abbrev closing : At
    closing = g.turn

    abbrev depth : ℕ
    depth = g.who.opened

    at_close : IsThere k d h (scopes_at trace closing) closing.here
    at_close = there_later k d h closing (behind_end trace k j d e h g less)

    pub governed_so : h.who.governed ≡ finish closing.act depth
    governed_so =
        let many = many_open trace j e event.Closed g in
        let some = one_fewer trace j e g in
        let n : opened_in closing.here.activities closing.act - 0 ≡ depth = omega (arith, many) in
        sym at_close.2
        ∙ (numbered_at trace closing).governs ending.act closing.act 0 at_close.0 (omega (arith, many, some)) (sym same ∙ sym at_close.1)
        ∙ ap (finish closing.act) n

    -- one that is closed in between has another number than the one that is opened behind it
    pub none_between : (i : ℕ) → k < i → i < j → IsCloseOf m args log i (finish closing.act depth) → ⊥
    none_between i above below x = omega (arith, low, grown, top, same, high)
      where
        y : Shows trace i x.deed event.Closed
        y = shows_close trace i x.deed x.at x.closes

        v : At
        v = y.turn

        one : finish v.act y.who.opened ≡ finish closing.act depth
        one = ap (innermost v.act) (sym (same_who trace i x.deed event.Closed y x.here x.who x.there x.found))
            ∙ ap (λ a. innermost a x.who) (sym y.whose) ∙ x.deepest

        same_act : v.act ≡ closing.act
        same_act = same_Some v.act closing.act (ap (λ (f : Finish). f.owner) one)

        many : ℕ
        many = length (scopes_at trace v).around

        IsHigh : Scopes → World → Type 0
        IsHigh q r = IsAbove many closing.act depth (nest q r.activities)

        some : 0 < depth
        some = let n = one_fewer trace j e g in omega (arith, n)

        shut : depth ≤ opened_in v.there.activities closing.act
            → many ≤ number (nest_behind trace v) closing.act (opened_in v.there.activities closing.act - depth)
        shut le =
            let n = one_fewer trace i x.deed y in
            let o = ap (opened_in v.there.activities) same_act in
            let deep = ap (λ (f : Finish). f.depth) one in
            absurd (omega (arith, n, o, deep, le))

        high_at : IsHigh (scopes_at trace closing) closing.here
        high_at = between trace IsHigh
            (λ q a b c f takes there was p.
            above_stays (nest q a.activities) (nest (scopes_after (tell_deeds m c a b f) q) b.activities) c f was
            (change_step m a b c f q takes) many closing.act depth some p)
            v closing (behind_close trace i j x.deed e y g below)
            (finishes_grow (nest_at trace v) (nest_behind trace v) v.act v.e (change_at trace v), shut)

        top : number (nest_at trace closing) closing.act (opened_in closing.here.activities closing.act - depth)
            ≡ number_at (scopes_at trace closing).within closing.act
        top =
            let n = many_open trace j e event.Closed g in
            let zero' : opened_in closing.here.activities closing.act - depth ≡ 0 = omega (arith, n) in
            ap (number (nest_at trace closing) closing.act) zero'

        high : many ≤ number (nest_at trace closing) closing.act (opened_in closing.here.activities closing.act - depth)
        high = let n = many_open trace j e event.Closed g in high_at.1 (omega (arith, n))

        low : number_at (scopes_at trace ending).within ending.act < length (scopes_at trace ending).around
        low = (numbered_at trace ending).within ending.act

        IsWide : Scopes → World → Type 0
        IsWide q r = length (scopes_at trace ending).around ≤ length q.around

        grown : length (scopes_at trace ending).around ≤ many
        grown = between trace IsWide
            (λ q a b c f takes there was p.
            (let more = finishes_grow (nest q a.activities) (nest (scopes_after (tell_deeds m c a b f) q) b.activities) c f
            (change_step m a b c f q takes) in
            omega (arith, more, p)))
            ending v (behind_end trace k i d x.deed h y above)
            (finishes_grow (nest_at trace ending) (nest_behind trace ending) ending.act ending.e (change_at trace ending))
