-- Classes: a step put in front, one class after another, and what all schedules of a class have in common.
use Rattle.std.proofs.Common.{◌≡◌, ℕ, suc, ◌+◌, ℤ, ◌==◌, Bool, true, false, true≢false, cond, List, [], ◌∷◌, ◌++◌, map, Option, Some, None, option_map, refl, sym, ap, ◌∙◌, subst, eqb-true, ◌<◌, length, arith}
use Rattle.std.specs.Prelude.{filter, count_by}
use Rattle.std.specs.List.{filter_map, cons_option}
use Rattle.std.specs.Ordering.{int_eq}
use Rattle.std.proofs.lemmas.List.Elements.{filter-append}
use Rattle.std.proofs.lemmas.Option.{slice_get_within}
use Rattle.xk_types.specs.declared.world.Event.{Event}
use Rattle.xk_types.specs.Acceptance.{IsAccepted}
use Rattle.xk_types.specs.Code.{ModuleValue, IsWithinLimits}
use Rattle.xk_types.specs.World.{World}
use Rattle.xk_types.specs.Step.{Outcome, Blocked, Wrong, Stepped, step}
use Rattle.xk_types.specs.Schedule.{Through, run, IsReached, events, events_on, number_printed, printed}
use Rattle.xk_law_commute.proofs.ChangeSquareLemmas.{found_of}
use Rattle.xk_law_names.specs.Names.{Exchange, all_named, AreSameBy, exchange_of}
use Rattle.xk_law_names.proofs.NameLaw.{same_itself, same_joined, named_same, named_append, clocks_unnamed, clock_append}
use Rattle.xk_law_names.proofs.ActivityNameOrderLaw.{run_first}
use Rattle.xk_law_traces.specs.Moments.{is_print, moments, is_start, starters, positions_of, started_by}
use Rattle.xk_law_traces.specs.Classes.{DoCommute, AreSwapped, Turn, AreJoined, AreOneClass, names_along, name_in, IsMet}
use Rattle.xk_law_traces.specs.RaceFreedom.{HasNeverTwo}
use Rattle.xk_law_traces.specs.OneRun.{GoesAsWell}
use Rattle.xk_law_traces.proofs.SwapLemmas.{Deed, Entry, deed_named, entry_named, stand_of, entry_of, entries, entries_on, event_in, events_filtered, reached_run, IsExchange, exchange}
use Rattle.xk_law_traces.proofs.ExchangeLemmas.{stays_named}
use Rattle.xk_law_traces.proofs.PrintLemmas.{numbers_in, printed_are, printed_alone, numbers_named, crossed_count}
use Rattle.xk_law_traces.proofs.StepEventLemmas.{grown}

-- ---- one class after another

pub class_same : (m : ModuleValue) (w : World) (s t : List ℕ) → s ≡ t → AreOneClass m w s t
class_same m w s t h = record { between = []; joined = h }

pub class_swap : (m : ModuleValue) (w : World) (s : List ℕ) (xs : List Exchange) (t : List ℕ) → AreSwapped m w s xs t → AreOneClass m w s t
class_swap m w s xs t h = record { between = (xs, t) ∷ []; joined = (h, refl) }

joined_on : (m : ModuleValue) (w : World) (us vs : List Turn) (s t u : List ℕ) → AreJoined m w s us t → AreJoined m w t vs u
    → AreJoined m w s (us ++ vs) u
joined_on m w [] vs s t u h g = subst (λ x. AreJoined m w x vs u) (sym h) g
joined_on m w (x ∷ us) vs s t u h g = (h.0, joined_on m w us vs x.1 t u h.1 g)

pub class_on : (m : ModuleValue) (w : World) (s t u : List ℕ) → AreOneClass m w s t → AreOneClass m w t u → AreOneClass m w s u
class_on m w s t u h g = record { between = h.between ++ g.between; joined = joined_on m w h.between g.between s t u h.joined g.joined }

-- ---- a step in front

swap_behind : (m : ModuleValue) (w u : World) (a : ℕ) (e : Event) → step m w a ≡ Stepped u e
    → (s : List ℕ) (xs : List Exchange) (t : List ℕ) → AreSwapped m u s xs t
    → AreSwapped m w (a ∷ s) xs (a ∷ t)
swap_behind m w u a e h s xs t x = record {
  before = a ∷ x.before;
  first = x.first;
  second = x.second;
  after = x.after;
  here = x.here;
  leads = run_first m x.before w u a e h ∙ x.leads;
  commute = x.commute;
  exchanges = x.exchanges;
  this = ap (λ l. a ∷ l) x.this;
  other = ap (λ l. a ∷ l) x.other;
}

abbrev behind : ℕ → Turn → Turn
behind a x = (x.0, a ∷ x.1)

joined_behind : (m : ModuleValue) (w u : World) (a : ℕ) (e : Event) → step m w a ≡ Stepped u e → (us : List Turn) (s t : List ℕ)
    → AreJoined m u s us t
    → AreJoined m w (a ∷ s) (map (behind a) us) (a ∷ t)
joined_behind m w u a e h [] s t g = ap (λ l. a ∷ l) g
joined_behind m w u a e h (x ∷ us) s t g = (swap_behind m w u a e h s x.0 x.1 g.0, joined_behind m w u a e h us x.1 t g.1)

pub class_behind : (m : ModuleValue) (w u : World) (a : ℕ) (e : Event) → step m w a ≡ Stepped u e → (s t : List ℕ) → AreOneClass m u s t
    → AreOneClass m w (a ∷ s) (a ∷ t)
class_behind m w u a e h s t g = record { between = map (behind a) g.between; joined = joined_behind m w u a e h g.between s t g.joined }

-- ---- worlds to which a class comes

pub met_itself : (m : ModuleValue) (w : World) (s : List ℕ) → IsMet m w s w
met_itself m w s = record { before = []; after = s; member = class_same m w s s refl; leads = refl }

pub met_by : (m : ModuleValue) (w v : World) (s t : List ℕ) → AreOneClass m w s t → IsMet m w t v → IsMet m w s v
met_by m w v s t h g =
    record { before = g.before; after = g.after; member = class_on m w s t (g.before ++ g.after) h g.member; leads = g.leads }

pub met_behind : (m : ModuleValue) (w u v : World) (a : ℕ) (e : Event) (s : List ℕ) → step m w a ≡ Stepped u e → IsMet m u s v
    → IsMet m w (a ∷ s) v
met_behind m w u v a e s h g = record {
  before = a ∷ g.before;
  after = g.after;
  member = class_behind m w u a e h s (g.before ++ g.after) g.member;
  leads = run_first m g.before w u a e h ∙ g.leads;
}

-- ---- what each activity does, and what is done with some events

abbrev by_event : (Event → Bool) → Entry → Bool
by_event test x = test x.1.0

abbrev pub by_taker : ℕ → Entry → Bool
by_taker a x = x.0 == a

abbrev pub deed_in : Entry → Deed
deed_in x = x.1

abbrev only_event : Entry → Event
only_event x = x.1.0

abbrev pub deeds : ModuleValue → List ℕ → World → ℕ → List Deed
deeds m list w a = map deed_in (filter (by_taker a) (entries m list w))

-- entries by other numbers that pass
abbrev named_entries : (Entry → Bool) → List Exchange → List Entry → List Entry
named_entries test xs es = filter test (map (entry_named xs) es)

-- by other numbers the deeds are the same, but for the numbers of activities that are started; and so are events
named_deeds : (xs : List Exchange) (a : ℕ) (es : List Entry)
    → map deed_in (named_entries (by_taker (all_named xs a)) xs es) ≡ map (deed_named xs) (map deed_in (filter (by_taker a) es))
named_deeds xs a [] = refl
named_deeds xs a (x ∷ es) = by (all_named xs x.0 == all_named xs a) (x.0 == a) (named_same xs x.0 a) (named_deeds xs a es)
  where
    named : List Entry
    named = named_entries (by_taker (all_named xs a)) xs es

    by : (p q : Bool) → p ≡ q → map deed_in named ≡ map (deed_named xs) (map deed_in (filter (by_taker a) es))
        → map deed_in (cond p (entry_named xs x ∷ named) named)
        ≡ map (deed_named xs) (map deed_in (cond q (x ∷ filter (by_taker a) es) (filter (by_taker a) es)))
    by true true e h = ap (λ ds. deed_named xs x.1 ∷ ds) h
    by false false e h = h
    by true false e h = absurd (true≢false e)
    by false true e h = absurd (true≢false (sym e))

named_events : (test : Event → Bool) (xs : List Exchange) (es : List Entry)
    → map only_event (named_entries (by_event test) xs es) ≡ map only_event (filter (by_event test) es)
named_events test xs [] = refl
named_events test xs (x ∷ es) = by (test x.1.0) (named_events test xs es)
  where
    named : List Entry
    named = named_entries (by_event test) xs es

    by : (q : Bool) → map only_event named ≡ map only_event (filter (by_event test) es)
        → map only_event (cond q (entry_named xs x ∷ named) named)
        ≡ map only_event (cond q (x ∷ filter (by_event test) es) (filter (by_event test) es))
    by true h = ap (λ ds. x.1.0 ∷ ds) h
    by false h = h

-- numbers twice exchanged
child_on : (xs ys : List Exchange) (o : Option ℕ)
    → option_map (all_named ys) (option_map (all_named xs) o) ≡ option_map (all_named (xs ++ ys)) o
child_on xs ys None = refl
child_on xs ys (Some n) = ap (λ k. Some k) (sym (named_append xs ys n))

deeds_on : (xs ys : List Exchange) (ds : List Deed) → map (deed_named ys) (map (deed_named xs) ds) ≡ map (deed_named (xs ++ ys)) ds
deeds_on xs ys [] = refl
deeds_on xs ys (d ∷ ds) =
    let stage : (k : ℕ) → d.1.1 (clocks_unnamed xs (clocks_unnamed ys k)) ≡ d.1.1 (clocks_unnamed (xs ++ ys) k) =
    λ k. ap d.1.1 (sym (clock_append xs ys k)) in
    λ i. (d.0, (d.1.0, λ k. stage k i), child_on xs ys d.2 i) ∷ deeds_on xs ys ds i

deeds_same : (ds : List Deed) → map (deed_named []) ds ≡ ds
deeds_same [] = refl
deeds_same (d ∷ ds) = λ i. (d.0, d.1, by d.2 i) ∷ deeds_same ds i
  where
    by : (o : Option ℕ) → option_map (all_named []) o ≡ o
    by None = refl
    by (Some n) = refl

-- two entries of which not both pass, in either order
crossed : (p : Entry → Bool) (front back : List Entry) (x y : Entry) → (p x ≡ true → p y ≡ true → ⊥)
    → filter p (front ++ x ∷ y ∷ back) ≡ filter p (front ++ y ∷ x ∷ back)
crossed p front back x y h =
    filter-append p front (x ∷ y ∷ back) ∙ ap (λ l. filter p front ++ l) (by (p x) (p y) h) ∙ sym (filter-append p front (y ∷ x ∷ back))
  where
    by : (q r : Bool) → (q ≡ true → r ≡ true → ⊥)
        → cond q (x ∷ cond r (y ∷ filter p back) (filter p back)) (cond r (y ∷ filter p back) (filter p back))
        ≡ cond r (y ∷ cond q (x ∷ filter p back) (filter p back)) (cond q (x ∷ filter p back) (filter p back))
    by true true g = absurd (g refl refl)
    by true false g = refl
    by false r g = refl

-- ---- what all schedules of a class have in common

-- by these exchanges the other schedule is legal, leads to a world that is the same, each activity does the same in it, as many numbers
-- that pass are printed, and where no two steps with such events could be taken at once, they are taken in one order
pub record GoesOn (m : ModuleValue) (w z : World) (s t : List ℕ) (xs : List Exchange) : Type 0 where
  pub last : World
  pub legal : run m t w ≡ Through last
  pub alike : AreSameBy xs z last
  pub does : (a : ℕ) → deeds m t w (all_named xs a) ≡ map (deed_named xs) (deeds m s w a)
  pub counts : (p : ℤ → Bool) → count_by p (numbers_in (entries m s w)) ≡ count_by p (numbers_in (entries m t w))
  pub tells : (test : Event → Bool) → HasNeverTwo test m w s
      → map only_event (filter (by_event test) (entries m s w)) ≡ map only_event (filter (by_event test) (entries m t w))

module _ (m : ModuleValue) (limits : IsWithinLimits m) (ok : IsAccepted m) (w : World) (reached : IsReached m w) where
  -- one swap
  swapped_goes : (s : List ℕ) (xs : List Exchange) (t : List ℕ) (z : World) → AreSwapped m w s xs t → run m s w ≡ Through z
      → GoesOn m w z s t xs
  swapped_goes s xs t z k legal = subst (λ ys. GoesOn m w z s t ys) (sym k.exchanges) (record {
    last = r.last;
    legal = ap (λ l. run m l w) other ∙ r.legal;
    alike = r.alike;
    does = λ a.
        ap (λ l. deeds m l w (f a)) other ∙ ap (λ es. map deed_in (filter (by_taker (f a)) es)) r.other
        ∙ named_deeds names a (r.front ++ y ∷ x ∷ r.back)
        ∙ ap (λ es. map (deed_named names) (map deed_in es))
        (crossed (by_taker a) r.front r.back y x (λ h g. c.differ (eqb-true k.second a h ∙ sym (eqb-true k.first a g))))
        ∙ sym (ap (λ l. map (deed_named names) (deeds m l w a)) k.this
        ∙ ap (λ es. map (deed_named names) (map deed_in (filter (by_taker a) es))) r.this);
    counts = λ p.
        ap (λ l. count_by p (numbers_in (entries m l w))) k.this ∙ ap (λ es. count_by p (numbers_in es)) r.this
        ∙ crossed_count p r.front r.back x y ∙ sym (ap (count_by p) (numbers_named names (r.front ++ y ∷ x ∷ r.back)))
        ∙ sym (ap (λ l. count_by p (numbers_in (entries m l w))) other ∙ ap (λ es. count_by p (numbers_in es)) r.other);
    tells = λ test never.
        ap (λ l. map only_event (filter (by_event test) (entries m l w))) k.this
        ∙ ap (λ es. map only_event (filter (by_event test) es)) r.this
        ∙ ap (map only_event) (crossed (by_event test) r.front r.back x y
        (never k.here met k.first k.second c.differ c.first_world c.second_world c.first_event c.second_event c.first_steps c.second_steps))
        ∙ sym (ap (λ l. map only_event (filter (by_event test) (entries m l w))) other
        ∙ ap (λ es. map only_event (filter (by_event test) es)) r.other
        ∙ named_events test names (r.front ++ y ∷ x ∷ r.back));
  })
    where
      c : DoCommute m k.here k.first k.second
      c = k.commute

      names : List Exchange
      names = exchange_of m k.here k.first k.second

      f : ℕ → ℕ
      f = all_named names

      other : t ≡ k.before ++ k.second ∷ k.first ∷ map f k.after
      other = k.other ∙ ap (λ ys. k.before ++ k.second ∷ k.first ∷ map (all_named ys) k.after) k.exchanges

      r : IsExchange m limits ok w z k.here k.before k.after k.first k.second c
      r = exchange m limits ok k.before w k.here z k.after k.first k.second c reached k.leads (ap (λ l. run m l w) (sym k.this) ∙ legal)

      x : Entry
      x = entry_of k.here k.first c.first_event

      y : Entry
      y = entry_of c.first_world k.second c.second_event

      met : IsMet m w s k.here
      met = record {
        before = k.before;
        after = k.first ∷ k.second ∷ k.after;
        member = class_same m w s (k.before ++ k.first ∷ k.second ∷ k.after) k.this;
        leads = k.leads;
      }

  joined_goes : (us : List Turn) (s t : List ℕ) (z : World) → AreJoined m w s us t → run m s w ≡ Through z
      → GoesOn m w z s t (names_along us)
  joined_goes [] s t z h legal = record {
    last = z;
    legal = ap (λ l. run m l w) (sym h) ∙ legal;
    alike = same_itself z;
    does = λ a. ap (λ l. deeds m l w a) (sym h) ∙ sym (deeds_same (deeds m s w a));
    counts = λ p. ap (λ l. count_by p (numbers_in (entries m l w))) h;
    tells = λ test never. ap (λ l. map only_event (filter (by_event test) (entries m l w))) h;
  }
  joined_goes (x ∷ us) s t z h legal =
      let r : GoesOn m w z s x.1 x.0 = swapped_goes s x.0 x.1 z h.0 legal in
      let rest : GoesOn m w r.last x.1 t (names_along us) = joined_goes us x.1 t r.last h.1 r.legal in
      record {
        last = rest.last;
        legal = rest.legal;
        alike = same_joined x.0 (names_along us) z r.last rest.last r.alike rest.alike;
        does = λ a.
            ap (deeds m t w) (named_append x.0 (names_along us) a) ∙ rest.does (all_named x.0 a)
            ∙ ap (map (deed_named (names_along us))) (r.does a) ∙ deeds_on x.0 (names_along us) (deeds m s w a);
        counts = λ p. r.counts p ∙ rest.counts p;
        tells = λ test never. r.tells test never ∙ rest.tells test (λ v g. never v (met_by m w v s x.1 (class_swap m w s x.0 x.1 h.0) g));
      }

  class_goes : (s t : List ℕ) (z : World) (member : AreOneClass m w s t) → run m s w ≡ Through z
      → GoesOn m w z s t (names_along member.between)
  class_goes s t z member legal = joined_goes member.between s t z member.joined legal

-- ---- main

module _ (m : ModuleValue) (limits : IsWithinLimits m) (ok : IsAccepted m) (w : World) (reached : IsReached m w) where
  main_joined : (us : List Turn) (s t : List ℕ) (z : World) → AreJoined m w s us t → run m s w ≡ Through z
      → all_named (names_along us) 0 ≡ 0
  main_joined [] s t z h legal = refl
  main_joined (x ∷ us) s t z h legal =
      let k : AreSwapped m w s x.0 x.1 = h.0 in
      let there : IsReached m k.here = reached_run m k.before w k.here reached k.leads in
      let a = found_of m k.here k.first k.commute.first_world k.commute.first_event k.commute.first_steps in
      let inside : k.first < length k.here.activities = slice_get_within k.here.activities k.first a.0 a.1 in
      let r : GoesOn m w z s x.1 x.0 = swapped_goes m limits ok w reached s x.0 x.1 z k legal in
      named_append x.0 (names_along us) 0
      ∙ ap (all_named (names_along us))
      (ap (λ ys. all_named ys 0) k.exchanges ∙ stays_named m limits ok k.here k.first k.second k.commute there 0 (omega arith))
      ∙ main_joined us x.1 t r.last h.1 r.legal

  -- main keeps its number
  pub main_stays : (s t : List ℕ) (z : World) (member : AreOneClass m w s t) → run m s w ≡ Through z → name_in member 0 ≡ 0
  main_stays s t z member legal = main_joined member.between s t z member.joined legal

-- ---- by events alone

moments_are : (m : ModuleValue) (list : List ℕ) (w : World) (a : ℕ) → moments m list w a ≡ map (λ (d : Deed). d.0) (deeds m list w a)
moments_are m list w a = ap (map (λ (p : ℕ × Event). p.1)) (events_filtered (λ x. x.0 == a) m list w)
    ∙ by (filter (by_taker a) (entries m list w))
  where
    by : (es : List Entry) → map (λ (p : ℕ × Event). p.1) (map event_in es) ≡ map (λ (d : Deed). d.0) (map deed_in es)
    by [] = refl
    by (x ∷ es) = ap (λ l. x.1.0 ∷ l) (by es)

events_named : (xs : List Exchange) (ds : List Deed) → map (λ (d : Deed). d.0) (map (deed_named xs) ds) ≡ map (λ (d : Deed). d.0) ds
events_named xs [] = refl
events_named xs (d ∷ ds) = ap (λ l. d.0 ∷ l) (events_named xs ds)

-- the activities that deeds start
abbrev children : List Deed → List ℕ
children ds = filter_map (λ d. d.2) ds

children_named : (xs : List Exchange) (ds : List Deed) → map (all_named xs) (children ds) ≡ children (map (deed_named xs) ds)
children_named xs [] = refl
children_named xs (d ∷ ds) = by d.2 (children_named xs ds)
  where
    by : (o : Option ℕ) → map (all_named xs) (children ds) ≡ children (map (deed_named xs) ds)
        → map (all_named xs) (cons_option o (children ds)) ≡ cons_option (option_map (all_named xs) o) (children (map (deed_named xs) ds))
    by None h = h
    by (Some n) h = ap (λ l. all_named xs n ∷ l) h

-- an activity starts those that its deeds start
started_are : (m : ModuleValue) (list : List ℕ) (w : World) (a : ℕ) → started_by m list w a ≡ children (deeds m list w a)
started_are m [] w a = refl
started_are m (b ∷ list) w a = by (step m w b) (λ u e h. grown m w u b e h) (λ u. started_are m list u a)
  where
    n : ℕ
    n = length w.activities

    -- from another world on: what activity a starts, if the next one that is started has number k; its entries; and all starts
    after : World → ℕ → List ℕ
    after u k = positions_of a k (starters m list u)

    own : World → List Entry
    own u = filter (by_taker a) (entries m list u)

    begun : World → List (ℕ × Event)
    begun u = filter (λ (p : ℕ × Event). is_start p.1) (events m list u)

    goes_on : (u : World) (k : ℕ) → length u.activities ≡ k → started_by m list u a ≡ children (deeds m list u a)
        → after u k ≡ children (map deed_in (own u))
    goes_on u k many rest = ap (after u) (sym many) ∙ rest

    one_more : (u : World) (e : Event) (r : Bool) → after u (suc n) ≡ children (map deed_in (own u))
        → cond r (n ∷ after u (suc n)) (after u (suc n)) ≡ children (map deed_in (cond r ((b, (e, stand_of w b, Some n)) ∷ own u) (own u)))
    one_more u e true h = ap (λ l. n ∷ l) h
    one_more u e false h = h

    no_more : (u : World) (e : Event) (r : Bool) → after u n ≡ children (map deed_in (own u))
        → after u n ≡ children (map deed_in (cond r ((b, (e, stand_of w b, None)) ∷ own u) (own u)))
    no_more u e true h = h
    no_more u e false h = h

    by_start : (u : World) (e : Event) (q : Bool) → length u.activities ≡ n + cond q 1 0
        → started_by m list u a ≡ children (deeds m list u a)
        → positions_of a n (map (λ (p : ℕ × Event). p.0) (cond q ((b, e) ∷ begun u) (begun u)))
        ≡ children (map deed_in (cond (b == a) ((b, (e, stand_of w b, cond q (Some n) None)) ∷ own u) (own u)))
    by_start u e true many rest = one_more u e (b == a) (goes_on u (suc n) (omega arith) rest)
    by_start u e false many rest = no_more u e (b == a) (goes_on u n (omega arith) rest)

    by : (o : Outcome) → ((u : World) (e : Event) → o ≡ Stepped u e → length u.activities ≡ n + cond (is_start e) 1 0)
        → ((u : World) → started_by m list u a ≡ children (deeds m list u a))
        → positions_of a n (map (λ (p : ℕ × Event). p.0) (filter (λ (p : ℕ × Event). is_start p.1) (events_on b o (events m list))))
        ≡ children (map deed_in (filter (by_taker a) (entries_on b w o (entries m list))))
    by Blocked many rest = refl
    by (Wrong c) many rest = refl
    by (Stepped u e) many rest = by_start u e (is_start e) (many u e refl) (rest u)

module _ (m : ModuleValue) (limits : IsWithinLimits m) (ok : IsAccepted m) (w z : World) (reached : IsReached m w)
    (s t : List ℕ) (member : AreOneClass m w s t) (legal : run m s w ≡ Through z) where
  goes : GoesOn m w z s t (names_along member.between)
  goes = class_goes m limits ok w reached s t z member legal

  -- what each activity does
  pub same_deeds : (a : ℕ) → deeds m t w (name_in member a) ≡ map (deed_named (names_along member.between)) (deeds m s w a)
  same_deeds a = goes.does a

  pub class_as_well : GoesAsWell m w s t member z
  class_as_well = record {
    last = goes.last;
    legal = goes.legal;
    alike = goes.alike;
    same = λ a.
        moments_are m s w a ∙ sym (events_named (names_along member.between) (deeds m s w a))
        ∙ ap (map (λ (d : Deed). d.0)) (sym (goes.does a)) ∙ sym (moments_are m t w (name_in member a));
    starts = λ a.
        ap (map (name_in member)) (started_are m s w a) ∙ children_named (names_along member.between) (deeds m s w a)
        ∙ ap children (sym (goes.does a)) ∙ sym (started_are m t w (name_in member a));
    numbers = λ n. ap (count_by (int_eq n)) (printed_are m s w) ∙ goes.counts (int_eq n)
        ∙ sym (ap (count_by (int_eq n)) (printed_are m t w));
  }

  pub class_prints : HasNeverTwo is_print m w s → printed m s w ≡ printed m t w
  class_prints never =
      printed_alone m s w ∙ by_events (filter (by_event is_print) (entries m s w))
      ∙ ap (filter_map number_printed) (goes.tells is_print never)
      ∙ sym (printed_alone m t w ∙ by_events (filter (by_event is_print) (entries m t w)))
    where
      by_events : (es : List Entry) → numbers_in es ≡ filter_map number_printed (map only_event es)
      by_events [] = refl
      by_events (x ∷ es) = ap (cons_option (number_printed x.1.0)) (by_events es)
