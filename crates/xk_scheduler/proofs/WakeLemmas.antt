-- Those who can take a step, and those who are held back, after a step whose advances have been looked at.
use Rattle.std.proofs.Common.{◌≡◌, ◌∙◌, ℕ, zero, suc, ◌+◌, ◌<◌, ◌≤◌, ◌==◌, not, Bool, true, false, true≢false, cond, List, [], ◌∷◌, length, filter, get_or, drop, drop-cons, add-one, All, Option, Some, None, slice_get, ◌⊎◌, inl, inr, refl, sym, ap, subst, arith}
use Rattle.std.specs.Option.{option_map_or}
use Rattle.std.proofs.lemmas.Bool.{cases_eq, cases_lt}
use Rattle.std.proofs.lemmas.List.Elements.{All-from_get_or}
use Rattle.xk_types.specs.declared.world.Event.{Event}
use Rattle.xk_types.specs.declared.world.Event.TheVariants as event
use Rattle.xk_types.specs.declared.world.Status.{Status}
use Rattle.xk_types.specs.declared.world.Status.TheVariants as status
use Rattle.xk_types.specs.Code.{ModuleValue}
use Rattle.xk_types.specs.World.{Activity, Clock, World}
use Rattle.xk_types.specs.Step.{Stepped, step, step_by, step_of, passing, waits}
use Rattle.xk_types.specs.Schedule.{is_step, is_enabled}
use Rattle.xk_types.proofs.MembershipLemmas.{same_test}
use Rattle.xk_collections.specs.NumberSets.{numbers_from, with_member}
use Rattle.xk_collections.specs.WaitingLists.{times, times_in_all, waiters, taken, left}
use Rattle.xk_collections.proofs.RemainderLemmas.{left_times, left_length, left_stands, stands_in}
use Rattle.xk_collections.proofs.OccurrenceLemmas.{first_times, other_times, list_times}
use Rattle.xk_core.specs.Core.{IsCore, governor}
use Rattle.xk_core.specs.Core.{is_held_back_by, has_advanced, advanced_now, is_quiet}
use Rattle.xk_scheduler.specs.Choosers.{enabled_in}
use Rattle.xk_scheduler.specs.Waiters.{IsHeldNow, AreHeld, AreAsked, IsAsked, IsPut, IsNotedIn}
use Rattle.xk_core.specs.Core.{is_arrived, is_waiting}
use Rattle.xk_scheduler.proofs.WaiterUpdateLemmas.{IsListAsked, AreListsAsked, list_asked, lists_asked}
use Rattle.xk_scheduler.proofs.BlockingClockLemmas.{held_on, waits_by, free_on, none_went}
use Rattle.xk_scheduler.proofs.EnabledSetLemmas.{IsOneStep, step_widens}
use Rattle.xk_scheduler.proofs.IndependenceLemmas.{untouched_by, awake_after, awake_fresh, waiting_same, waiting_within, waits_after}

-- ---- the clocks that advanced

-- who is in a row of numbers that pass a test
in_row : (p : ℕ → Bool) (c a n : ℕ) → 0 < times c (filter p (numbers_from a n)) → c < a + n
in_row p c a zero some = absurd (omega arith)
in_row p c a (suc n) some = of (p a) some (in_row p c (suc a) n)
  where
    of : (b : Bool) → 0 < times c (cond b (a ∷ filter p (numbers_from (suc a) n)) (filter p (numbers_from (suc a) n)))
        → (0 < times c (filter p (numbers_from (suc a) n)) → c < suc a + n) → c < a + suc n
    of true here later = elim (cases_eq a c) [
      | inl e ↦ omega (arith, e)
      | inr ne ↦ (let less = later (omega (arith, here, other_times c a (filter p (numbers_from (suc a) n)) ne)) in omega arith)
    ]
    of false here later = let less = later here in omega arith

-- who isn't doesn't pass it
out_of_row : (p : ℕ → Bool) (c a n : ℕ) → times c (filter p (numbers_from a n)) ≡ 0 → a ≤ c → c < a + n → p c ≡ false
out_of_row p c a zero none from below = absurd (omega arith)
out_of_row p c a (suc n) none from below = of (p a) refl none (out_of_row p c (suc a) n)
  where
    of : (b : Bool) → p a ≡ b → times c (cond b (a ∷ filter p (numbers_from (suc a) n)) (filter p (numbers_from (suc a) n))) ≡ 0
        → (times c (filter p (numbers_from (suc a) n)) ≡ 0 → suc a ≤ c → c < suc a + n → p c ≡ false) → p c ≡ false
    of true is here later = later (omega (arith, here)) (omega (arith, from, differs)) (omega (arith, below))
      where
        differs : c ≡ a → ⊥
        differs e = omega (arith, here, ap (λ x. times x (a ∷ filter p (numbers_from (suc a) n))) e, first_times a (filter p (numbers_from (suc a) n)))
    of false is here later = elim (cases_eq c a) [
      | inl e ↦ ap p e ∙ is
      | inr ne ↦ later here (omega (arith, from, ne)) (omega (arith, below))
    ]

on_there : (f : Clock → Bool) (clocks : List Clock) (c : ℕ) → option_map_or f (slice_get clocks c) false ≡ true → c < length clocks
on_there f [] c h = absurd (true≢false (sym h))
on_there f (k ∷ clocks) zero h = omega arith
on_there f (k ∷ clocks) (suc c) h = let later = on_there f clocks c h in omega arith

advanced_there : (v : World) (c : ℕ) → 0 < times c (advanced_now v) → c < length v.clocks
advanced_there v c some = omega (arith, in_row (has_advanced v) c 0 (length v.clocks) some)

-- a clock that isn't among those that advanced didn't
not_advanced : (v : World) (c : ℕ) → times c (advanced_now v) ≡ 0 → has_advanced v c ≡ false
not_advanced v c none = of (has_advanced v c) refl
  where
    of : (b : Bool) → has_advanced v c ≡ b → b ≡ false
    of false e = refl
    of true e = sym e ∙ out_of_row (has_advanced v) c 0 (length v.clocks) none (omega arith) (omega (arith, on_there (λ k. k.last == v.steps) v.clocks c e))

-- where none did, they are none
pub none_pass : (p : ℕ → Bool) (row : List ℕ) → ((c : ℕ) → p c ≡ false) → filter p row ≡ []
none_pass p [] none = refl
none_pass p (c ∷ row) none = rw (none c) (none_pass p row none)

advanced_none : (v : World) → is_quiet v ≡ true → advanced_now v ≡ []
advanced_none v quiet = none_pass (has_advanced v) (numbers_from 0 (length v.clocks)) (λ c. none_went v.steps v.clocks quiet c)

-- and nobody is asked
pub asked_none : (v : World) (list : List ℕ) (lists : List (List ℕ)) → is_quiet v ≡ true → AreAsked v (taken lists (advanced_now v)) list (left lists (advanced_now v)) list lists
asked_none v list lists quiet = subst (λ (l : List ℕ). AreAsked v (taken lists l) list (left lists l) list lists) (sym (advanced_none v quiet)) (refl, refl)

held_there : (w : World) (b c : ℕ) → is_held_back_by w b c ≡ true → c < length w.clocks
held_there w b c h = on_there _ w.clocks c h

-- ---- who waits at an `advance` can take a step exactly if no clock holds it back

waiting_enabled : (m : ModuleValue) (w : World) (b : ℕ) → is_waiting w b ≡ true → is_enabled m w b ≡ not (waits w b)
waiting_enabled m w b h = of (slice_get w.activities b) h
  where
    tested : (x : Activity) (t : Bool) → waits w b ≡ t → is_step (passing w b x) ≡ not (waits w b)
    tested x true e = rw e refl
    tested x false e = rw e refl

    by : (x : Activity) (s : Status) → is_arrived s ≡ true → is_step (step_by m w b x s) ≡ not (waits w b)
    by x status.Running g = absurd (true≢false (sym g))
    by x status.Arrived g = tested x (waits w b) refl
    by x status.Ended g = absurd (true≢false (sym g))

    of : (o : Option Activity) → option_map_or (λ (y : Activity). is_arrived y.status) o false ≡ true → is_step (step_of m w b o) ≡ not (waits w b)
    of None g = absurd (true≢false (sym g))
    of (Some x) g = by x x.status g

-- ---- a step

-- what a step comes to where those who were held back by clocks that advanced have been asked anew; the activity that took it stands in no list
pub record IsWokenTo (m : ModuleValue) (w v : World) (a : ℕ) (e : Event) (next : List ℕ) (later : List (List ℕ)) : Type 0 where
  pub test : ℕ → Bool
  pub list_is : next ≡ filter test (numbers_from 0 (length w.activities))
  pub step : IsOneStep m w v a e test
  pub nowhere : times_in_all a later ≡ 0
  pub once : (b : ℕ) → times_in_all b later ≤ 1
  pub stands : (c b : ℕ) → 0 < times b (waiters later c) → (is_waiting v b ≡ true) × (is_held_back_by v b c ≡ true)
  pub covers : (b : ℕ) → (b ≡ a → ⊥) → is_waiting v b ≡ true → waits v b ≡ true → 0 < times_in_all b later

module _ (m : ModuleValue) (w v : World) (a : ℕ) (e : Event) (lists : List (List ℕ)) (core : IsCore m w) (stepped : step m w a ≡ Stepped v e)
    (held : AreHeld w lists) (wide : length v.clocks ≤ length lists) where
  abbrev n : ℕ
  n = length w.activities

  abbrev acts : List ℕ
  acts = taken lists (advanced_now v)

  abbrev rest : List (List ℕ)
  rest = left lists (advanced_now v)

  there : (c : ℕ) → 0 < times c (advanced_now v) → c < length lists
  there c some = let h = advanced_there v c some in omega arith

  conserved : (b : ℕ) → times b acts + times_in_all b rest ≡ times_in_all b lists
  conserved b = left_times b lists (advanced_now v) there

  -- who stood in a list waited, and was held back
  waited : (b : ℕ) → 0 < times_in_all b lists → is_waiting w b ≡ true
  waited b some = (held.stands (stands_in b lists some).0 b (stands_in b lists some).1).0

  was_held : (b : ℕ) → 0 < times_in_all b lists → waits w b ≡ true
  was_held b some = waits_by w b (stands_in b lists some).0 (held.stands (stands_in b lists some).0 b (stands_in b lists some).1).1

  stuck : (b : ℕ) → 0 < times_in_all b lists → is_enabled m w b ≡ false
  stuck b some = waiting_enabled m w b (waited b some) ∙ ap not (was_held b some)

  inside : (b : ℕ) → 0 < times_in_all b lists → b < length w.activities
  inside b some = waiting_within w b (waited b some)

  -- so it isn't the one that took the step
  another : (b : ℕ) → 0 < times_in_all b lists → b ≡ a → ⊥
  another b some same = true≢false (sym (ap is_step stepped) ∙ sym (ap (is_enabled m w) same) ∙ stuck b some)

  none_own : times_in_all a lists ≡ 0
  none_own = elim (cases_lt 0 (times_in_all a lists)) [ inl some ↦ absurd (another a some refl) | inr none ↦ omega arith ]

  waits_still : (b : ℕ) → 0 < times_in_all b lists → is_waiting v b ≡ true
  waits_still b some = waiting_same m w v a e stepped b (another b some) (inside b some) ∙ waited b some

  -- who is left is held back as before
  still_held : (c b : ℕ) → 0 < times b (waiters rest c) → (0 < times_in_all b lists) × (is_held_back_by v b c ≡ true)
  still_held c b some =
      let k = left_stands b lists (advanced_now v) there c some in
      let all : 0 < times_in_all b lists = omega (arith, k.0, list_times b c lists) in (
        all,
        (held_on m w v a e core stepped b (inside b all) (another b all) c).stays (held.stands c b k.0).1 (not_advanced v c k.1),
      )

  -- who isn't asked is as able to step as before
  same_able : (k : ℕ) → times k acts ≡ 0 → k < length w.activities → (k ≡ a → ⊥) → (e ≡ event.Ended → governor w a ≡ Some k → ⊥) → is_enabled m v k ≡ is_enabled m w k
  same_able k none lt ne other = untouched_by m w v a e core stepped k
      (λ waiting. same_test (waits v k) (waits w k) (free_on m w v a e core stepped k lt ne)
      (λ on.
      let some : 0 < times_in_all k rest = omega (arith, held.covers k waiting on, conserved k, none) in
      let c = stands_in k rest some in
      waits_by v k c.0 (still_held c.0 k c.1).1)) lt ne other

  module _ (next : List ℕ) (later : List (List ℕ)) (asked : AreAsked v acts (enabled_in m w) rest next later) where
    asks : IsListAsked v acts (is_enabled m w) n next
    asks = list_asked v acts (is_enabled m w) n (enabled_in m w) rest next later (λ b some. inside b (omega (arith, some, conserved b))) refl asked

    puts : AreListsAsked v acts rest later
    puts = lists_asked v acts (enabled_in m w) rest next later
        (λ c b on. omega (arith, held_there v b c on, wide, left_length lists (advanced_now v))) asked

    others : (k : ℕ) → k < length w.activities → (k ≡ a → ⊥) → (e ≡ event.Ended → governor w a ≡ Some k → ⊥) → is_enabled m v k ≡ asks.test k
    others k lt ne other = elim (cases_lt 0 (times k acts)) [
      | inl some ↦ of (waits v k) refl (omega (arith, some, conserved k)) some
      | inr none ↦ same_able k (omega (arith, none)) lt ne other ∙ sym (asks.others k (omega (arith, none)))
    ]
      where
        of : (b : Bool) → waits v k ≡ b → 0 < times_in_all k lists → 0 < times k acts → is_enabled m v k ≡ asks.test k
        of true on all some = waiting_enabled m v k (waits_still k all) ∙ ap not on ∙ sym (asks.held k on ∙ stuck k all)
        of false off all some = waiting_enabled m v k (waits_still k all) ∙ ap not off ∙ sym (asks.free k some off)

    pub woken_to : IsWokenTo m w v a e next later
    woken_to = record {
      test = asks.test;
      list_is = asks.list_is;
      step = record {
        core = core;
        stepped = stepped;
        own = λ h. asks.others a (omega (arith, conserved a, none_own)) ∙ ap is_step stepped;
        others = others;
      };
      nowhere = omega (arith, puts.few a, conserved a, none_own);
      once = λ b. omega (arith, puts.few b, conserved b, held.once b);
      stands = stands;
      covers = covers;
    }
      where
        stands : (c b : ℕ) → 0 < times b (waiters later c) → (is_waiting v b ≡ true) × (is_held_back_by v b c ≡ true)
        stands c b some = elim (puts.stands c b some) [
          | inl old ↦ (let k = still_held c b old in (waits_still b k.0, k.1))
          | inr new ↦ (waits_still b (omega (arith, new.0, conserved b)), new.1)
        ]

        covers : (b : ℕ) → (b ≡ a → ⊥) → is_waiting v b ≡ true → waits v b ≡ true → 0 < times_in_all b later
        covers b ne waiting on =
            let lt : b < length v.activities = waiting_within v b waiting in
            let fresh : b ≡ length w.activities → ⊥ = λ is. true≢false (sym waiting ∙ ap (is_waiting v) is ∙ awake_fresh m w v a e stepped) in
            let here : b < length w.activities = omega (arith, lt, fresh, (step_widens m w v a e stepped).1) in
            let before : 0 < times_in_all b lists = held.covers b (sym (waiting_same m w v a e stepped b ne here) ∙ waiting) (free_on m w v a e core stepped b here ne on) in
            elim (cases_lt 0 (times b acts)) [
              | inl some ↦ puts.put b some on
              | inr none ↦ omega (arith, none, before, conserved b, puts.kept b)
            ]

-- ---- the activity that took the step

-- one that is put into a list is asked
put_asked : (v : World) (a : ℕ) (later last : List (List ℕ)) → length v.clocks ≤ length later → IsPut v a later last → AreListsAsked v (a ∷ []) later last
put_asked v a later last wide put = of put
  where
    by : (next : List ℕ) → AreAsked v (a ∷ []) [] later next last → AreListsAsked v (a ∷ []) later last
    by next asked = lists_asked v (a ∷ []) [] later next last (λ c b on. omega (arith, held_there v b c on, wide)) asked

    of : IsPut v a later last → AreListsAsked v (a ∷ []) later last
    of (inl h) = by [] ([], last, inl (h.0, h.1, refl, h.2), (refl, refl))
    of (inr h) = by (with_member a true []) (with_member a true [], last, inr (h.0, refl, h.1), (refl, refl))

only_it : (a b : ℕ) → 0 < times b (a ∷ []) → a ≡ b
only_it a b some = elim (cases_eq a b) [ inl e ↦ e | inr ne ↦ absurd (omega (arith, some, other_times b a [] ne)) ]

once_more : (v : World) (a : ℕ) (later last : List (List ℕ)) → AreListsAsked v (a ∷ []) later last → times_in_all a later ≡ 0 → ((b : ℕ) → times_in_all b later ≤ 1)
    → (b : ℕ) → times_in_all b last ≤ 1
once_more v a later last r nowhere once b = elim (cases_eq a b) [
  | inl e ↦ subst (λ k. times_in_all k last ≤ 1) e (omega (arith, r.few a, nowhere, first_times a []))
  | inr ne ↦ omega (arith, r.few b, once b, other_times b a [] ne)
]

stands_more : (v : World) (a : ℕ) (later last : List (List ℕ)) → AreListsAsked v (a ∷ []) later last → is_waiting v a ≡ true
    → ((c b : ℕ) → 0 < times b (waiters later c) → (is_waiting v b ≡ true) × (is_held_back_by v b c ≡ true))
    → (c b : ℕ) → 0 < times b (waiters last c) → (is_waiting v b ≡ true) × (is_held_back_by v b c ≡ true)
stands_more v a later last r waiting stands c b some = elim (r.stands c b some) [
  | inl old ↦ stands c b old
  | inr new ↦ (subst (λ k. is_waiting v k ≡ true) (only_it a b new.0) waiting, new.1)
]

covers_it : (v : World) (a : ℕ) (later last : List (List ℕ)) → AreListsAsked v (a ∷ []) later last → (b : ℕ) → a ≡ b → waits v b ≡ true → 0 < times_in_all b last
covers_it v a later last r b e on = r.put b (subst (λ k. 0 < times k (a ∷ [])) e (omega (arith, first_times a []))) on

-- one that waits at an `advance`, and stands in no list, is put into one if a clock holds it back
put_held : (v : World) (a : ℕ) (later last : List (List ℕ)) → length v.clocks ≤ length later → times_in_all a later ≡ 0 → is_waiting v a ≡ true → IsPut v a later last
    → ((b : ℕ) → times_in_all b later ≤ 1) → ((c b : ℕ) → 0 < times b (waiters later c) → (is_waiting v b ≡ true) × (is_held_back_by v b c ≡ true))
    → ((b : ℕ) → (b ≡ a → ⊥) → is_waiting v b ≡ true → waits v b ≡ true → 0 < times_in_all b later) → AreHeld v last
put_held v a later last wide nowhere waiting put once stands covers =
    let r = put_asked v a later last wide put in
    record {
      once = once_more v a later last r nowhere once;
      stands = stands_more v a later last r waiting stands;
      covers = λ b waits_now on. elim (cases_eq a b) [
        | inl e ↦ covers_it v a later last r b e on
        | inr ne ↦ omega (arith, r.kept b, covers b (λ e. ne (sym e)) waits_now on)
      ];
    }

-- so those who are held back are in lists again once the step is noted
pub noted_held : (m : ModuleValue) (w v : World) (a : ℕ) (e : Event) (next : List ℕ) (later last : List (List ℕ)) → step m w a ≡ Stepped v e → IsWokenTo m w v a e next later
    → length v.clocks ≤ length later → IsNotedIn v a e later last → AreHeld v last
noted_held m w v a e next later last stepped woken wide noted = elim (arrival e) [
  | inl is ↦
      put_held v a later last wide woken.nowhere (waits_after m w v a e stepped is) (subst (λ f. IsNotedIn v a f later last) is noted) woken.once woken.stands woken.covers
  | inr other ↦ subst (λ (ls : List (List ℕ)). AreHeld v ls) (sym (same e other noted)) (record {
    once = woken.once;
    stands = woken.stands;
    covers = λ b waiting on.
        woken.covers b (λ is. true≢false (sym waiting ∙ ap (is_waiting v) is ∙ awake_after m w v a e stepped other)) waiting on;
  })
]
  where
    arrival : (f : Event) → (f ≡ event.Arrived) ⊎ (f ≡ event.Arrived → ⊥)
    arrival event.Arrived = inl refl
    arrival _ = inr (λ h. cc)

    same : (f : Event) → (f ≡ event.Arrived → ⊥) → IsNotedIn v a f later last → last ≡ later
    same event.Arrived not h = absurd (not refl)
    same _ not h = h

-- who has just come to wait and is held back can't take a step
pub held_unable : (m : ModuleValue) (w v : World) (a : ℕ) (e : Event) → step m w a ≡ Stepped v e → IsHeldNow v a e → is_enabled m v a ≡ false
held_unable m w v a e stepped now = waiting_enabled m v a (waits_after m w v a e stepped now.0) ∙ ap not now.1

-- ---- where a core is taken over

-- those of the first numbers who are held back stand in lists, and nobody else does
pub record AreHeldBelow (w : World) (n : ℕ) (lists : List (List ℕ)) : Type 0 where
  pub once : (b : ℕ) → times_in_all b lists ≤ 1
  pub stands : (c b : ℕ) → 0 < times b (waiters lists c) → (is_waiting w b ≡ true) × (is_held_back_by w b c ≡ true)
  pub covers : (b : ℕ) → b < n → is_waiting w b ≡ true → waits w b ≡ true → 0 < times_in_all b lists
  pub later : (b : ℕ) → n ≤ b → times_in_all b lists ≡ 0

pub all_below : (w : World) (lists : List (List ℕ)) → AreHeldBelow w (length w.activities) lists → AreHeld w lists
all_below w lists h = record {
  once = h.once;
  stands = h.stands;
  covers = λ b waiting on. h.covers b (waiting_within w b waiting) waiting on;
}

pub none_below : (w : World) (lists : List (List ℕ)) → ((b : ℕ) → times_in_all b lists ≡ 0) → AreHeldBelow w 0 lists
none_below w lists none = record {
  once = λ b. omega (arith, none b);
  stands = λ c b some. absurd (omega (arith, some, none b, list_times b c lists));
  covers = λ b lt. absurd (omega (arith, lt));
  later = λ b le. none b;
}

-- ---- for the calls

-- who is asked waits at an `advance`, and is there
pub asked_there : (w : World) (lists : List (List ℕ)) → AreHeld w lists → (b : ℕ) → 0 < times_in_all b lists → b < length w.activities
asked_there w lists held b some = waiting_within w b (held.stands (stands_in b lists some).0 b (stands_in b lists some).1).0

-- who takes a step stands in no list
pub steps_nowhere : (m : ModuleValue) (w v : World) (a : ℕ) (e : Event) (lists : List (List ℕ)) → step m w a ≡ Stepped v e → AreHeld w lists → times_in_all a lists ≡ 0
steps_nowhere m w v a e lists stepped held = elim (cases_lt 0 (times_in_all a lists)) [
  | inl some ↦
      (let c = stands_in a lists some in
      let s = held.stands c.0 a c.1 in
      absurd (true≢false (sym (ap is_step stepped) ∙ waiting_enabled m w a s.0 ∙ ap not (waits_by w a c.0 s.1))))
  | inr none ↦ omega arith
]

-- nor does one who stood in none once others are asked
pub asked_nowhere : (v : World) (a : ℕ) (lists : List (List ℕ)) (list next : List ℕ) (later : List (List ℕ)) → length v.clocks ≤ length lists → times_in_all a lists ≡ 0
    → AreAsked v (taken lists (advanced_now v)) list (left lists (advanced_now v)) next later → times_in_all a later ≡ 0
asked_nowhere v a lists list next later wide nowhere asked =
    let puts = lists_asked v (taken lists (advanced_now v)) list (left lists (advanced_now v)) next later
    (λ c b on. omega (arith, held_there v b c on, wide, left_length lists (advanced_now v))) asked in
    omega (arith, puts.few a, nowhere, left_times a lists (advanced_now v) (λ c some. let h = advanced_there v c some in omega arith))

-- one more that is asked, or isn't, as it doesn't wait
pub held_more : (w : World) (a : ℕ) (lists last : List (List ℕ)) → length w.clocks ≤ length lists → AreHeldBelow w a lists → is_waiting w a ≡ true → IsPut w a lists last
    → AreHeldBelow w (a + 1) last
held_more w a lists last wide h waiting put =
    let r = put_asked w a lists last wide put in
    record {
      once = once_more w a lists last r (h.later a (omega arith)) h.once;
      stands = stands_more w a lists last r waiting h.stands;
      covers = λ b lt waits_now on. elim (cases_eq a b) [
        | inl e ↦ covers_it w a lists last r b e on
        | inr ne ↦ omega (arith, r.kept b, h.covers b (omega (arith, lt, ne)) waits_now on)
      ];
      later = λ b le. omega (arith, r.few b, h.later b (omega (arith, le)), other_times b a [] (λ e. omega (arith, le, e)));
    }

pub skip_more : (w : World) (a : ℕ) (lists : List (List ℕ)) → AreHeldBelow w a lists → is_waiting w a ≡ false → AreHeldBelow w (a + 1) lists
skip_more w a lists h awake = record {
  once = h.once;
  stands = h.stands;
  covers = λ b lt waiting on. elim (cases_eq b a) [
    | inl e ↦ absurd (true≢false (sym waiting ∙ ap (is_waiting w) e ∙ awake))
    | inr ne ↦ h.covers b (omega (arith, lt, ne)) waiting on
  ];
  later = λ b le. h.later b (omega (arith, le));
}

-- who stands at a place of a list stands in it
pub at_place : (acts : List ℕ) (i : ℕ) → i < length acts → 0 < times (get_or acts i 0) acts
at_place [] i lt = absurd (omega arith)
at_place (a ∷ acts) zero lt = omega (arith, first_times a acts)
at_place (a ∷ acts) (suc i) lt = let later = at_place acts i (omega arith) in omega arith

pub from_place : (acts : List ℕ) (i : ℕ) → i < length acts → drop i acts ≡ get_or acts i 0 ∷ drop (i + 1) acts
from_place acts i lt = drop-cons acts i 0 lt ∙ ap (λ j. get_or acts i 0 ∷ drop j acts) (sym (add-one i))

-- who is asked stands once more at most
few_asked : (v : World) (a : ℕ) (list : List ℕ) (lists : List (List ℕ)) (next : List ℕ) (later : List (List ℕ)) → length v.clocks ≤ length lists
    → IsAsked v a list lists next later → (b : ℕ) → times_in_all b later ≤ times b (a ∷ []) + times_in_all b lists
few_asked v a list lists next later wide asked b =
    (lists_asked v (a ∷ []) list lists next later (λ c k on. omega (arith, held_there v k c on, wide)) (next, later, asked, (refl, refl))).few b

-- nobody stands twice once the first of some is asked
pub once_asked : (v : World) (acts : List ℕ) (i : ℕ) (list : List ℕ) (lists : List (List ℕ)) (next : List ℕ) (later : List (List ℕ)) → i < length acts
    → length v.clocks ≤ length lists → ((b : ℕ) → times b (drop i acts) + times_in_all b lists ≤ 1) → IsAsked v (get_or acts i 0) list lists next later
    → (b : ℕ) → times b (drop (i + 1) acts) + times_in_all b later ≤ 1
once_asked v acts i list lists next later lt wide once asked b =
    omega (arith, once b, ap (times b) (from_place acts i lt), few_asked v (get_or acts i 0) list lists next later wide asked b)

-- the clocks that advanced have lists
pub all_there : (v : World) (lists : List (List ℕ)) (clocks row : List ℕ) → length v.clocks ≤ length lists → clocks ≡ advanced_now v → row ≡ clocks
    → All (λ c. c < length lists) row
all_there v lists clocks row wide is same = subst (λ l. All (λ c. c < length lists) l) (sym (same ∙ is)) (All-from_get_or (λ c. c < length lists) (advanced_now v) 0
    (λ i lt. omega (arith, advanced_there v (get_or (advanced_now v) i 0) (at_place (advanced_now v) i lt), wide)))

-- those who are taken stood in lists
pub taken_there : (v : World) (lists : List (List ℕ)) → length v.clocks ≤ length lists → (b : ℕ) → 0 < times b (taken lists (advanced_now v)) → 0 < times_in_all b lists
taken_there v lists wide b some =
    omega (arith, some, left_times b lists (advanced_now v) (λ c there. let h = advanced_there v c there in omega arith))
