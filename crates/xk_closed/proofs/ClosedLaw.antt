-- The first step that somebody of a closed set takes may be moved to the front of a schedule by which all have ended. So nothing is missed
-- where from each world the steps of a closed set were taken, and one of several worlds that are the same was kept.
use Rattle.std.proofs.Common.{◌≡◌, ℕ, ℤ, zero, suc, ◌≤◌, ◌⊎◌, inl, inr, not, Bool, true, false, true≢false, List, [], ◌∷◌, ◌++◌, length}
use Rattle.std.proofs.Common.{filter, Option, None, refl, sym, ap, ◌∙◌, subst, append_assoc, arith}
use Rattle.std.specs.List.{filter_map}
use Rattle.std.specs.Option.{option_to_list}
use Rattle.std.proofs.lemmas.List.{append-nil}
use Rattle.xk_types.specs.declared.world.Event.{Event}
use Rattle.xk_types.specs.declared.world.Event.TheVariants as event
use Rattle.xk_types.specs.Acceptance.{IsAccepted}
use Rattle.xk_types.specs.Code.{ModuleValue, IsWithinLimits}
use Rattle.xk_types.specs.World.{World, opening, AreArguments}
use Rattle.xk_types.specs.Step.{Stepped, step}
use Rattle.xk_types.specs.Schedule.{Through, run, run_on, IsReached, is_local, is_step, is_enabled, all_ended, events, events_on}
use Rattle.xk_types.specs.Schedule.{number_printed, printed}
use Rattle.xk_law_schedules.proofs.ReachabilityLemmas.{same_through, first_step, run_arguments, reached_step, opening_reached}
use Rattle.xk_law_commute.specs.Exploration.{IsLedTo, AreLedTo, NothingIsMissed}
use Rattle.xk_law_commute.proofs.ChangeSquareLemmas.{same_step}
use Rattle.xk_law_commute.proofs.QuietStepLaw.{enabled_step}
use Rattle.xk_law_commute.proofs.ExplorationLaw.{nobody_steps}
use Rattle.xk_law_names.specs.Names.{Exchange, all_named, exchange_of, AreSameBy}
use Rattle.xk_law_names.proofs.NameLaw.{squares_but_names, same_ends, go_as_one}
use Rattle.xk_law_names.proofs.ActivityNameRunLaw.{reached_full}
use Rattle.xk_liveness.specs.Liveness.{SlotTable, IsLiveness}
use Rattle.xk_liveness.specs.LiveNames.{WhereLive}
use Rattle.xk_liveness.proofs.LiveNameLaw.{go_where_live, same_where_ends}
use Rattle.xk_closed.specs.Closed.{IsClosed, IsCarried, HasSame, HasNextSame, HasClosed, AreExploredBySets}

-- ---- small facts

prints_on : (b : ℕ) (e : Event) (rest : List (ℕ × Event))
    → filter_map (λ (p : ℕ × Event). number_printed p.1) (filter (λ (p : ℕ × Event). not (is_local p.1)) ((b, e) ∷ rest))
    ≡ option_to_list (number_printed e) ++ filter_map (λ (p : ℕ × Event). number_printed p.1)
    (filter (λ (p : ℕ × Event). not (is_local p.1)) rest)
prints_on b event.Local rest = refl
prints_on b (event.Printed n) rest = refl
prints_on b _ rest = refl

pub printed_first : (m : ModuleValue) (list : List ℕ) (w v : World) (b : ℕ) (e : Event) → step m w b ≡ Stepped v e
    → printed m (b ∷ list) w ≡ option_to_list (number_printed e) ++ printed m list v
printed_first m list w v b e h =
    ap
    (λ o. filter_map (λ (p : ℕ × Event). number_printed p.1) (filter (λ (p : ℕ × Event). not (is_local p.1)) (events_on b o (events m list)))) h
    ∙ prints_on b e (events m list v)

-- a world that a legal schedule leads to is reached
pub led_reached : (m : ModuleValue) (args : List ℤ) (w : World) (numbers : List ℤ) → AreArguments m args → IsLedTo m args w numbers
    → IsReached m w
led_reached m args w numbers taken led =
    let same = run_arguments m led.list (opening m args) w led.legal in (
      led.list,
      (
        subst (AreArguments m) (sym same) taken,
        subst (λ xs. run m led.list (opening m xs) ≡ Through w) (sym same) led.legal,
      ),
    )

-- where one prints nothing, the two may change places
either_order : (o r : Option ℤ) → (o ≡ None) ⊎ (r ≡ None) → (ns : List ℤ)
    → option_to_list o ++ (option_to_list r ++ ns) ≡ option_to_list r ++ (option_to_list o ++ ns)
either_order o r (inl h) ns = ap (λ x. option_to_list x ++ (option_to_list r ++ ns)) h
    ∙ sym (ap (λ x. option_to_list r ++ (option_to_list x ++ ns)) h)
either_order o r (inr h) ns = ap (λ x. option_to_list o ++ (option_to_list x ++ ns)) h
    ∙ sym (ap (λ x. option_to_list x ++ (option_to_list o ++ ns)) h)

-- ---- schedules by which all have ended

-- a schedule of so many steps leads from here to where all have ended, and prints these numbers
pub record Goes (m : ModuleValue) (n : ℕ) (w : World) (numbers : List ℤ) : Type 0 where
  pub list : List ℕ
  pub long : length list ≡ n
  pub last : World
  pub legal : run m list w ≡ Through last
  pub ended : all_ended last ≡ true
  pub prints : printed m list w ≡ numbers

-- Somebody of the set takes a step, and so many others lead on from there to where all have ended; all print these numbers.
pub record Front (m : ModuleValue) (set : ℕ → Bool) (n : ℕ) (w : World) (numbers : List ℤ) : Type 0 where
  pub act : ℕ
  pub inside : set act ≡ true
  pub there : World
  pub event : Event
  pub takes : step m w act ≡ Stepped there event
  pub rest : List ℤ
  pub goes : Goes m n there rest
  pub prints : option_to_list (number_printed event) ++ rest ≡ numbers

module _ (m : ModuleValue) (Same : World → World → Type 0) (carried : IsCarried m Same) where
  -- from a world that is the same as many steps lead to the end, and print the same
  pub goes_on : (list : List ℕ) (w v last : World) → IsReached m w → Same w v → run m list w ≡ Through last
      → all_ended last ≡ true → Goes m (length list) v (printed m list w)
  goes_on [] w v last here same h ended = record {
    list = [];
    long = refl;
    last = v;
    legal = refl;
    ended = sym (carried.ends w v same) ∙ ap all_ended (same_through w last h) ∙ ended;
    prints = refl;
  }
  goes_on (a ∷ list) w v last here same h ended =
      let f = first_step w last (step m w a) (run m list) h in
      let next = carried.steps w v f.0 a f.1 here same f.2 in
      let rest : Goes m (length list) next.1 (printed m list f.0) =
      goes_on list f.0 next.1 last (reached_step m w f.0 a f.1 here f.2) next.3 f.3 ended in
      record {
        list = next.0 ∷ rest.list;
        long = ap suc rest.long;
        last = rest.last;
        legal = ap (λ o. run_on v o (run m rest.list)) next.2 ∙ rest.legal;
        ended = rest.ended;
        prints = printed_first m rest.list v next.1 next.0 f.1 next.2 ∙ ap (λ ns. option_to_list (number_printed f.1) ++ ns) rest.prints
            ∙ sym (printed_first m list w f.0 a f.1 f.2);
      }

  pub goes_same : (n : ℕ) (w v : World) (numbers : List ℤ) → IsReached m w → Same w v → Goes m n w numbers → Goes m n v numbers
  goes_same n w v numbers here same g =
      let r : Goes m (length g.list) v (printed m g.list w) = goes_on g.list w v g.last here same g.legal g.ended in
      record { list = r.list; long = r.long ∙ g.long; last = r.last; legal = r.legal; ended = r.ended; prints = r.prints ∙ g.prints }

module _ (m : ModuleValue) (limits : IsWithinLimits m) (ok : IsAccepted m) where
  -- the same but for names
  abbrev ByNames : World → World → Type 0
  ByNames w v = (names : List Exchange) × AreSameBy names w v

  by_names : IsCarried m ByNames
  by_names = record {
    steps = λ w v u a e here same h.
        (let r = (go_as_one m same.0 w v (reached_full m w limits ok here) same.1).steps u a e h in
        (all_named same.0 a, r.0, r.1, (same.0, r.2)));
    ends = λ w v same. same_ends m same.0 w v same.1;
  }

  -- and where slots are live
  pub by_live : (live : SlotTable) → IsLiveness m live → IsCarried m (WhereLive live)
  by_live live liveness = record {
    steps = λ w v u a e here same h.
        (let r = (go_where_live live m liveness same.0 w v (reached_full m w limits ok here) same.1).steps u a e h in
        (all_named same.0 a, r.0, r.1, (same.0, r.2)));
    ends = λ w v same. same_where_ends live m same.0 w v same.1;
  }

  -- ---- a closed set

  module _ (set : ℕ → Bool) where
    -- who is in it isn't one who isn't
    differ : (a b : ℕ) → set a ≡ true → set b ≡ false → a ≡ b → ⊥
    differ a b inside outside same = true≢false (sym inside ∙ ap set same ∙ outside)

    -- one of the set and one of the others take their steps in either order
    abbrev BothGo : World → World → World → ℕ → ℕ → Event → Event → Type 0
    BothGo w u v a b e f = (x : World) × (y : World) × (step m u b ≡ Stepped x f) × (step m v a ≡ Stepped y e)
        × AreSameBy (exchange_of m w b a) y x

    both_go : (w u v : World) (a b : ℕ) (e f : Event) → IsReached m w → IsClosed m w set → set a ≡ true → set b ≡ false
        → step m w a ≡ Stepped u e → step m w b ≡ Stepped v f → BothGo w u v a b e f
    both_go w u v a b e f here closed inside outside hu hv =
        let p = closed.apart [] w tt refl a b inside outside u v e f hu hv in
        squares_but_names m w limits ok here b a (differ a b inside outside) p.0 v u f e hv hu

    -- it stays closed when another has moved
    closed_behind : (w v : World) (b : ℕ) (f : Event) → IsReached m w → IsClosed m w set → set b ≡ false → step m w b ≡ Stepped v f
        → IsClosed m v set
    closed_behind w v b f here closed outside hv = record {
      apart = λ list z others runs. closed.apart (b ∷ list) z (outside, others) (ap (λ o. run_on w o (run m list)) hv ∙ runs);
      held = λ list z x e others runs a inside takes.
          (let free = closed.held (b ∷ list) z x e (outside, others) (ap (λ o. run_on w o (run m list)) hv ∙ runs) a inside takes in
          let s = enabled_step (step m w a) free in
          let go = both_go w s.0 v a b s.1 f here closed inside outside s.2 hv in
          ap is_step go.3);
    }

    abbrev pub HasFront : List ℕ → World → Type 0
    HasFront list w = (n : ℕ) × (length list ≡ suc n) × Front m set n w (printed m list w)

    -- what is known of a shorter list
    abbrev pub Moves : List ℕ → Type 0
    Moves list = (w last : World) (a : ℕ) → IsReached m w → IsClosed m w set → set a ≡ true → is_enabled m w a ≡ true
        → run m list w ≡ Through last → all_ended last ≡ true → HasFront list w

    past_other : (b : ℕ) (list : List ℕ) → Moves list → (w v last : World) (a : ℕ) (f : Event) → IsReached m w → IsClosed m w set
        → set a ≡ true
        → is_enabled m w a ≡ true → set b ≡ false → step m w b ≡ Stepped v f → run m list v ≡ Through last → all_ended last ≡ true
        → HasFront (b ∷ list) w
    past_other b list shorter w v last a f here closed inside free outside hv runs ended =
        let s = enabled_step (step m w a) free in
        let go = both_go w s.0 v a b s.1 f here closed inside outside s.2 hv in
        let there : IsReached m v = reached_step m w v b f here hv in
        let r : HasFront list v =
        shorter v last a there (closed_behind w v b f here closed outside hv) inside (ap is_step go.3) runs ended in
        let t : Front m set r.0 v (printed m list v) = r.2 in
        let first : is_enabled m w t.act ≡ true =
        closed.held (b ∷ []) v t.there t.event (outside, tt) (ap (λ o. run_on w o (run m [])) hv) t.act t.inside t.takes in
        let u = enabled_step (step m w t.act) first in
        let both = both_go w u.0 v t.act b u.1 f here closed t.inside outside u.2 hv in
        let one : (t.there ≡ both.1) × (t.event ≡ u.1) = same_step t.there both.1 t.event u.1 (sym t.takes ∙ both.3) in
        let rest : Goes m r.0 both.0 t.rest =
        goes_same m ByNames by_names r.0 both.1 both.0 t.rest (reached_step m v both.1 t.act u.1 there both.3)
        (exchange_of m w b t.act, both.4)
        (subst (λ z. Goes m r.0 z t.rest) one.0 t.goes) in
        let p = closed.apart [] w tt refl t.act b t.inside outside u.0 v u.1 f u.2 hv in (
          suc r.0,
          ap suc r.1,
          record {
            act = t.act;
            inside = t.inside;
            there = u.0;
            event = u.1;
            takes = u.2;
            rest = option_to_list (number_printed f) ++ t.rest;
            goes = record {
              list = b ∷ rest.list;
              long = ap suc rest.long;
              last = rest.last;
              legal = ap (λ o. run_on u.0 o (run m rest.list)) both.2 ∙ rest.legal;
              ended = rest.ended;
              prints = printed_first m rest.list u.0 both.0 b f both.2 ∙ ap (λ ns. option_to_list (number_printed f) ++ ns) rest.prints;
            };
            prints = either_order (number_printed u.1) (number_printed f) p.1 t.rest
                ∙ ap (λ e. option_to_list (number_printed f) ++ (option_to_list (number_printed e) ++ t.rest)) (sym one.1)
                ∙ ap (λ ns. option_to_list (number_printed f) ++ ns) t.prints
                ∙ sym (printed_first m list w v b f hv);
          },
        )

    pub to_front : (list : List ℕ) → Moves list
    to_front [] w last a here closed inside free runs ended =
        let s = enabled_step (step m w a) free in
        absurd (nobody_steps m w s.0 a s.1 s.2 (ap all_ended (same_through w last runs) ∙ ended))
    to_front (b ∷ list) w last a here closed inside free runs ended = by (to_front list) (set b) refl
      where
        f : (x : World) × (e : Event) × (step m w b ≡ Stepped x e) × (run m list x ≡ Through last)
        f = first_step w last (step m w b) (run m list) runs

        by : Moves list → (q : Bool) → set b ≡ q → HasFront (b ∷ list) w
        by shorter true h = (
          length list,
          refl,
          record {
            act = b;
            inside = h;
            there = f.0;
            event = f.1;
            takes = f.2;
            rest = printed m list f.0;
            goes = record { list = list; long = refl; last = last; legal = f.3; ended = ended; prints = refl };
            prints = sym (printed_first m list w f.0 b f.1 f.2);
          },
        )
        by shorter false h = past_other b list shorter w f.0 last a f.1 here closed inside free h f.2 f.3 ended

  -- ---- worlds that were found

  module _ (Same : World → World → Type 0) (carried : IsCarried m Same) (args : List ℤ) (Found : World → List ℤ → Type 0)
      (taken : AreArguments m args) (led : AreLedTo m args Found) (explored : AreExploredBySets m Same Found) where
    abbrev IsMet : List ℤ → Type 0
    IsMet numbers = (v : World) × Found v numbers × (all_ended v ≡ true)

    -- what is known of shorter lists, from worlds that were found
    abbrev Finds : ℕ → Type 0
    Finds n = (list : List ℕ) (w last : World) (before : List ℤ) → length list ≤ n → Found w before → run m list w ≡ Through last
        → all_ended last ≡ true
        → IsMet (before ++ printed m list w)

    -- and from worlds that are the same
    onward : (n : ℕ) → Finds n → (list : List ℕ) (w last : World) (before : List ℤ) → length list ≤ n → IsReached m w
        → HasSame Same Found w before
        → run m list w ≡ Through last → all_ended last ≡ true → IsMet (before ++ printed m list w)
    onward n finds list w last before short here has runs ended =
        let g : Goes m (length list) has.other (printed m list w) = goes_on m Same carried list w has.other last here has.same runs ended in
        subst (λ ns. IsMet (before ++ ns)) g.prints
        (finds g.list has.other g.last before (omega (arith, g.long, short)) has.found g.legal g.ended)

    by_set : (n : ℕ) → Finds n → (list : List ℕ) (w last : World) (before : List ℤ) → length list ≤ suc n → Found w before
        → run m list w ≡ Through last
        → all_ended last ≡ true → HasClosed m Same Found w before → IsMet (before ++ printed m list w)
    by_set n finds list w last before short found runs ended c =
        let here : IsReached m w = led_reached m args w before taken (led w before found) in
        let r = to_front c.set list w last c.free here c.closed c.inside c.enabled runs ended in
        let t : Front m c.set r.0 w (printed m list w) = r.2 in
        let more : List ℤ = option_to_list (number_printed t.event) in
        let met : IsMet ((before ++ more) ++ printed m t.goes.list t.there) =
        onward n finds t.goes.list t.there t.goes.last (before ++ more) (omega (arith, short, r.1, t.goes.long))
        (reached_step m w t.there t.act t.event here t.takes) (c.next t.act t.inside t.there t.event t.takes) t.goes.legal t.goes.ended in
        subst IsMet
        (append_assoc before more (printed m t.goes.list t.there)
        ∙ ap (λ ns. before ++ (more ++ ns)) t.goes.prints ∙ ap (λ ns. before ++ ns) t.prints) met

    by_each : (n : ℕ) → Finds n → (b : ℕ) (list : List ℕ) (w last : World) (before : List ℤ) → length (b ∷ list) ≤ suc n → Found w before
        → run m (b ∷ list) w ≡ Through last → all_ended last ≡ true → HasNextSame m Same Found w before b
        → IsMet (before ++ printed m (b ∷ list) w)
    by_each n finds b list w last before short found runs ended next =
        let here : IsReached m w = led_reached m args w before taken (led w before found) in
        let f = first_step w last (step m w b) (run m list) runs in
        let more : List ℤ = option_to_list (number_printed f.1) in
        let met : IsMet ((before ++ more) ++ printed m list f.0) =
        onward n finds list f.0 last (before ++ more) (omega (arith, short)) (reached_step m w f.0 b f.1 here f.2)
        (next f.0 f.1 f.2) f.3 ended in
        subst IsMet
        (append_assoc before more (printed m list f.0) ∙ ap (λ ns. before ++ ns) (sym (printed_first m list w f.0 b f.1 f.2))) met

    finds_all : (n : ℕ) → Finds n
    finds_all n [] w last before short found runs ended =
        (w, subst (Found w) (sym (append-nil before)) found, ap all_ended (same_through w last runs) ∙ ended)
    finds_all zero (b ∷ list) w last before short found runs ended = absurd (omega (arith, short))
    finds_all (suc n) (b ∷ list) w last before short found runs ended = by (finds_all n) (explored w before found)
      where
        by : Finds n → HasClosed m Same Found w before ⊎ ((a : ℕ) → HasNextSame m Same Found w before a)
            → IsMet (before ++ printed m (b ∷ list) w)
        by finds (inl c) = by_set n finds (b ∷ list) w last before short found runs ended c
        by finds (inr all) = by_each n finds b list w last before short found runs ended (all b)

pub closed_sets : (m : ModuleValue) (limits : IsWithinLimits m) (ok : IsAccepted m) (Same : World → World → Type 0) → IsCarried m Same
    → (args : List ℤ) (Found : World → List ℤ → Type 0) → AreArguments m args → AreLedTo m args Found
    → HasSame Same Found (opening m args) []
    → AreExploredBySets m Same Found → NothingIsMissed m args Found
closed_sets m limits ok Same carried args Found taken led begun explored list w legal ended =
    onward m limits ok Same carried args Found taken led explored (length list)
    (finds_all m limits ok Same carried args Found taken led explored (length list))
    list (opening m args) w [] (omega arith) (opening_reached m args taken) begun legal ended
