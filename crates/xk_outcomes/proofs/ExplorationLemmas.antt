-- Where each that was found was looked at, nothing is missed.
use Rattle.std.proofs.Common.{◌≡◌, ◌∙◌, ℕ, ℤ, zero, suc, ◌≤◌, inl, inr, true, List, []}
use Rattle.std.proofs.Common.{◌∷◌, ◌++◌, length, None, Some, refl, sym, ap, subst, append_assoc, arith, eq-eqb, eqb-true, slice_get}
use Rattle.std.specs.Option.{option_to_list}
use Rattle.std.specs.Prelude.{fold}
use Rattle.std.proofs.lemmas.List.{append-nil, append_cancel_left}
use Rattle.std.proofs.lemmas.List.Sums.{fold-append}
use Rattle.std.proofs.lemmas.Option.{slice_get_within}
use Rattle.xk_types.specs.declared.world.Event.{Event}
use Rattle.xk_types.specs.Acceptance.{IsAccepted}
use Rattle.xk_types.specs.Code.{ModuleValue, IsWithinLimits}
use Rattle.xk_types.specs.World.{World, opening, AreArguments}
use Rattle.xk_types.specs.Step.{Stepped, step}
use Rattle.xk_types.specs.Schedule.{IsReached, Through, run, all_ended, is_step, number_printed, printed}
use Rattle.xk_law_schedules.proofs.ReachabilityLemmas.{first_step, opening_reached, reached_step, same_through}
use Rattle.xk_law_commute.proofs.ChangeSquareLemmas.{same_step}
use Rattle.xk_ranks.specs.Reads.{Counting, IsCounting}
use Rattle.xk_closed.specs.Futures.{alone}
use Rattle.xk_closed.proofs.ClosedLaw.{Front, Goes, goes_same, printed_first, to_front}
use Rattle.xk_core.specs.Core.{CoreValue}
use Rattle.xk_ranks.specs.Reads.{AreReachedByReads, read_part}
use Rattle.xk_ranks.proofs.ReadLaw.{by_reads}
use Rattle.xk_rank_digests.proofs.RankLikenessLemmas.{told_by_rank}
use Rattle.xk_readings.specs.declared.edge.Edge.{Edge}
use Rattle.xk_outcomes.specs.declared.order.Order.{Order}
use Rattle.xk_outcomes.specs.declared.order.Order.TheVariants as order
use Rattle.xk_law_commute.proofs.ExplorationLaw.{nobody_steps}
use Rattle.xk_outcomes.specs.Alikeness.{Alikeness, AreAsOne, AreOver, counted}
use Rattle.xk_outcomes.specs.Found.{FoundValue, first_found, next}
use Rattle.xk_outcomes.specs.Ways.{IsLone, LeadsAlone}
use Rattle.xk_outcomes.specs.Links.{LeadTo, Leads}
use Rattle.xk_outcomes.specs.PrivateSteps.{has_private_step}
use Rattle.xk_outcomes.specs.Rising.{key, put_in}
use Rattle.xk_outcomes.specs.Search.{AreAllFound, AreExpanded, AreFound, HasAfter, IsExpanded, LeadsPrivately}
use Rattle.xk_outcomes.proofs.FoundLemmas.{first_led, first_silent, leading}
use Rattle.xk_outcomes.proofs.PrivateStepLemmas.{private_closed, private_enabled, private_silent}
use Rattle.xk_outcomes.proofs.RestLemmas.{found_reached}

-- what tells two worlds apart goes by what is printed before and behind
key_more : (order : Order) (xs ys more : List ℤ) → key order xs ≡ key order ys → key order (xs ++ more) ≡ key order (ys ++ more)
key_more order.Printed xs ys more same = refl
key_more order.Rising xs ys more same = fold-append put_in [] xs more ∙ ap (λ ns. fold put_in ns more) same
    ∙ sym (fold-append put_in [] ys more)

-- ---- private steps come first

module _ (m : ModuleValue) (limits : IsWithinLimits m) (ok : IsAccepted m) where
  -- no more steps than before lead from here to the end, and print the same
  record GoesOn (n : ℕ) (w : World) (numbers : List ℤ) : Type 0 where
    many : ℕ
    few : many ≤ n
    reached : IsReached m w
    goes : Goes m many w numbers

  private_first : (n b : ℕ) (w u : World) (e : Event) (numbers : List ℤ) → IsReached m w → has_private_step m w b ≡ true
      → step m w b ≡ Stepped u e → Goes m n w numbers → (k : ℕ) × (suc k ≡ n) × Goes m k u numbers
  private_first n b w u e numbers here private takes g =
      let r = to_front m limits ok (alone b) g.list w g.last b here (private_closed m w b private) (eq-eqb b b refl)
      (private_enabled m w b private)
      g.legal g.ended in
      let t : Front m (alone b) r.0 w (printed m g.list w) = r.2 in
      let act : t.act ≡ b = eqb-true t.act b t.inside in
      let same : (t.there ≡ u) × (t.event ≡ e) = same_step t.there u t.event e (sym t.takes ∙ ap (step m w) act ∙ takes) in
      let silent : number_printed t.event ≡ None = ap number_printed same.1 ∙ private_silent m w b private u e takes in
      let rest : t.rest ≡ numbers = sym (ap (λ o. option_to_list o ++ t.rest) silent) ∙ t.prints ∙ g.prints in
      let count : suc r.0 ≡ n = sym r.1 ∙ g.long in
      (r.0, count, subst (λ z. Goes m r.0 z numbers) same.0 (subst (Goes m r.0 t.there) rest t.goes))

  past_private : (list : List ℕ) (n : ℕ) (w v : World) (numbers : List ℤ) → IsReached m w → LeadsPrivately m list w v → Goes m n w numbers
      → GoesOn n v numbers
  past_private [] n w v numbers here private g =
      subst (λ z. GoesOn n z numbers) private (record { many = n; few = omega arith; reached = here; goes = g })
  past_private (b ∷ list) n w v numbers here private g =
      let r = private_first n b w private.1 private.2 numbers here private.0 private.3 g in
      let on = past_private list r.0 private.1 v numbers (reached_step m w private.1 b private.2 here private.3) private.4 r.2 in
      let few = on.few in
      let one = r.1 in
      record { many = on.many; few = omega (arith, few, one); reached = on.reached; goes = on.goes }

  -- ---- and so do steps to which there is no choice

  -- So many steps at most lead from the one to the end, and this is what is printed by then.
  record GoesFrom (n : ℕ) (y : FoundValue) (whole : List ℤ) : Type 0 where
    many : ℕ
    few : many ≤ n
    same_module : y.core.module_run ≡ m
    reached : IsReached m y.core.world
    left : List ℤ
    goes : Goes m many y.core.world left
    told : y.printed ++ left ≡ whole

  -- behind a step, private steps come first
  step_on : (n : ℕ) (x : FoundValue) (a : ℕ) (u : World) (e : Event) (rest : List ℤ) → x.core.module_run ≡ m → IsReached m x.core.world
      → step m x.core.world a ≡ Stepped u e → Goes m n u rest
      → GoesFrom n (next a x) (x.printed ++ (option_to_list (number_printed e) ++ rest))
  step_on n x a u e rest same here takes g =
      let l = leading m limits ok x (next a x) a same refl u e takes in
      let on = past_private l.list n u (next a x).core.world rest (reached_step m x.core.world u a e here takes) l.private g in
      record {
        many = on.many;
        few = on.few;
        same_module = l.same_module;
        reached = on.reached;
        left = rest;
        goes = on.goes;
        told = ap (λ ns. ns ++ rest) l.prints ∙ append_assoc x.printed (option_to_list (number_printed e)) rest;
      }

  lone_first : (n : ℕ) (x : FoundValue) (a : ℕ) (rest : List ℤ) → x.core.module_run ≡ m → IsReached m x.core.world → IsLone m x.core.world a
      → Goes m n x.core.world rest → GoesFrom n (next a x) (x.printed ++ rest)
  lone_first n x a rest same here l g =
      let r = to_front m limits ok l.set g.list x.core.world g.last a here l.closed l.inside l.enabled g.legal g.ended in
      let t : Front m l.set r.0 x.core.world (printed m g.list x.core.world) = r.2 in
      let act : t.act ≡ a = l.only t.act t.inside (ap is_step t.takes) in
      let count : suc r.0 ≡ n = sym r.1 ∙ g.long in
      let f = step_on r.0 x t.act t.there t.event t.rest same here t.takes t.goes in
      let is : option_to_list (number_printed t.event) ++ t.rest ≡ rest = t.prints ∙ g.prints in
      let few = f.few in
      subst (λ b. GoesFrom n (next b x) (x.printed ++ rest)) act (record {
        many = f.many;
        few = omega (arith, count, few);
        same_module = f.same_module;
        reached = f.reached;
        left = f.left;
        goes = f.goes;
        told = f.told ∙ ap (λ ns. x.printed ++ ns) is;
      })

  past_alone : (list : List ℕ) (n : ℕ) (x y : FoundValue) (whole : List ℤ) → LeadsAlone m list x y → GoesFrom n x whole → GoesFrom n y whole
  past_alone [] n x y whole alone f = subst (λ (z : FoundValue). GoesFrom n z whole) alone f
  past_alone (a ∷ list) n x y whole alone f =
      let g = lone_first f.many x a f.left f.same_module f.reached alone.0 f.goes in
      let few = f.few in
      let fewer = g.few in
      past_alone list n (next a x) y whole alone.1 (record {
        many = g.many;
        few = omega (arith, few, fewer);
        same_module = g.same_module;
        reached = g.reached;
        left = g.left;
        goes = g.goes;
        told = g.told ∙ f.told;
      })

-- ---- where all have ended

-- nothing more happens in either world
over_goes : (m : ModuleValue) (n : ℕ) (w v : World) (numbers : List ℤ) → AreOver w v → Goes m n w numbers → Goes m n v numbers
over_goes m n w v numbers over g = by g.list g.long g.legal g.prints
  where
    by : (list : List ℕ) → length list ≡ n → run m list w ≡ Through g.last → printed m list w ≡ numbers → Goes m n v numbers
    by [] long legal prints = record { list = []; long = long; last = v; legal = refl; ended = over.1; prints = prints }
    by (b ∷ list) long legal prints =
        let f = first_step w g.last (step m w b) (run m list) legal in absurd (nobody_steps m w f.0 b f.1 f.2 over.0)

-- ---- all that was found

module _ (like : Alikeness) (start : CoreValue) (all : List FoundValue) (links : List Edge) (limits : IsWithinLimits start.module_run)
    (ok : IsAccepted start.module_run)
    (taken : AreArguments start.module_run start.world.arguments) (begins : start.world ≡ opening start.module_run start.world.arguments)
    (counting : IsCounting start.module_run (counted like)) (found : AreFound start all)
    (closed : AreExpanded start.module_run like all links (length all)) (first : slice_get all 0 ≡ Some (first_found start)) where
  abbrev m : ModuleValue
  m = start.module_run

  abbrev counts : Counting
  counts = counted like

  abbrev args : List ℤ
  args = start.world.arguments

  reached : (k : ℕ) (x : FoundValue) → slice_get all k ≡ Some x → IsReached m x.core.world
  reached k x there = found_reached start limits ok taken begins x (found k x there)

  -- one of them is where all have ended, and these numbers stand along links to it
  abbrev IsMet : List ℤ → Type 0
  IsMet numbers = (k : ℕ) × (x : FoundValue) × (slice_get all k ≡ Some x) × (all_ended x.core.world ≡ true)
      × (key like.order x.printed ≡ key like.order numbers) × LeadTo links k numbers

  -- links lead to the one of a number, along which these numbers stand
  record IsLed (k : ℕ) (x : FoundValue) (before : List ℤ) : Type 0 where
    there : slice_get all k ≡ Some x
    same : key like.order x.printed ≡ key like.order before
    led : LeadTo links k before

  -- what so many steps lead to from there to the end, at most, is met
  abbrev Knows : ℕ → Type 0
  Knows n = (k : ℕ) (x : FoundValue) (before rest : List ℤ) (j : ℕ) → j ≤ n → IsLed k x before → Goes m j x.core.world rest
      → IsMet (before ++ rest)

  -- from a world from which the same can happen the rest goes on
  goes_there : (n : ℕ) (w v : World) (rest : List ℤ) → IsReached m w → IsReached m v → AreAsOne counts w v → Goes m n w rest → Goes m n v rest
  goes_there n w v rest here there (inl told) g =
      goes_same m (AreReachedByReads m counts) (by_reads m limits ok counts counting) n w v rest here
      (record { first = here; second = there; alike = told_by_rank counts.live (read_part counts.rest w) (read_part counts.rest v) told }) g
  goes_there n w v rest here there (inr over) g = over_goes m n w v rest over g

  -- a step, private steps behind it, and steps to which there is no choice lead to where the same can happen as from one of them
  by_step : (n : ℕ) → Knows n → (k : ℕ) (x : FoundValue) (before : List ℤ) → IsLed k x before
      → (a : ℕ) (u : World) (e : Event) (rest : List ℤ) (j : ℕ) → j ≤ n
      → step m x.core.world a ≡ Stepped u e → HasAfter m like all links k x a → Goes m j u rest
      → IsMet (before ++ (option_to_list (number_printed e) ++ rest))
  by_step n knows k x before led a u e rest j most takes after g =
      let more : List ℤ = option_to_list (number_printed e) in
      let s = after (ap is_step takes) in
      let y = s.there in
      let f = step_on m limits ok j x a u e rest (found k x led.there).1.module_is (reached k x led.there) takes g in
      let on : GoesFrom m limits ok j y (x.printed ++ (more ++ rest)) =
      past_alone m limits ok s.more j (next a x) y (x.printed ++ (more ++ rest)) s.alone f in
      let said : List ℤ = option_to_list s.said in
      let left : said ++ on.left ≡ more ++ rest =
      append_cancel_left x.printed (said ++ on.left) (more ++ rest)
      (sym (append_assoc x.printed said on.left) ∙ ap (λ ns. ns ++ on.left) (sym s.prints) ∙ on.told) in
      let z = s.is.0 in
      let l = s.link.1 in
      let goes : Goes m on.many z.core.world on.left =
      goes_there on.many y.core.world z.core.world on.left on.reached (reached s.to z s.is.1) s.is.2.0 on.goes in
      let few = on.few in
      let way : LeadTo links s.to (before ++ said) = (
        suc led.led.0,
        led.led.1 ++ l.act ∷ [],
        (
          l,
          s.link.0,
          s.link.2,
          s.link.5,
          led.led.1,
          before,
          subst (λ i. Leads links led.led.0 i led.led.1 before) (sym s.link.3) led.led.2,
          refl,
          ap (λ o. before ++ option_to_list o) (sym s.link.4),
        ),
      ) in
      subst IsMet (append_assoc before said on.left ∙ ap (λ ns. before ++ ns) left)
      (knows s.to z (before ++ said) on.left on.many (omega (arith, few, most))
      (record {
        there = s.is.1;
        same = s.is.2.1 ∙ ap (key like.order) s.prints ∙ key_more like.order x.printed before said led.same;
        led = way;
      }) goes)

  -- where no step is left
  at_end : (k : ℕ) (x : FoundValue) (before rest : List ℤ) (last : World) → IsLed k x before → run m [] x.core.world ≡ Through last
      → all_ended last ≡ true
      → printed m [] x.core.world ≡ rest → IsMet (before ++ rest)
  at_end k x before rest last led legal ended prints =
      subst (λ ns. IsMet (before ++ ns)) prints
      (subst IsMet (sym (append-nil before))
      (k, x, led.there, ap all_ended (same_through x.core.world last legal) ∙ ended, led.same, led.led))

  -- by a step of a closed set, or by the next step
  by_steps : (n : ℕ) → Knows n → (k : ℕ) (x : FoundValue) (before rest : List ℤ) (b : ℕ) (list : List ℕ) (last : World) → IsLed k x before
      → length (b ∷ list) ≤ suc n
      → run m (b ∷ list) x.core.world ≡ Through last → all_ended last ≡ true → printed m (b ∷ list) x.core.world ≡ rest
      → IsExpanded m like all links k x
      → IsMet (before ++ rest)
  by_steps n knows k x before rest b list last led long legal ended prints (inl s) =
      let r = to_front m limits ok s.set (b ∷ list) x.core.world last s.free
      (reached k x led.there) s.closed s.inside s.enabled legal ended in
      let t : Front m s.set r.0 x.core.world (printed m (b ∷ list) x.core.world) = r.2 in
      let many = r.1 in
      subst (λ ns. IsMet (before ++ ns)) (t.prints ∙ prints)
      (by_step n knows k x before led t.act t.there t.event t.rest r.0 (omega (arith, many, long)) t.takes (s.next t.act t.inside) t.goes)
  by_steps n knows k x before rest b list last led long legal ended prints (inr each) =
      let f = first_step x.core.world last (step m x.core.world b) (run m list) legal in
      let goes : Goes m (length list) f.0 (printed m list f.0) =
      record { list = list; long = refl; last = last; legal = f.3; ended = ended; prints = refl } in
      subst (λ ns. IsMet (before ++ ns)) (sym (printed_first m list x.core.world f.0 b f.1 f.2) ∙ prints)
      (by_step n knows k x before led b f.0 f.1 (printed m list f.0) (length list) (omega (arith, long)) f.2 (each b) goes)

  all_met : (n : ℕ) → Knows n
  all_met zero k x before rest j most led g = by g.list g.long g.legal g.prints
    where
      by : (list : List ℕ) → length list ≡ j → run m list x.core.world ≡ Through g.last → printed m list x.core.world ≡ rest
          → IsMet (before ++ rest)
      by [] long legal prints = at_end k x before rest g.last led legal g.ended prints
      by (b ∷ list) long legal prints = absurd (omega (arith, long, most))
  all_met (suc n) k x before rest j most led g = by (all_met n) g.list g.long g.legal g.prints
    where
      by : Knows n → (list : List ℕ) → length list ≡ j → run m list x.core.world ≡ Through g.last → printed m list x.core.world ≡ rest
          → IsMet (before ++ rest)
      by knows [] long legal prints = at_end k x before rest g.last led legal g.ended prints
      by knows (b ∷ list) long legal prints =
          by_steps n knows k x before rest b list g.last led (omega (arith, long, most)) legal g.ended prints
          (closed k x (slice_get_within all k x led.there) led.there)

  pub all_found : AreAllFound like.order start all links
  all_found list w legal ended =
      let numbers : List ℤ = printed m list start.world in
      let f = first_led start limits ok in
      let x = first_found start in
      let here : IsReached m start.world = subst (IsReached m) (sym begins) (opening_reached m args taken) in
      let on : GoesOn m limits ok (length list) x.core.world numbers =
      past_private m limits ok f.0 (length list) start.world x.core.world numbers here f.1
      (record { list = list; long = refl; last = w; legal = legal; ended = ended; prints = refl }) in
      all_met on.many 0 x [] numbers on.many (omega arith)
      (record { there = first; same = ap (key like.order) (first_silent start limits ok); led = (0, [], (refl, refl, refl)) }) on.goes
