-- What is printed from a world to the end is what can be read along edges; and a search may be shared out by the steps of closed sets.
use Rattle.std.proofs.Common.{◌≡◌, ℕ, ℤ, zero, suc, ◌⊎◌, inl, inr, Bool, true, List, [], ◌∷◌, ◌++◌, length, refl, sym, ap, ◌∙◌, subst}
use Rattle.std.proofs.Common.{append_assoc, arith}
use Rattle.std.specs.Option.{option_to_list}
use Rattle.xk_types.specs.declared.world.Event.{Event}
use Rattle.xk_types.specs.Acceptance.{IsAccepted}
use Rattle.xk_types.specs.Code.{ModuleValue, IsWithinLimits}
use Rattle.xk_types.specs.World.{World, opening, AreArguments}
use Rattle.xk_types.specs.Step.{Stepped, step}
use Rattle.xk_types.specs.Schedule.{Through, run, run_on, IsReached, is_enabled, all_ended, number_printed, printed}
use Rattle.xk_types.proofs.RunLemmas.{run_then}
use Rattle.xk_law_schedules.proofs.ReachabilityLemmas.{same_through, first_step, reached_step, reached_run, opening_reached}
use Rattle.xk_closed.specs.Closed.{IsCarried, IsClosed}
use Rattle.xk_closed.specs.Suffixes.{Reads, HasEdge, HasEdges, AreLinked, AreSteps, AreSuffixes, IsPrinted, IsPrintedBySet}
use Rattle.xk_closed.specs.Shards.{BeginsSo, IsSplit, IsShared, IsInPart}
use Rattle.xk_closed.proofs.ClosedLaw.{Goes, Front, printed_first, goes_same, to_front}

module _ (m : ModuleValue) (limits : IsWithinLimits m) (ok : IsAccepted m) where
  -- a step of the set comes first
  pub set_first : (w : World) (set : ℕ → Bool) (free : ℕ) (numbers : List ℤ) → IsReached m w → IsClosed m w set → set free ≡ true
      → is_enabled m w free ≡ true
      → IsPrinted m w numbers → IsPrintedBySet m w set numbers
  set_first w set free numbers here closed inside enabled p =
      let r = to_front m limits ok set p.list w p.last free here closed inside enabled p.legal p.ended in
      let t : Front m set r.0 w (printed m p.list w) = r.2 in
      let g : Goes m r.0 t.there t.rest = t.goes in
      record {
        act = t.act;
        inside = t.inside;
        there = t.there;
        event = t.event;
        takes = t.takes;
        rest = t.rest;
        goes = record { list = g.list; last = g.last; legal = g.legal; ended = g.ended; prints = g.prints };
        prints = t.prints ∙ p.prints;
      }

  module _ (Same : World → World → Type 0) (carried : IsCarried m Same) (back : IsCarried m (λ w v. Same v w)) (Found : World → Type 0)
      (Edge : World → List ℤ → World → Type 0)
      (linked : AreLinked m Same Found Edge) where
    abbrev CanRead : World → List ℤ → Type 0
    CanRead w numbers = (n : ℕ) × Reads Edge n w numbers

    -- what is known of shorter lists
    abbrev Knows : ℕ → Type 0
    Knows n = (w : World) (numbers : List ℤ) → Found w → Goes m n w numbers → CanRead w numbers

    -- an edge, and what is read behind it
    read_more : (n : ℕ) → Knows n → (w u : World) (a : ℕ) (e : Event) (rest : List ℤ) → IsReached m w → Found w → step m w a ≡ Stepped u e
        → HasEdge m Same Edge w a → Goes m n u rest → CanRead w (option_to_list (number_printed e) ++ rest)
    read_more n knows w u a e rest here found takes edge goes =
        let x = edge u e takes in
        let r : CanRead x.0 rest =
        knows x.0 rest (linked.within w x.0 (option_to_list (number_printed e)) x.2)
        (goes_same m Same carried n u x.0 rest (reached_step m w u a e here takes) x.1 goes) in
        (suc r.0, (x.0, option_to_list (number_printed e), rest, x.2, r.1, refl))

    all_read : (n : ℕ) → Knows n
    all_read zero w numbers found g = by g.list g.long g.legal g.prints
      where
        by : (list : List ℕ) → length list ≡ zero → run m list w ≡ Through g.last → printed m list w ≡ numbers → CanRead w numbers
        by [] long legal prints = (zero, (ap all_ended (same_through w g.last legal) ∙ g.ended, sym prints))
        by (b ∷ list) long legal prints = absurd (omega (arith, long))
    all_read (suc n) w numbers found g = by (all_read n) g.list g.long g.legal g.prints (linked.steps w found)
      where
        here : IsReached m w
        here = linked.reached w found

        by : Knows n → (list : List ℕ) → length list ≡ suc n → run m list w ≡ Through g.last → printed m list w ≡ numbers
            → HasEdges m Same Edge w ⊎ ((a : ℕ) → HasEdge m Same Edge w a) → CanRead w numbers
        by knows [] long legal prints some = absurd (omega (arith, long))
        by knows (b ∷ list) long legal prints (inl c) =
            let r = to_front m limits ok c.set (b ∷ list) w g.last c.free here c.closed c.inside c.enabled legal g.ended in
            let t : Front m c.set r.0 w (printed m (b ∷ list) w) = r.2 in
            let goes : Goes m n t.there t.rest = subst (λ k. Goes m k t.there t.rest) (omega (arith, long, r.1)) t.goes in
            subst (CanRead w) (t.prints ∙ prints)
            (read_more n knows w t.there t.act t.event t.rest here found t.takes (c.next t.act t.inside) goes)
        by knows (b ∷ list) long legal prints (inr all) =
            let f = first_step w g.last (step m w b) (run m list) legal in
            let goes : Goes m n f.0 (printed m list f.0) =
            record { list = list; long = omega (arith, long); last = g.last; legal = f.3; ended = g.ended; prints = refl } in
            subst (CanRead w) (sym (printed_first m w f.0 b f.1 list f.2) ∙ prints)
            (read_more n knows w f.0 b f.1 (printed m list f.0) here found f.2 (all b) goes)

    module _ (steps : AreSteps m Same Found Edge) where
      all_shown : (n : ℕ) (w : World) (numbers : List ℤ) → Found w → Reads Edge n w numbers → Goes m n w numbers
      all_shown zero w numbers found r = record { list = []; long = refl; last = w; legal = refl; ended = r.0; prints = sym r.1 }
      all_shown (suc n) w numbers found r =
          let v : World = r.0 in
          let there : Found v = linked.within w v r.1 r.3 in
          let x = steps w v r.1 found r.3 in
          let g : Goes m n x.1 r.2 =
          goes_same m (λ y z. Same z y) back n v x.1 r.2 (linked.reached v there) x.5 (all_shown n v r.2 there r.4) in
          record {
            list = x.0 ∷ g.list;
            long = ap suc g.long;
            last = g.last;
            legal = ap (λ o. run_on w o (run m g.list)) x.3 ∙ g.legal;
            ended = g.ended;
            prints = printed_first m w x.1 x.0 x.2 g.list x.3 ∙ ap (λ ns. option_to_list (number_printed x.2) ++ ns) g.prints
                ∙ ap (λ ns. ns ++ r.2) (sym x.4) ∙ r.5;
          }

      pub suffixes : AreSuffixes m Found Edge
      suffixes = record {
        all = λ w numbers found p. all_read (length p.list) w numbers found
            (record { list = p.list; long = refl; last = p.last; legal = p.legal; ended = p.ended; prints = p.prints });
        shown = λ w numbers n found r. (let g = all_shown n w numbers found r in
            record { list = g.list; last = g.last; legal = g.legal; ended = g.ended; prints = g.prints });
      }

  -- ---- shares

  -- what a run prints that goes on
  printed_on : (xs ys : List ℕ) (w v : World) → run m xs w ≡ Through v → printed m (xs ++ ys) w ≡ printed m xs w ++ printed m ys v
  printed_on [] ys w v h = ap (printed m ys) (same_through w v h)
  printed_on (a ∷ xs) ys w v h =
      let f = first_step w v (step m w a) (run m xs) h in
      printed_first m w f.0 a f.1 (xs ++ ys) f.2 ∙ ap (λ ns. option_to_list (number_printed f.1) ++ ns) (printed_on xs ys f.0 v f.3)
      ∙ sym (append_assoc (option_to_list (number_printed f.1)) (printed m xs f.0) (printed m ys v))
      ∙ ap (λ ns. ns ++ printed m ys v) (sym (printed_first m w f.0 a f.1 xs f.2))

  module _ (args : List ℤ) (taken : AreArguments m args) where
    abbrev w₀ : World
    w₀ = opening m args

    -- what is printed behind a beginning is printed behind it and a step of the set
    pub split : (start : List ℕ) (set : ℕ → Bool) (numbers : List ℤ) → IsSplit m args start set → BeginsSo m args start numbers
        → (b : ℕ) × (set b ≡ true) × BeginsSo m args (start ++ b ∷ []) numbers
    split start set numbers s h =
        let legal : run m h.rest s.here ≡ Through h.last = sym (run_then m start h.rest w₀ s.here s.leads) ∙ h.legal in
        let here : IsReached m s.here = reached_run m start w₀ s.here (opening_reached m args taken) s.leads in
        let r = to_front m limits ok set h.rest s.here h.last s.free here s.closed s.inside s.enabled legal h.ended in
        let t : Front m set r.0 s.here (printed m h.rest s.here) = r.2 in
        let whole : (start ++ t.act ∷ []) ++ t.goes.list ≡ start ++ t.act ∷ t.goes.list = append_assoc start (t.act ∷ []) t.goes.list in
        let goes : run m (t.act ∷ t.goes.list) s.here ≡ Through t.goes.last = ap (λ o. run_on s.here o (run m t.goes.list)) t.takes
        ∙ t.goes.legal in
        let more : printed m (t.act ∷ t.goes.list) s.here ≡ printed m h.rest s.here =
        printed_first m s.here t.there t.act t.event t.goes.list t.takes
        ∙ ap (λ ns. option_to_list (number_printed t.event) ++ ns) t.goes.prints ∙ t.prints in (
          t.act,
          t.inside,
          record {
            rest = t.goes.list;
            last = t.goes.last;
            legal = ap (λ l. run m l w₀) whole ∙ run_then m start (t.act ∷ t.goes.list) w₀ s.here s.leads ∙ goes;
            ended = t.goes.ended;
            prints = ap (λ l. printed m l w₀) whole ∙ printed_on start (t.act ∷ t.goes.list) w₀ s.here s.leads
                ∙ ap (λ ns. printed m start w₀ ++ ns) more ∙ sym (printed_on start h.rest w₀ s.here s.leads) ∙ h.prints;
          },
        )

    pub shared : (Part : List ℕ → Type 0) (n : ℕ) (start : List ℕ) (numbers : List ℤ) → IsShared m args Part n start
        → BeginsSo m args start numbers
        → IsInPart m args Part numbers
    shared Part zero start numbers part h = (start, part, h)
    shared Part (suc n) start numbers (inl part) h = (start, part, h)
    shared Part (suc n) start numbers (inr s) h =
        let r = split start s.0 numbers s.1 h in
        shared Part n (start ++ r.0 ∷ []) numbers (s.2 r.0 r.1) r.2
