-- The class law. The first step of a schedule t is enabled at once; it comes in each schedule s by which all have ended, and until then
-- it stays enabled, with the same event. So it is moved to the front of s, one place after the other, and what is left goes on so from
-- behind it.
use Rattle.std.proofs.Common.{◌≡◌, ℕ, ◌⊎◌, inl, inr, true, List, [], ◌∷◌, ◌++◌, map, refl, sym, ap, ◌∙◌}
use Rattle.xk_types.specs.declared.world.Event.{Event}
use Rattle.xk_types.specs.Acceptance.{IsAccepted}
use Rattle.xk_types.specs.Code.{ModuleValue, IsWithinLimits}
use Rattle.xk_types.specs.World.{World}
use Rattle.xk_types.specs.Step.{Stepped, step}
use Rattle.xk_types.specs.Schedule.{Through, run, IsReached, is_step, all_ended}
use Rattle.xk_law_schedules.proofs.ReachabilityLemmas.{same_through, first_step, reached_step}
use Rattle.xk_law_commute.proofs.AwaitIndependenceLemmas.{same_or_not}
use Rattle.xk_law_commute.proofs.ExplorationLaw.{nobody_steps}
use Rattle.xk_law_names.specs.Names.{all_named, exchange_of}
use Rattle.xk_law_names.proofs.NameLaw.{squares_but_names, same_ends}
use Rattle.xk_law_names.proofs.ActivityNameOrderLaw.{run_first}
use Rattle.xk_law_traces.specs.Classes.{DoCommute, AreSwapped, AreOneClass, names_along}
use Rattle.xk_law_traces.specs.RaceFreedom.{HasNoRace}
use Rattle.xk_law_traces.specs.OneRun.{GoesAsWell, IsBegun}
use Rattle.xk_law_traces.proofs.ClassLemmas.{class_same, class_swap, class_on, class_behind, met_itself, met_by, met_behind, class_as_well}

-- ---- to the front

-- a schedule of the class begins with this step
abbrev HasFirst : ModuleValue → World → ℕ → List ℕ → Type 0
HasFirst m w b s = (rest : List ℕ) × AreOneClass m w s (b ∷ rest)

module _ (m : ModuleValue) (limits : IsWithinLimits m) (ok : IsAccepted m) where
  -- what is known of a shorter list
  abbrev Moves : List ℕ → Type 0
  Moves s = (w v z : World) (b : ℕ) (f : Event) → IsReached m w → step m w b ≡ Stepped v f → HasNoRace m w s
      → run m s w ≡ Through z → all_ended z ≡ true → HasFirst m w b s

  -- another's step comes first
  past_other : (a : ℕ) (s : List ℕ) → Moves s → (b : ℕ) → (b ≡ a → ⊥) → (w v z : World) (f : Event) → IsReached m w
      → step m w b ≡ Stepped v f → HasNoRace m w (a ∷ s)
      → run m (a ∷ s) w ≡ Through z → all_ended z ≡ true → HasFirst m w b (a ∷ s)
  past_other a s shorter b differs w v z f reached takes free legal ended =
      let x = first_step w z (step m w a) (run m s) legal in
      let u : World = x.0 in
      let c : DoCommute m w a b =
      record {
        differ = differs;
        first_world = u;
        first_event = x.1;
        first_steps = x.2;
        second_world = v;
        second_event = f;
        second_steps = takes;
        apart = free w (met_itself m w (a ∷ s)) a b differs (ap is_step x.2) (ap is_step takes);
      } in
      let square = squares_but_names m w limits ok reached a b differs c.apart u v x.1 f x.2 takes in
      let r : HasFirst m u b s = shorter u square.1 z b f (reached_step m w u a x.1 reached x.2) square.3
      (λ p g. free p (met_behind m w u p a x.1 s x.2 g)) x.3 ended in
      let rest : List ℕ = a ∷ map (all_named (exchange_of m w a b)) r.0 in
      let swapped : AreSwapped m w (a ∷ b ∷ r.0) (exchange_of m w a b) (b ∷ rest) =
      record {
        before = [];
        first = a;
        second = b;
        after = r.0;
        here = w;
        leads = refl;
        commute = c;
        exchanges = refl;
        this = refl;
        other = refl;
      } in (
        rest,
        class_on m w (a ∷ s) (a ∷ b ∷ r.0) (b ∷ rest) (class_behind m w u a x.1 x.2 s (b ∷ r.0) r.1)
            (class_swap m w (a ∷ b ∷ r.0) (exchange_of m w a b) (b ∷ rest) swapped),
      )

  to_front : (s : List ℕ) → Moves s
  to_front [] w v z b f reached takes free legal ended =
      absurd (nobody_steps m w v b f takes (ap all_ended (same_through w z legal) ∙ ended))
  to_front (a ∷ s) w v z b f reached takes free legal ended = by (to_front s) (same_or_not b a)
    where
      by : Moves s → (b ≡ a) ⊎ (b ≡ a → ⊥) → HasFirst m w b (a ∷ s)
      by shorter (inl same) = (s, class_same m w (a ∷ s) (b ∷ s) (ap (λ x. x ∷ s) (sym same)))
      by shorter (inr differs) = past_other a s shorter b differs w v z f reached takes free legal ended

  -- ---- the law

  pub every : (t s : List ℕ) (w y z : World) → IsReached m w → run m s w ≡ Through z → all_ended z ≡ true → HasNoRace m w s
      → run m t w ≡ Through y → IsBegun m w s t
  every [] s w y z reached legal ended free goes = record { rest = s; member = class_same m w s s refl }
  every (b ∷ t) s w y z reached legal ended free goes =
      let x = first_step w y (step m w b) (run m t) goes in
      let v : World = x.0 in
      let f : Event = x.1 in
      let r : HasFirst m w b s = to_front s w v z b f reached x.2 free legal ended in
      let g : GoesAsWell m w s (b ∷ r.0) r.1 z = class_as_well m limits ok w z reached s (b ∷ r.0) r.1 legal in
      let rest : IsBegun m v r.0 t =
      every t r.0 v y g.last (reached_step m w v b f reached x.2) (sym (run_first m r.0 w v b f x.2) ∙ g.legal)
      (sym (same_ends m (names_along r.1.between) z g.last g.alike) ∙ ended)
      (λ p h. free p (met_by m w p s (b ∷ r.0) r.1 (met_behind m w v p b f r.0 x.2 h))) x.3 in
      record {
        rest = rest.rest;
        member = class_on m w s (b ∷ r.0) (b ∷ (t ++ rest.rest)) r.1 (class_behind m w v b f x.2 r.0 (t ++ rest.rest) rest.member);
      }
