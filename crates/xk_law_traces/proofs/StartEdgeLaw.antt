-- The start of an activity comes before its first step: in each schedule of a class who takes that step starts, by their numbers there,
-- the same activity with it; and who is there was started before.
use Rattle.std.proofs.Common.{◌≡◌, ℕ, zero, suc, ◌+◌, ◌-◌, ◌<◌, ◌≤◌, ◌==◌, ◌⊎◌, inl, inr, Bool, true, false, cond, List, [], ◌∷◌, ◌++◌, length, Option, Some, None, option_map, refl, sym, ap, ◌∙◌, arith, eq-eqb}
use Rattle.std.specs.Prelude.{slice_get}
use Rattle.std.proofs.lemmas.Bool.{cases_lt}
use Rattle.std.proofs.lemmas.List.{length-map}
use Rattle.std.proofs.lemmas.Option.{none-some, same_Some, slice_get_within}
use Rattle.xk_types.specs.declared.world.Event.{Event}
use Rattle.xk_types.specs.declared.world.Event.TheVariants as event
use Rattle.xk_types.specs.Acceptance.{IsAccepted}
use Rattle.xk_types.specs.Code.{ModuleValue, IsWithinLimits}
use Rattle.xk_types.specs.World.{World}
use Rattle.xk_types.specs.Step.{Stepped, step}
use Rattle.xk_types.specs.Schedule.{Through, run, IsReached, is_enabled}
use Rattle.xk_law_schedules.proofs.ReachabilityLemmas.{first_step}
use Rattle.xk_law_commute.proofs.ChangeSquareLemmas.{found_of}
use Rattle.xk_law_commute.proofs.QuietStepLaw.{enabled_step}
use Rattle.xk_law_names.specs.Names.{all_named}
use Rattle.xk_law_traces.specs.Moments.{is_start}
use Rattle.xk_law_traces.specs.Classes.{AreOneClass, names_along, name_in}
use Rattle.xk_law_traces.specs.Edges.{StepName, turns_of, IsTaken, IsStart}
use Rattle.xk_law_traces.specs.OneRun.{GoesAsWell}
use Rattle.xk_law_traces.proofs.StepEventLemmas.{grown, wider, run_wider}
use Rattle.xk_law_traces.proofs.SwapLemmas.{stand_of, Deed, deed_named, deed_of, get_map}
use Rattle.xk_law_traces.proofs.ClassLemmas.{deeds, same_deeds, class_as_well}
use Rattle.xk_law_traces.proofs.EdgeLaw.{turns_on, by_first, turns_done, done_on, get_front, get_back, at_turn, run_behind}

-- the activity that a deed starts
abbrev pub child_in : Option Deed → Option ℕ
child_in None = None
child_in (Some d) = d.2

-- ---- who is started when

-- what is started from here on isn't there yet
late_child : (m : ModuleValue) (list : List ℕ) (v z : World) (a j c : ℕ) → run m list v ≡ Through z
    → child_in (slice_get (deeds m list v a) j) ≡ Some c → length v.activities ≤ c
late_child m [] v z a j c h is = absurd (none-some c is)
late_child m (d ∷ list) v z a j c h is =
    let x = first_step v z (step m v d) (run m list) h in
    by x.0 x.1 (wider m v x.0 d x.1 x.2) (d == a) (is_start x.1) j
    (sym (ap (λ l. child_in (slice_get l j)) (by_first m list v x.0 d x.1 a x.2)) ∙ is)
    (λ k g. late_child m list x.0 z a k c x.3 g)
  where
    plain_deed : Event → Bool → Deed
    plain_deed e r = (e, stand_of v d, cond r (Some (length v.activities)) None)

    by : (u : World) (e : Event) → length v.activities ≤ length u.activities → (q r : Bool) (j : ℕ)
        → child_in (slice_get (cond q (plain_deed e r ∷ deeds m list u a) (deeds m list u a)) j) ≡ Some c
        → ((k : ℕ) → child_in (slice_get (deeds m list u a) k) ≡ Some c → length u.activities ≤ c) → length v.activities ≤ c
    by u e wide true true zero g later = let n = same_Some (length v.activities) c g in omega arith
    by u e wide true false zero g later = absurd (none-some c g)
    by u e wide true r (suc j) g later = let n = later j g in omega arith
    by u e wide false r j g later = let n = later j g in omega arith

-- what was started before is there
early_child : (m : ModuleValue) (list : List ℕ) (v z : World) (a j c : ℕ) → run m list v ≡ Through z
    → child_in (slice_get (deeds m list v a) j) ≡ Some c → c < length z.activities
early_child m [] v z a j c h is = absurd (none-some c is)
early_child m (d ∷ list) v z a j c h is =
    let x = first_step v z (step m v d) (run m list) h in
    by x.0 x.1 (run_wider m list x.0 z x.3) (d == a) (is_start x.1) (grown m v x.0 d x.1 x.2) j
    (sym (ap (λ l. child_in (slice_get l j)) (by_first m list v x.0 d x.1 a x.2)) ∙ is) (λ k g. early_child m list x.0 z a k c x.3 g)
  where
    plain_deed : Event → Bool → Deed
    plain_deed e r = (e, stand_of v d, cond r (Some (length v.activities)) None)

    by : (u : World) (e : Event) → length u.activities ≤ length z.activities → (q r : Bool)
        → length u.activities ≡ length v.activities + cond r 1 0 → (j : ℕ)
        → child_in (slice_get (cond q (plain_deed e r ∷ deeds m list u a) (deeds m list u a)) j) ≡ Some c
        → ((k : ℕ) → child_in (slice_get (deeds m list u a) k) ≡ Some c → c < length z.activities) → c < length z.activities
    by u e wide true true more zero g later = let n = same_Some (length v.activities) c g in omega arith
    by u e wide true false more zero g later = absurd (none-some c g)
    by u e wide true r more (suc j) g later = later j g
    by u e wide false r more j g later = later j g

-- ---- in a schedule of the class

-- a start is a deed with this child
pub start_deed : (m : ModuleValue) (before after : List ℕ) (w here there : World) (a : ℕ) (e : Event) → run m before w ≡ Through here
    → step m here a ≡ Stepped there e → is_start e ≡ true
    → child_in (slice_get (deeds m (before ++ a ∷ after) w a) (turns_of a before)) ≡ Some (length here.activities)
start_deed m before after w here there a e leads takes starts =
    ap child_in (at_turn m before (a ∷ after) w here a leads) ∙ ap (λ l. child_in (slice_get l 0)) (by_first m after here there a e a takes)
    ∙ ap (λ q. child_in (slice_get (cond q (deed_of here a e ∷ deeds m after there a) (deeds m after there a)) 0)) (eq-eqb a a refl)
    ∙ ap (λ q. cond q (Some (length here.activities)) None) starts

module _ (m : ModuleValue) (limits : IsWithinLimits m) (ok : IsAccepted m) (w z : World) (reached : IsReached m w) (s : List ℕ)
    (legal : run m s w ≡ Through z)
    (before after : List ℕ) (v : World) (member : AreOneClass m w s (before ++ after)) (leads : run m before w ≡ Through v) where
  -- all that one takes, before and after
  pub turns_all : (c : ℕ) → turns_of c s ≡ turns_of (name_in member c) before + turns_of (name_in member c) after
  turns_all c =
      let g : GoesAsWell m w s (before ++ after) member z = class_as_well m limits ok w z reached s (before ++ after) member legal in
      sym (turns_done m s w z c legal) ∙ sym (length-map (deeds m s w c) (deed_named (names_along member.between)))
      ∙ ap length (sym (same_deeds m limits ok w z reached s (before ++ after) member legal c))
      ∙ turns_done m (before ++ after) w g.last (name_in member c) g.legal
      ∙ turns_on (name_in member c) before after

  -- the child of a deed, by its number there
  child_there : (a k c : ℕ) → child_in (slice_get (deeds m s w a) k) ≡ Some c
      → child_in (slice_get (deeds m (before ++ after) w (name_in member a)) k) ≡ Some (name_in member c)
  child_there a k c is =
      ap (λ l. child_in (slice_get l k)) (same_deeds m limits ok w z reached s (before ++ after) member legal a)
      ∙ ap child_in (get_map (deed_named (names_along member.between)) (deeds m s w a) k) ∙ by (slice_get (deeds m s w a) k) is
    where
      by : (o : Option Deed) → child_in o ≡ Some c
          → child_in (option_map (deed_named (names_along member.between)) o) ≡ Some (name_in member c)
      by None h = absurd (none-some c h)
      by (Some d) h = ap (option_map (all_named (names_along member.between))) h

  -- if that deed is done there, the child is there
  pub child_done : (a k c : ℕ) → child_in (slice_get (deeds m s w a) k) ≡ Some c → k < turns_of (name_in member a) before
      → name_in member c < length v.activities
  child_done a k c is less =
      early_child m before w v (name_in member a) k (name_in member c) leads
      (sym (ap (λ l. child_in (slice_get l k)) (done_on m before after w v (name_in member a) leads)
      ∙ ap child_in (get_front (deeds m before w (name_in member a)) (deeds m after v (name_in member a)) k
      (let n = turns_done m before w v (name_in member a) leads in omega arith)))
      ∙ child_there a k c is)

  -- and if the child is there, that deed is done
  done_child : (a k c : ℕ) → child_in (slice_get (deeds m s w a) k) ≡ Some c → name_in member c < length v.activities
      → k < turns_of (name_in member a) before
  done_child a k c is inside = by (cases_lt k n)
    where
      n : ℕ
      n = turns_of (name_in member a) before

      g : GoesAsWell m w s (before ++ after) member z
      g = class_as_well m limits ok w z reached s (before ++ after) member legal

      late : (j : ℕ) → k ≡ n + j → length v.activities ≤ name_in member c
      late j e = late_child m after v g.last (name_in member a) j (name_in member c) (sym (run_behind m before after w v leads) ∙ g.legal)
          (sym (ap child_in (ap (slice_get (deeds m (before ++ after) w (name_in member a))) e
          ∙ ap (λ l. slice_get l (n + j)) (done_on m before after w v (name_in member a) leads)
          ∙ get_back (deeds m before w (name_in member a)) (deeds m after v (name_in member a)) n j
          (turns_done m before w v (name_in member a) leads)))
          ∙ child_there a k c is)

      by : (k < n) ⊎ (n ≤ k) → k < n
      by (inl h) = h
      by (inr h) = let l = late (k - n) (omega arith) in absurd (omega arith)

  pub start_taken : (x y : StepName) → IsStart m w s x y → is_enabled m v (name_in member y.0) ≡ true
      → IsTaken before (name_in member x.0, x.1)
  start_taken x y start enabled =
      let u = enabled_step (step m v (name_in member y.0)) enabled in
      let there = found_of m v (name_in member y.0) u.0 u.1 u.2 in
      done_child x.0 x.1 y.0
      (ap (λ l. child_in (slice_get (deeds m l w x.0) x.1)) start.whole
      ∙ ap (λ k. child_in (slice_get (deeds m (start.before ++ x.0 ∷ start.after) w x.0) k)) (sym start.turn)
      ∙ start_deed m start.before start.after w start.here start.there x.0 event.Spawned start.leads start.starts refl
      ∙ ap (λ n. Some n) (sym start.child))
      (slice_get_within v.activities (name_in member y.0) there.0 there.1)
