-- The list of those who can take a step, after a step.
use Rattle.std.proofs.Common.{◌≡◌, ◌∙◌, ℕ, zero, suc, ◌+◌, ◌-◌, ◌<◌, ◌≤◌, Bool, true, false, if◌then◌else◌, ◌&&◌, ◌==◌, List, [], ◌∷◌, length, filter, Option, Some, None, Result, Ok, Err, OnErr, slice_get, ◌⊎◌, inl, inr, refl, sym, ap, subst, arith, add-one}
use Rattle.std.specs.List.{list_all}
use Rattle.std.proofs.lemmas.Bool.{cases_eq, eq-eqb, ne_eqb, eqb-true, eqb-false}
use Rattle.std.proofs.lemmas.Option.{none-some, same_Some}
use Rattle.xk_types.specs.declared.world.Event.{Event}
use Rattle.xk_types.specs.declared.world.Event.TheVariants as event
use Rattle.xk_types.specs.declared.world.Status.{Status}
use Rattle.xk_types.specs.declared.world.Status.TheVariants as status
use Rattle.xk_types.specs.Code.{ModuleValue}
use Rattle.xk_types.specs.World.{Activity, World, is_ended}
use Rattle.xk_types.specs.Step.{Stepped, step, step_by, step_of}
use Rattle.xk_types.specs.Schedule.{is_step, is_enabled, all_ended}
use Rattle.xk_core.specs.Core.{IsCore, governor}
use Rattle.xk_types.specs.Bound.{activities_bound, clocks_bound}
use Rattle.xk_law_schedules.proofs.ReachabilityLemmas.{reached_room}
use Rattle.xk_collections.specs.NumberSets.{IsRising, numbers_from, with_member}
use Rattle.xk_scheduler.specs.Choosers.{enabled_in}
use Rattle.xk_scheduler.specs.EnabledSet.{other_to_list}
use Rattle.xk_core.proofs.CoreLemmas.{core_ends}
use Rattle.xk_collections.proofs.RisingListLemmas.{filter_rises, member_added, member_changed, member_passes, members_few, members_none}
use Rattle.xk_scheduler.proofs.IndependenceLemmas.{grows_by_start, keeps_width, steps_within, governor_same, governor_within}

-- ---- who is in the list

pub listed_rises : (m : ModuleValue) (w : World) → IsRising (enabled_in m w)
listed_rises m w = filter_rises (is_enabled m w) (length w.activities)

pub listed_few : (m : ModuleValue) (w : World) → length (enabled_in m w) ≤ length w.activities
listed_few m w = members_few (is_enabled m w) (length w.activities)

pub listed_enabled : (m : ModuleValue) (w : World) (i a : ℕ) → slice_get (enabled_in m w) i ≡ Some a → is_enabled m w a ≡ true
listed_enabled m w i a e = (member_passes (is_enabled m w) (length w.activities) i a e).0

-- where the list is empty, all have ended
pub listed_over : (m : ModuleValue) (w : World) → IsCore m w → enabled_in m w ≡ [] → all_ended w ≡ true
listed_over m w core e = core_ends m w core (members_none (is_enabled m w) (length w.activities) e)

-- one that hasn't ended is enough
not_all : (acts : List Activity) (a : ℕ) (act : Activity) → slice_get acts a ≡ Some act → is_ended act.status ≡ false → list_all (λ (x : Activity). is_ended x.status) acts ≡ false
not_all [] a act e h = absurd (none-some act e)
not_all (x ∷ xs) zero act e h = rw (ap (λ (y : Activity). is_ended y.status) (same_Some x act e) ∙ h) refl
not_all (x ∷ xs) (suc a) act e h = either (is_ended x.status) (not_all xs a act e h)
  where
    either : (b : Bool) → list_all (λ (y : Activity). is_ended y.status) xs ≡ false → (b && list_all (λ (y : Activity). is_ended y.status) xs) ≡ false
    either true g = g
    either false g = refl

-- who can take a step hasn't ended
pub going : (m : ModuleValue) (w : World) (a : ℕ) → is_enabled m w a ≡ true → all_ended w ≡ false
going m w a h = of (slice_get w.activities a) refl h
  where
    by : (act : Activity) → slice_get w.activities a ≡ Some act → (st : Status) → act.status ≡ st → is_step (step_by m w a act st) ≡ true → all_ended w ≡ false
    by act there status.Running e g = not_all w.activities a act there (ap is_ended e)
    by act there status.Arrived e g = not_all w.activities a act there (ap is_ended e)
    by act there status.Ended e g = cc

    of : (o : Option Activity) → slice_get w.activities a ≡ o → is_step (step_of m w a o) ≡ true → all_ended w ≡ false
    of None e g = cc
    of (Some act) e g = by act e act.status refl g

-- where it has somebody, they haven't
listed_going : (m : ModuleValue) (w : World) → (length (enabled_in m w) ≡ 0 → ⊥) → all_ended w ≡ false
listed_going m w some = of (enabled_in m w) refl
  where
    of : (xs : List ℕ) → enabled_in m w ≡ xs → all_ended w ≡ false
    of [] e = absurd (some (ap length e))
    of (a ∷ xs) e = going m w a (listed_enabled m w 0 a (ap (λ l. slice_get l 0) e))

listed_none : (xs : List ℕ) → length xs ≡ 0 → xs ≡ []
listed_none [] e = refl
listed_none (x ∷ xs) e = absurd (omega (arith, e))

-- ---- one step on

-- what a step is to the list: a start, an end, or neither
pub data Sort (w : World) (a : ℕ) (e : Event) : Type 0 where
  Start : e ≡ event.Spawned → Sort w a e
  End : e ≡ event.Ended → Sort w a e
  Neither : (e ≡ event.Spawned → ⊥) → (e ≡ event.Ended → ⊥) → other_to_list w a e ≡ None → Sort w a e

sort_of : (w : World) (a : ℕ) (e : Event) → Sort w a e
sort_of w a event.Spawned = Start refl
sort_of w a event.Ended = End refl
sort_of w a event.Local = Neither (λ h. cc) (λ h. cc) refl
sort_of w a (event.Printed n) = Neither (λ h. cc) (λ h. cc) refl
sort_of w a event.Made = Neither (λ h. cc) (λ h. cc) refl
sort_of w a event.Got = Neither (λ h. cc) (λ h. cc) refl
sort_of w a event.Put = Neither (λ h. cc) (λ h. cc) refl
sort_of w a event.Added = Neither (λ h. cc) (λ h. cc) refl
sort_of w a event.Opened = Neither (λ h. cc) (λ h. cc) refl
sort_of w a event.Closed = Neither (λ h. cc) (λ h. cc) refl
sort_of w a event.Resumed = Neither (λ h. cc) (λ h. cc) refl
sort_of w a event.Dropped = Neither (λ h. cc) (λ h. cc) refl
sort_of w a event.Arrived = Neither (λ h. cc) (λ h. cc) refl
sort_of w a event.Passed = Neither (λ h. cc) (λ h. cc) refl

end_no_start : event.Ended ≡ event.Spawned → ⊥
end_no_start h = cc

-- a test that is as another, but at one number
abbrev but_at : ℕ → (ℕ → Bool) → (ℕ → Bool) → ℕ → Bool
but_at a q p k = if k == a then q k else p k

at_itself : (a : ℕ) (q p : ℕ → Bool) → but_at a q p a ≡ q a
at_itself a q p = rw (eq-eqb a a refl) refl

elsewhere : (a : ℕ) (q p : ℕ → Bool) (k : ℕ) → (k ≡ a → ⊥) → but_at a q p k ≡ p k
elsewhere a q p k ne = rw (ne_eqb k a ne) refl

-- A step of activity a, and a test that says of all others who can step after it, but for the owner of the finish where it ends its activity,
-- and that passes for itself where it can step again.
pub record IsOneStep (m : ModuleValue) (w v : World) (a : ℕ) (e : Event) (p : ℕ → Bool) : Type 0 where
  pub core : IsCore m w
  pub stepped : step m w a ≡ Stepped v e
  pub own : is_enabled m v a ≡ true → p a ≡ true
  pub others : (k : ℕ) → k < length w.activities → (k ≡ a → ⊥) → (e ≡ event.Ended → governor w a ≡ Some k → ⊥) → is_enabled m v k ≡ p k

-- who steps is in the list, if it can step again
pub listed_own : (m : ModuleValue) (w v : World) (a : ℕ) (e : Event) (p : ℕ → Bool) → IsOneStep m w v a e p → is_enabled m v a ≡ true
    → with_member a true (filter p (numbers_from 0 (length w.activities))) ≡ filter p (numbers_from 0 (length w.activities))
listed_own m w v a e p s can =
    ap (λ b. with_member a b (filter p (numbers_from 0 (length w.activities)))) (sym (s.own can))
    ∙ sym (member_changed p p (length w.activities) a (steps_within m w v a e s.stepped) (λ k lt ne. refl))

-- where nobody else is concerned
pub listed_alone : (m : ModuleValue) (w v : World) (a : ℕ) (e : Event) (p : ℕ → Bool) → IsOneStep m w v a e p → other_to_list v a e ≡ None
    → with_member a (is_enabled m v a) (filter p (numbers_from 0 (length w.activities))) ≡ enabled_in m v
listed_alone m w v a e p s none = by (sort_of v a e)
  where
    before : List ℕ
    before = filter p (numbers_from 0 (length w.activities))

    same : (e ≡ event.Spawned → ⊥) → (e ≡ event.Ended → governor w a ≡ None) → with_member a (is_enabled m v a) before ≡ enabled_in m v
    same start end =
        sym (ap (λ n. filter (is_enabled m v) (numbers_from 0 n)) (keeps_width m w v a e s.stepped start)
        ∙ member_changed p (is_enabled m v) (length w.activities) a (steps_within m w v a e s.stepped)
        (λ k lt ne. s.others k lt ne (λ h g. none-some k (sym (end h) ∙ g))))

    by : Sort v a e → with_member a (is_enabled m v a) before ≡ enabled_in m v
    by (Start h) = let bad : other_to_list v a event.Spawned ≡ None = subst (λ f. other_to_list v a f ≡ None) h none in cc
    by (End h) = same (λ g. end_no_start (sym h ∙ g)) (λ g. sym (governor_same m w v a e s.stepped) ∙ subst (λ f. other_to_list v a f ≡ None) h none)
    by (Neither start end none') = same start (λ h. absurd (end h))

-- where somebody else is
pub listed_two : (m : ModuleValue) (w v : World) (a b : ℕ) (e : Event) (p : ℕ → Bool) → IsOneStep m w v a e p → other_to_list v a e ≡ Some b
    → with_member b (is_enabled m v b) (with_member a (is_enabled m v a) (filter p (numbers_from 0 (length w.activities)))) ≡ enabled_in m v
listed_two m w v a b e p s is = by (sort_of v a e)
  where
    before : List ℕ
    before = filter p (numbers_from 0 (length w.activities))

    inside : a < length w.activities
    inside = steps_within m w v a e s.stepped

    started : e ≡ event.Spawned → with_member b (is_enabled m v b) (with_member a (is_enabled m v a) before) ≡ enabled_in m v
    started h =
        let wide : length v.activities ≡ length w.activities + 1 = grows_by_start m w v a (subst (λ f. step m w a ≡ Stepped v f) h s.stepped) in
        let child : b ≡ length w.activities = omega (arith, same_Some (length v.activities - 1) b (subst (λ f. other_to_list v a f ≡ Some b) h is), wide) in
        let old : with_member a (is_enabled m v a) before ≡ filter (is_enabled m v) (numbers_from 0 (length w.activities)) =
        sym (member_changed p (is_enabled m v) (length w.activities) a inside
        (λ k lt ne. s.others k lt ne (λ g owns. end_no_start (sym (sym h ∙ g))))) in
        ap (with_member b (is_enabled m v b)) old
        ∙ ap (λ c. with_member c (is_enabled m v c) (filter (is_enabled m v) (numbers_from 0 (length w.activities)))) child
        ∙ sym (member_added (is_enabled m v) (is_enabled m v) (length w.activities) (λ k lt. refl))
        ∙ ap (λ n. filter (is_enabled m v) (numbers_from 0 n)) (sym (wide ∙ add-one (length w.activities)))

    over : e ≡ event.Ended → with_member b (is_enabled m v b) (with_member a (is_enabled m v a) before) ≡ enabled_in m v
    over h =
        let governs : governor w a ≡ Some b = sym (governor_same m w v a e s.stepped) ∙ subst (λ f. other_to_list v a f ≡ Some b) h is in
        let less : b < a = governor_within m w s.core a b inside governs in
        let q : ℕ → Bool = is_enabled m v in
        let r : ℕ → Bool = but_at a q p in
        let n : ℕ = length w.activities in
        let first : with_member a (q a) before ≡ filter r (numbers_from 0 n) =
        ap (λ x. with_member a x before) (sym (at_itself a q p))
        ∙ sym (member_changed p r n a inside (λ k lt ne. elsewhere a q p k ne)) in
        let second : filter q (numbers_from 0 n) ≡ with_member b (q b) (filter r (numbers_from 0 n)) =
        member_changed r q n b (omega (arith, less, inside)) (λ k lt ne. other k lt ne (cases_eq k a)) in
        ap (with_member b (q b)) first ∙ sym second ∙ ap (λ n. filter q (numbers_from 0 n)) (sym (keeps_width m w v a e s.stepped (λ g. end_no_start (sym h ∙ g))))
      where
        other : (k : ℕ) → k < length w.activities → (k ≡ b → ⊥) → (k ≡ a) ⊎ (k ≡ a → ⊥) → is_enabled m v k ≡ but_at a (is_enabled m v) p k
        other k lt ne (inl at) = rw at (sym (at_itself a (is_enabled m v) p))
        other k lt ne (inr off) =
            s.others k lt off
            (λ g owns. ne (same_Some k b (sym owns ∙ sym (governor_same m w v a e s.stepped) ∙ subst (λ f. other_to_list v a f ≡ Some b) g is)))
            ∙ sym (elsewhere a (is_enabled m v) p k off)

    by : Sort v a e → with_member b (is_enabled m v b) (with_member a (is_enabled m v a) before) ≡ enabled_in m v
    by (Start h) = started h
    by (End h) = over h
    by (Neither start end none) = absurd (none-some b (sym none ∙ is))

-- an empty list says that all have ended
pub over_is : (m : ModuleValue) (w : World) (list : List ℕ) (n : ℕ) → IsCore m w → list ≡ enabled_in m w → n ≡ length list → (n == 0) ≡ all_ended w
over_is m w list n core is wide = of (n == 0) refl
  where
    of : (b : Bool) → (n == 0) ≡ b → (n == 0) ≡ all_ended w
    of true h = h ∙ sym (listed_over m w core (sym is ∙ listed_none list (sym wide ∙ eqb-true n 0 h)))
    of false h = h ∙ sym (listed_going m w (λ z. eqb-false n 0 h (wide ∙ ap length is ∙ z)))

-- a step adds one activity at most, and takes none away
pub step_widens : (m : ModuleValue) (w v : World) (a : ℕ) (e : Event) → step m w a ≡ Stepped v e → (length w.activities ≤ length v.activities)
    × (length v.activities ≤ length w.activities + 1)
step_widens m w v a e h = by (sort_of v a e)
  where
    by : Sort v a e → (length w.activities ≤ length v.activities) × (length v.activities ≤ length w.activities + 1)
    by (Start is) = let wide = grows_by_start m w v a (subst (λ f. step m w a ≡ Stepped v f) is h) in (omega (arith, wide), omega (arith, wide))
    by (End is) = let same = keeps_width m w v a e h (λ g. end_no_start (sym is ∙ g)) in (omega (arith, same), omega (arith, same))
    by (Neither start end none) = let same = keeps_width m w v a e h start in (omega (arith, same), omega (arith, same))

-- what holds anyway holds at Err
pub on_err : {A E : Type 0} (r : Result A E) (P : Type 0) → P → OnErr r P
on_err (Ok x) P p = tt
on_err (Err e) P p = p

-- ---- room

pub core_few : (m : ModuleValue) (w : World) → IsCore m w → length w.activities ≤ activities_bound m
core_few m w core = (reached_room m core.limits core.accepted w core.reached).activities

-- ---- one more in the list

pub listed_more : (p : ℕ → Bool) (n : ℕ) (list next : List ℕ) → list ≡ filter p (numbers_from 0 n) → next ≡ with_member n (p n) list
    → next ≡ filter p (numbers_from 0 (n + 1))
listed_more p n list next is more =
    more ∙ ap (with_member n (p n)) is ∙ sym (member_added p p n (λ k lt. refl)) ∙ ap (λ k. filter p (numbers_from 0 k)) (sym (add-one n))

-- who may be concerned besides is there
pub other_within : (m : ModuleValue) (w : World) (a b : ℕ) (e : Event) → IsCore m w → a < length w.activities → other_to_list w a e ≡ Some b → b < length w.activities
other_within m w a b e core lt is = by (sort_of w a e)
  where
    by : Sort w a e → b < length w.activities
    by (Start h) = omega (arith, lt, same_Some (length w.activities - 1) b (subst (λ f. other_to_list w a f ≡ Some b) h is))
    by (End h) = omega (arith, lt, governor_within m w core a b lt (subst (λ f. other_to_list w a f ≡ Some b) h is))
    by (Neither start end none) = absurd (none-some b (sym none ∙ is))

pub core_clocks : (m : ModuleValue) (w : World) → IsCore m w → length w.clocks ≤ clocks_bound m
core_clocks m w core = (reached_room m core.limits core.accepted w core.reached).clocks
