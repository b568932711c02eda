-- One change of one activity's standings: the counters, and the view.
use Rattle.std.proofs.Common.{◌≡◌, ℕ, zero, suc, ◌+◌, ◌-◌, ◌<◌, Bool, true, false, cond, List, [], ◌∷◌, ◌++◌, map, length, get_or, set, Some, refl, sym, ap, ◌∙◌, subst, arith, slice_get}
use Rattle.std.proofs.lemmas.List.{map-set, map_push, length-map}
use Rattle.std.proofs.lemmas.Option.{none-some, same_Some}
use Rattle.xk_types.specs.declared.world.Standing.{Standing}
use Rattle.xk_types.specs.declared.world.Standing.TheVariants as standing
use Rattle.xk_types.specs.World.{Clock}
use Rattle.xk_types.specs.Step.{is_pending, is_registered, is_ready, advanced, settled_clock, moved_on, moved, joined_on, joined}
use Rattle.xk_types.proofs.StandingLemmas.{advanced_twice}
use Rattle.xk_clocks.specs.Table.{CountValue, is_ready_count, count_settled, one_if}
use Rattle.xk_registrations.specs.View.{Registration, stands, row, told_clock, told_by, held, WillAdvance, IsNear, IsFit, AreFit, last_settled, changed_by, count_between, count_after, counts_after}
use Rattle.xk_clocks.specs.StandingCounts.{tally}
use Rattle.xk_clocks.proofs.TallyLemmas.{tally-set, tally-push, ready_same, counts_advanced}
use Rattle.xk_clocks.proofs.CountStepLemmas.{unready_after}

-- ---- rows

-- where one activity stands, in the row
pub row_at : (acts : List (List Registration)) (k p a : ℕ) → get_or (row acts k p) a standing.Apart ≡ stands (held acts a) k p
row_at [] k p a = refl
row_at (rs ∷ acts) k p zero = refl
row_at (rs ∷ acts) k p (suc a) = row_at acts k p a

-- the row once the clock has advanced
row_advanced : (acts : List (List Registration)) (k p q : ℕ) → p < q → ((a : ℕ) → WillAdvance (held acts a) k p) → row acts k q ≡ map advanced (row acts k p)
row_advanced [] k p q h ahead = refl
row_advanced (rs ∷ acts) k p q h ahead = rw (ahead 0 q h, row_advanced acts k p q h (λ a. ahead (suc a))) refl

will_still : (rs : List Registration) (k p q : ℕ) → p < q → WillAdvance rs k p → WillAdvance rs k q
will_still rs k p q h ahead r g = ahead r (omega arith) ∙ sym (advanced_twice (stands rs k p)) ∙ ap advanced (sym (ahead q h))

-- ---- the end of a step

-- the view of a settled clock is the settled view
told_settled : (acts : List (List Registration)) (k : ℕ) (c : CountValue) (now : ℕ) (last after : ℕ → ℕ) → IsNear acts k c → after k ≡ last_settled now c (last k)
    → (told_clock after acts k (count_settled c) ≡ settled_clock now (told_clock last acts k c)) × IsFit acts k (count_settled c)
told_settled acts k c now last after near step = go (is_ready_count c) refl
  where
    same : is_ready (told_clock last acts k c) ≡ is_ready_count c
    same = ready_same (row acts k c.phase) c near.counts

    go : (b : Bool) → is_ready_count c ≡ b → (told_clock after acts k (count_settled c) ≡ settled_clock now (told_clock last acts k c)) × IsFit acts k (count_settled c)
    go true e =
        let later = row_advanced acts k c.phase (c.phase + 1) (omega arith) near.ahead in (
          rw (same, step, e, later) refl,
          rw e (record {
            counts = rw later (counts_advanced (row acts k c.phase) c near.counts);
            ahead = λ a. will_still (held acts a) k c.phase (c.phase + 1) (omega arith) (near.ahead a);
            kept = unready_after c.registered;
          }),
        )
    go false e = (
      rw (same, step, e) refl,
      rw e (record { counts = near.counts; ahead = near.ahead; kept = e }),
    )

-- ---- one activity's registrations become others

-- what holds of what it now holds, and of what all held, holds of what all hold
pub held_set : (P : List Registration → Type 0) (acts : List (List Registration)) (a b : ℕ) (new : List Registration) → P new → ((j : ℕ) → P (held acts j)) → P (held (set acts a new) b)
held_set P [] a b new here all = all b
held_set P (rs ∷ acts) zero zero new here all = here
held_set P (rs ∷ acts) zero (suc b) new here all = all (suc b)
held_set P (rs ∷ acts) (suc a) zero new here all = all 0
held_set P (rs ∷ acts) (suc a) (suc b) new here all = held_set P acts a b new here (λ j. all (suc j))

pub held_push : (P : List Registration → Type 0) (acts : List (List Registration)) (b : ℕ) (new : List Registration) → P new → ((j : ℕ) → P (held acts j)) → P (held (acts ++ new ∷ []) b)
held_push P [] zero new here all = here
held_push P [] (suc b) new here all = all 0
held_push P (rs ∷ acts) zero new here all = all 0
held_push P (rs ∷ acts) (suc b) new here all = held_push P acts b new here (λ j. all (suc j))

-- the counters of one count
count_set : (test : Standing → Bool) (ss : List Standing) (a n : ℕ) (s t : Standing) → a < length ss → get_or ss a standing.Apart ≡ s → n ≡ tally test ss
    → n + one_if (test t) - one_if (test s) ≡ tally test (set ss a t)
count_set test ss a n s t h is e =
    let there = tally-set test ss a t standing.Apart h in
    let same : one_if (test (get_or ss a standing.Apart)) ≡ one_if (test s) = ap (λ x. one_if (test x)) is in
    omega arith

row_set : (acts : List (List Registration)) (k p a : ℕ) (new : List Registration) → row (set acts a new) k p ≡ set (row acts k p) a (stands new k p)
row_set acts k p a new = map-set (λ (rs : List Registration). stands rs k p) acts a new

-- the invariant but for the end of the step
near_moved : (acts : List (List Registration)) (a k : ℕ) (new : List Registration) (c : CountValue) → a < length acts → IsFit acts k c → WillAdvance new k c.phase
    → IsNear (set acts a new) k (count_between (held acts a) new k c)
near_moved acts a k new c h fit ahead =
    let inside : a < length (row acts k c.phase) = omega (arith, length-map acts (λ (rs : List Registration). stands rs k c.phase)) in
    let at = row_at acts k c.phase a in
    record {
      counts = rw (row_set acts k c.phase a new) (record {
        registered = count_set is_registered (row acts k c.phase) a c.registered (stands (held acts a) k c.phase) (stands new k c.phase) inside at fit.counts.registered;
        pending = count_set is_pending (row acts k c.phase) a c.pending (stands (held acts a) k c.phase) (stands new k c.phase) inside at fit.counts.pending;
      });
      ahead = λ b. held_set (λ rs. WillAdvance rs k c.phase) acts a b new ahead fit.ahead;
    }

-- the view but for the end of the step
told_moved : (last : ℕ → ℕ) (acts : List (List Registration)) (a k : ℕ) (new : List Registration) (c : CountValue) (f : Standing → Standing)
    → stands new k c.phase ≡ f (stands (held acts a) k c.phase)
    → told_clock last (set acts a new) k (count_between (held acts a) new k c) ≡ moved_on a f (told_clock last acts k c)
told_moved last acts a k new c f e = rw (row_set acts k c.phase a new, row_at acts k c.phase a, e) refl

-- clock by clock
told_by_moved : (now a : ℕ) (h : ℕ → Standing → Standing) (f g : ℕ → CountValue → Clock) (change : ℕ → CountValue → CountValue) (cs : List CountValue)
    → ((k : ℕ) (c : CountValue) → slice_get cs k ≡ Some c → g k (change k c) ≡ settled_clock now (moved_on a (h k) (f k c)))
    → told_by g (changed_by change cs) ≡ map (settled_clock now) (moved a h (told_by f cs))
told_by_moved now a h f g change [] each = refl
told_by_moved now a h f g change (c ∷ cs) each =
    rw (each 0 c refl, told_by_moved now a (λ k. h (suc k)) (λ k. f (suc k)) (λ k. g (suc k)) (λ k. change (suc k)) cs (λ k. each (suc k))) refl

each_changed : (P : ℕ → CountValue → Type 0) (change : ℕ → CountValue → CountValue) (cs : List CountValue)
    → ((k : ℕ) (c : CountValue) → slice_get cs k ≡ Some c → P k (change k c))
    → (k : ℕ) (c : CountValue) → slice_get (changed_by change cs) k ≡ Some c → P k c
each_changed P change [] each k c h = absurd (none-some c h)
each_changed P change (d ∷ cs) each zero c h = subst (P 0) (same_Some (change 0 d) c h) (each 0 d refl)
each_changed P change (d ∷ cs) each (suc k) c h = each_changed (λ j. P (suc j)) (λ j. change (suc j)) cs (λ j. each (suc j)) k c h

-- What a step owes that makes new of activity a's registrations: they read, on each clock, as the definitions change the old ones; they will read
-- rightly when it advances; and the clock's last advance is noted.
pub record Becomes (now : ℕ) (h : ℕ → Standing → Standing) (last after : ℕ → ℕ) (old new : List Registration) (k : ℕ) (c : CountValue) : Type 0 where
  pub reads : stands new k c.phase ≡ h k (stands old k c.phase)
  pub ahead : WillAdvance new k c.phase
  pub noted : after k ≡ last_settled now (count_between old new k c) (last k)

-- A step that changes one activity's standings.
pub moved_told : (now a : ℕ) (h : ℕ → Standing → Standing) (last after : ℕ → ℕ) (acts : List (List Registration)) (cs : List CountValue) (new : List Registration)
    → a < length acts → AreFit acts cs
    → ((k : ℕ) (c : CountValue) → slice_get cs k ≡ Some c → Becomes now h last after (held acts a) new k c)
    → (told_by (told_clock after (set acts a new)) (counts_after (held acts a) new cs) ≡ map (settled_clock now) (moved a h (told_by (told_clock last acts) cs)))
    × AreFit (set acts a new) (counts_after (held acts a) new cs)
moved_told now a h last after acts cs new inside fit becomes = (
  told_by_moved now a h (told_clock last acts) (told_clock after (set acts a new)) (count_after (held acts a) new) cs
      (λ k c at. (here k c at).0 ∙ ap (settled_clock now) (told_moved last acts a k new c (h k) (becomes k c at).reads)),
  each_changed (IsFit (set acts a new)) (count_after (held acts a) new) cs (λ k c at. (here k c at).1),
)
  where
    here : (k : ℕ) (c : CountValue) → slice_get cs k ≡ Some c
        → (told_clock after (set acts a new) k (count_after (held acts a) new k c) ≡ settled_clock now (told_clock last (set acts a new) k (count_between (held acts a) new k c)))
        × IsFit (set acts a new) k (count_after (held acts a) new k c)
    here k c at =
        told_settled (set acts a new) k (count_between (held acts a) new k c) now last after
        (near_moved acts a k new c inside (fit k c at) (becomes k c at).ahead) (becomes k c at).noted

-- ---- a new activity

count_push : (test : Standing → Bool) (ss : List Standing) (n : ℕ) (t : Standing) → n ≡ tally test ss → test standing.Apart ≡ false
    → n + one_if (test t) - one_if (test standing.Apart) ≡ tally test (ss ++ t ∷ [])
count_push test ss n t is e =
    let more = tally-push test ss t in
    let none : one_if (test standing.Apart) ≡ 0 = ap one_if e in
    omega arith

row_push : (acts : List (List Registration)) (k p : ℕ) (new : List Registration) → row (acts ++ new ∷ []) k p ≡ row acts k p ++ stands new k p ∷ []
row_push acts k p new = map_push (λ (rs : List Registration). stands rs k p) acts new

near_joined : (acts : List (List Registration)) (k : ℕ) (new : List Registration) (c : CountValue) → IsFit acts k c → WillAdvance new k c.phase
    → IsNear (acts ++ new ∷ []) k (count_between [] new k c)
near_joined acts k new c fit ahead = record {
  counts = rw (row_push acts k c.phase new) (record {
    registered = count_push is_registered (row acts k c.phase) c.registered (stands new k c.phase) fit.counts.registered refl;
    pending = count_push is_pending (row acts k c.phase) c.pending (stands new k c.phase) fit.counts.pending refl;
  });
  ahead = λ b. held_push (λ rs. WillAdvance rs k c.phase) acts b new ahead fit.ahead;
}

told_joined : (last : ℕ → ℕ) (acts : List (List Registration)) (a k : ℕ) (new : List Registration) (c : CountValue) (given : Bool)
    → stands new k c.phase ≡ cond given (stands (held acts a) k c.phase) standing.Apart
    → told_clock last (acts ++ new ∷ []) k (count_between [] new k c) ≡ joined_on a given (told_clock last acts k c)
told_joined last acts a k new c given e = rw (row_push acts k c.phase new, row_at acts k c.phase a, e) refl

told_by_joined : (now a : ℕ) (given : ℕ → Bool) (f g : ℕ → CountValue → Clock) (change : ℕ → CountValue → CountValue) (cs : List CountValue)
    → ((k : ℕ) (c : CountValue) → slice_get cs k ≡ Some c → g k (change k c) ≡ settled_clock now (joined_on a (given k) (f k c)))
    → told_by g (changed_by change cs) ≡ map (settled_clock now) (joined a given (told_by f cs))
told_by_joined now a given f g change [] each = refl
told_by_joined now a given f g change (c ∷ cs) each =
    rw (each 0 c refl, told_by_joined now a (λ k. given (suc k)) (λ k. f (suc k)) (λ k. g (suc k)) (λ k. change (suc k)) cs (λ k. each (suc k))) refl

-- what a step owes that gives a new activity these registrations: they read as the starter's on the clocks that are given, and there are no others
pub record Begins (now : ℕ) (given : ℕ → Bool) (last after : ℕ → ℕ) (starter new : List Registration) (k : ℕ) (c : CountValue) : Type 0 where
  pub reads : stands new k c.phase ≡ cond (given k) (stands starter k c.phase) standing.Apart
  pub ahead : WillAdvance new k c.phase
  pub noted : after k ≡ last_settled now (count_between [] new k c) (last k)

-- A step that starts an activity.
pub joined_told : (now a : ℕ) (given : ℕ → Bool) (last after : ℕ → ℕ) (acts : List (List Registration)) (cs : List CountValue) (new : List Registration)
    → AreFit acts cs
    → ((k : ℕ) (c : CountValue) → slice_get cs k ≡ Some c → Begins now given last after (held acts a) new k c)
    → (told_by (told_clock after (acts ++ new ∷ [])) (counts_after [] new cs) ≡ map (settled_clock now) (joined a given (told_by (told_clock last acts) cs)))
    × AreFit (acts ++ new ∷ []) (counts_after [] new cs)
joined_told now a given last after acts cs new fit begins = (
  told_by_joined now a given (told_clock last acts) (told_clock after (acts ++ new ∷ [])) (count_after [] new) cs
      (λ k c at. (here k c at).0 ∙ ap (settled_clock now) (told_joined last acts a k new c (given k) (begins k c at).reads)),
  each_changed (IsFit (acts ++ new ∷ [])) (count_after [] new) cs (λ k c at. (here k c at).1),
)
  where
    here : (k : ℕ) (c : CountValue) → slice_get cs k ≡ Some c
        → (told_clock after (acts ++ new ∷ []) k (count_after [] new k c) ≡ settled_clock now (told_clock last (acts ++ new ∷ []) k (count_between [] new k c)))
        × IsFit (acts ++ new ∷ []) k (count_after [] new k c)
    here k c at =
        told_settled (acts ++ new ∷ []) k (count_between [] new k c) now last after
        (near_joined acts k new c (fit k c at) (begins k c at).ahead) (begins k c at).noted
