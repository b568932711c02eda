-- One that was found goes on by a step and by private steps.
use Rattle.std.proofs.Common.{◌≡◌, ◌∙◌, ℕ, ℤ, zero, suc, ◌+◌, ◌<◌, ◌≤◌, ◌⊎◌, inl, inr, Bool, true, false}
use Rattle.std.proofs.Common.{List, [], ◌∷◌, ◌++◌, length, Option, Some, None, refl, sym, ap, subst, append_assoc, add-one, arith}
use Rattle.std.proofs.Common.{slice_get}
use Rattle.std.specs.Option.{option_to_list}
use Rattle.std.specs.Prelude.{reverse}
use Rattle.std.proofs.lemmas.List.{append-nil, reverse-append}
use Rattle.std.proofs.lemmas.Option.{none-some, same_Some}
use Rattle.xk_types.specs.declared.world.Event.{Event}
use Rattle.xk_types.specs.Acceptance.{IsAccepted}
use Rattle.xk_types.specs.Bound.{steps_bound}
use Rattle.xk_types.specs.Code.{ModuleValue, IsWithinLimits}
use Rattle.xk_types.specs.World.{World}
use Rattle.xk_types.specs.Step.{Outcome, Blocked, Wrong, Stepped, step}
use Rattle.xk_types.specs.Schedule.{is_enabled, number_printed}
use Rattle.xk_law_schedules.proofs.ReachabilityLemmas.{run_more}
use Rattle.xk_outcomes.specs.PrivateSteps.{has_private_step}
use Rattle.xk_law_commute.proofs.QuietStepLaw.{enabled_step}
use Rattle.xk_core.specs.Core.{CoreValue}
use Rattle.xk_outcomes.specs.Found.{FoundValue, along, at_rest, first_found, least, least_private}
use Rattle.xk_outcomes.specs.Found.{act_of, next, next_by_rank, one_more, or_this, settled, through, with_outcome, with_step}
use Rattle.xk_outcomes.specs.Ways.{steps_of, way_of}
use Rattle.xk_outcomes.specs.Search.{IsFound, IsFoundBy, IsSettled, LeadsPrivately}
use Rattle.xk_outcomes.proofs.PrivateStepLemmas.{private_enabled, private_silent}
use Rattle.xk_outcomes.proofs.SearchLemmas.{printed_more}

-- ---- the least that passes

-- a number up to the next one is that one, or up to this one
split : (k n : ℕ) → k ≤ suc n → (k ≤ n) ⊎ (k ≡ suc n)
split k n h = grind arith

least_stays : (passes : ℕ → Bool) (a k n : ℕ) → k ≤ n → least passes k ≡ Some a → least passes n ≡ Some a
least_stays passes a k zero within h = let e : k ≡ zero = omega (arith, within) in subst (λ j. least passes j ≡ Some a) e h
least_stays passes a k (suc n) within h = by (least_stays passes a k n) (split k n within)
  where
    by : (k ≤ n → least passes k ≡ Some a → least passes n ≡ Some a) → (k ≤ n) ⊎ (k ≡ suc n) → least passes (suc n) ≡ Some a
    by before (inl l) = ap (λ o. or_this o (passes n) n) (before l h)
    by before (inr e) = subst (λ j. least passes j ≡ Some a) e h

-- it is the first that passes
pub least_found : (passes : ℕ → Bool) (a n : ℕ) → a < n → least passes a ≡ None → passes a ≡ true → least passes n ≡ Some a
least_found passes a n within none here =
    least_stays passes a (suc a) n (omega (arith, within)) (ap (λ o. or_this o (passes a) a) none ∙ ap (λ b. or_this None b a) here)

pub least_more : (passes : ℕ → Bool) (a : ℕ) → least passes a ≡ None → passes a ≡ false → least passes (a + 1) ≡ None
least_more passes a none not_here = rw add-one (ap (λ o. or_this o (passes a) a) none ∙ ap (λ b. or_this None b a) not_here)

pub least_passes : (passes : ℕ → Bool) (n a : ℕ) → least passes n ≡ Some a → passes a ≡ true
least_passes passes zero a h = absurd (none-some a h)
least_passes passes (suc n) a h = by (least_passes passes n a) (least passes n) (passes n) refl refl h
  where
    by : (least passes n ≡ Some a → passes a ≡ true) → (o : Option ℕ) (b : Bool) → least passes n ≡ o → passes n ≡ b
        → or_this o b n ≡ Some a → passes a ≡ true
    by before (Some c) b e f g = before (e ∙ g)
    by before None true e f g = subst (λ k. passes k ≡ true) (same_Some n a g) f
    by before None false e f g = absurd (none-some a g)

-- ---- a step

-- a step leads on from where a schedule led
found_stepped : (start : CoreValue) (schedule : List ℕ) (x : FoundValue) (a : ℕ) (w : World) (e : Event) → IsFoundBy start schedule x
    → step x.core.module_run x.core.world a ≡ Stepped w e → IsFoundBy start (schedule ++ a ∷ []) (with_outcome x a (Stepped w e))
found_stepped start schedule x a w e f h =
    let m = start.module_run in
    let stepped : step m x.core.world a ≡ Stepped w e = subst (λ k. step k x.core.world a ≡ Stepped w e) f.module_is h in
    record {
      module_is = f.module_is;
      legal = run_more m schedule start.world x.core.world w a e f.legal stepped;
      prints = printed_more m schedule start.world x.core.world w a e f.legal stepped ∙ ap (λ l. l ++ option_to_list (number_printed e)) f.prints;
    }

-- the same of a step that is known to be taken
pub found_taken : (start : CoreValue) (schedule : List ℕ) (x : FoundValue) (a : ℕ) → IsFoundBy start schedule x
    → is_enabled x.core.module_run x.core.world a ≡ true → IsFoundBy start (schedule ++ a ∷ []) (one_more a x)
found_taken start schedule x a f enabled =
    let taken = enabled_step (step x.core.module_run x.core.world a) enabled in
    subst (IsFoundBy start (schedule ++ a ∷ [])) (sym (ap (with_outcome x a) taken.2)) (found_stepped start schedule x a taken.0 taken.1 f taken.2)

found_one_more : (start : CoreValue) (x : FoundValue) (a : ℕ) → IsFound start x → IsFound start (one_more a x)
found_one_more start x a f = by (step x.core.module_run x.core.world a) refl
  where
    by : (o : Outcome) → step x.core.module_run x.core.world a ≡ o → IsFound start (with_outcome x a o)
    by Blocked h = f
    by (Wrong c) h = f
    by (Stepped w e) h = (f.0 ++ a ∷ [], found_stepped start f.0 x a w e f.1 h)

-- ---- private steps

pub found_with_step : (start : CoreValue) (x : FoundValue) (o : Option ℕ) → IsFound start x → IsFound start (with_step x o)
found_with_step start x None f = f
found_with_step start x (Some a) f = found_one_more start x a f

pub found_settled : (start : CoreValue) (x : FoundValue) (n : ℕ) → IsFound start x → IsFound start (settled n x)
found_settled start x zero f = f
found_settled start x (suc n) f = found_with_step start (settled n x) (least_private (settled n x).core) (found_settled start x n f)

-- who is settled was found
pub settled_found : (start : CoreValue) (x : FoundValue) → IsSettled start x → IsFound start x
settled_found start x s = subst (IsFound start) (sym s.2) (found_settled start s.0 (steps_bound s.0.core.module_run) s.1)

settled_next : (start : CoreValue) (x : FoundValue) (a : ℕ) → IsFound start x → IsSettled start (next a x)
settled_next start x a f = (one_more a x, found_one_more start x a f, refl)

-- the start is found by no step
pub found_start : (start : CoreValue) → IsFoundBy start [] (record { core = start; printed = [] })
found_start start = record { module_is = refl; legal = refl; prints = refl }

pub settled_first : (start : CoreValue) → IsSettled start (first_found start)
settled_first start = (record { core = start; printed = [] }, ([], found_start start), refl)

-- where there is no private step, no more are taken
pub settled_all : (x y : FoundValue) (k n : ℕ) → k ≤ n → y ≡ settled k x → least_private y.core ≡ None → y ≡ settled n x
settled_all x y k zero within h private = let e : k ≡ zero = omega (arith, within) in subst (λ j. y ≡ settled j x) e h
settled_all x y k (suc n) within h private = by (λ l. settled_all x y k n l h private) (split k n within)
  where
    by : (k ≤ n → y ≡ settled n x) → (k ≤ n) ⊎ (k ≡ suc n) → y ≡ settled (suc n) x
    by before (inl l) = ap (with_step y) (sym private) ∙ ap (λ (u : FoundValue). with_step u (least_private u.core)) (before l)
    by before (inr e) = subst (λ j. y ≡ settled j x) e h

-- private steps lead from one to the other, and print nothing
record Settles (m : ModuleValue) (x y : FoundValue) : Type 0 where
  list : List ℕ
  private : LeadsPrivately m list x.core.world y.core.world
  same_module : y.core.module_run ≡ m
  prints : y.printed ≡ x.printed

private_more : (m : ModuleValue) (list : List ℕ) (w v x : World) (a : ℕ) (e : Event) → LeadsPrivately m list w v
    → has_private_step m v a ≡ true → step m v a ≡ Stepped x e
    → LeadsPrivately m (list ++ a ∷ []) w x
private_more m [] w v x a e h q s = (subst (λ z. has_private_step m z a ≡ true) (sym h) q, x, e, subst (λ z. step m z a ≡ Stepped x e) (sym h) s, refl)
private_more m (b ∷ list) w v x a e h q s = (h.0, h.1, h.2, h.3, private_more m list h.1 v x a e h.4 q s)

settles_more : (m : ModuleValue) → IsWithinLimits m → IsAccepted m → (x y : FoundValue) → Settles m x y → (o : Option ℕ)
    → least_private y.core ≡ o → Settles m x (with_step y o)
settles_more m limits ok x y s None is = s
settles_more m limits ok x y s (Some a) is =
    let w = y.core.world in
    let q : has_private_step m w a ≡ true =
    subst (λ k. has_private_step k w a ≡ true) s.same_module (least_passes (has_private_step y.core.module_run w) (length w.activities) a is) in
    let taken = enabled_step (step m w a) (private_enabled m w a q) in
    let here : one_more a y ≡ with_outcome y a (Stepped taken.0 taken.1) =
    ap (with_outcome y a) (ap (λ k. step k w a) s.same_module ∙ taken.2) in
    subst (Settles m x) (sym here) (record {
      list = s.list ++ a ∷ [];
      private = private_more m s.list x.core.world w taken.0 a taken.1 s.private q taken.2;
      same_module = s.same_module;
      prints = ap (λ n. y.printed ++ option_to_list n) (private_silent m w a q taken.0 taken.1 taken.2) ∙ append-nil y.printed ∙ s.prints;
    })

settles : (m : ModuleValue) → IsWithinLimits m → IsAccepted m → (x : FoundValue) → x.core.module_run ≡ m → (n : ℕ)
    → Settles m x (settled n x)
settles m limits ok x same zero = record { list = []; private = refl; same_module = same; prints = refl }
settles m limits ok x same (suc n) = settles_more m limits ok x (settled n x) (settles m limits ok x same n) (least_private (settled n x).core) refl

-- ---- one is looked at

-- what stands behind some numbers and perhaps one more
pub one_behind : (xs : List ℤ) (o : Option ℤ) → slice_get (xs ++ option_to_list o) (length xs) ≡ o
one_behind [] None = refl
one_behind [] (Some n) = refl
one_behind (x ∷ xs) o = one_behind xs o

-- where a step leads that can be taken, and what is printed on the way there
pub record Leading (m : ModuleValue) (here y : FoundValue) (u : World) (e : Event) : Type 0 where
  pub list : List ℕ
  pub private : LeadsPrivately m list u y.core.world
  pub same_module : y.core.module_run ≡ m
  pub prints : y.printed ≡ here.printed ++ option_to_list (number_printed e)

pub leading : (m : ModuleValue) → IsWithinLimits m → IsAccepted m → (here y : FoundValue) (a : ℕ) → here.core.module_run ≡ m
    → y ≡ next a here
    → (u : World) (e : Event) → step m here.core.world a ≡ Stepped u e → Leading m here y u e
leading m limits ok here y a same is u e t =
    let x : FoundValue = with_outcome here a (Stepped u e) in
    let taken : one_more a here ≡ x = ap (with_outcome here a) (ap (λ k. step k here.core.world a) same ∙ t) in
    let there : y ≡ at_rest x = is ∙ ap at_rest taken in
    let s = settles m limits ok x same (steps_bound x.core.module_run) in
    subst (λ (z : FoundValue). Leading m here z u e) (sym there)
    (record { list = s.list; private = s.private; same_module = s.same_module; prints = s.prints })

-- a step that can be taken prints one number at most, and private steps behind it none
pub next_prints : (m : ModuleValue) → IsWithinLimits m → IsAccepted m → (here : FoundValue) (a : ℕ) → here.core.module_run ≡ m
    → is_enabled m here.core.world a ≡ true
    → (o : Option ℤ) × ((next a here).printed ≡ here.printed ++ option_to_list o)
next_prints m limits ok here a same enabled =
    let taken = enabled_step (step m here.core.world a) enabled in
    let l = leading m limits ok here (next a here) a same refl taken.0 taken.1 taken.2 in
    (number_printed taken.1, l.prints)

-- the first one prints nothing, and private steps lead to it
pub first_silent : (start : CoreValue) → IsWithinLimits start.module_run → IsAccepted start.module_run → (first_found start).printed ≡ []
first_silent start limits ok =
    (settles start.module_run limits ok (record { core = start; printed = [] }) refl (steps_bound start.module_run)).prints

pub first_led : (start : CoreValue) → IsWithinLimits start.module_run → IsAccepted start.module_run
    → (list : List ℕ) × LeadsPrivately start.module_run list start.world (first_found start).core.world
first_led start limits ok =
    let s = settles start.module_run limits ok (record { core = start; printed = [] }) refl (steps_bound start.module_run) in
    (s.list, s.private)

-- ---- along a way

-- steps more at its end come first
pub along_append : (way more : List ℕ) (x : FoundValue) → along (way ++ more) x ≡ along way (along more x)
along_append [] more x = refl
along_append (r ∷ way) more x = ap (next_by_rank r) (along_append way more x)

pub along_push : (way : List ℕ) (r : ℕ) (x : FoundValue) → along (way ++ r ∷ []) x ≡ along way (next_by_rank r x)
along_push way r x = along_append way (r ∷ []) x

-- a way with its last step first leads where it does
pub along_reverse : (way : List ℕ) (x : FoundValue) → along (reverse way) x ≡ through way x
along_reverse [] x = refl
along_reverse (r ∷ way) x =
    ap (λ l. along l x) (reverse-append (r ∷ []) way) ∙ along_push (reverse way) r x ∙ along_reverse way (next_by_rank r x)

pub first_is_found : (start : CoreValue) → IsFound start (first_found start)
first_is_found start = settled_found start (first_found start) (settled_first start)

-- what a schedule of such steps leads to was found
found_next : (start : CoreValue) (x : FoundValue) (a : ℕ) → IsFound start x → IsFound start (next a x)
found_next start x a f = settled_found start (next a x) (settled_next start x a f)

-- and it is settled, if it was before any step
pub settled_through : (start : CoreValue) (ranks : List ℕ) (x : FoundValue) → IsSettled start x → IsSettled start (through ranks x)
settled_through start [] x s = s
settled_through start (r ∷ ranks) x s =
    settled_through start ranks (next_by_rank r x) (settled_next start x (act_of x.core.world r) (settled_found start x s))

pub found_through : (start : CoreValue) (ranks : List ℕ) (x : FoundValue) → IsFound start x → IsFound start (through ranks x)
found_through start [] x f = f
found_through start (r ∷ ranks) x f = found_through start ranks (next_by_rank r x) (found_next start x (act_of x.core.world r) f)

-- ways one after another, one way more
pub steps_more : (ways : List (List ℕ)) (list : List ℕ) (l : ℕ) → steps_of ways (list ++ l ∷ []) ≡ steps_of ways list ++ way_of ways l
steps_more ways [] l = append-nil (way_of ways l)
steps_more ways (k ∷ list) l = ap (λ ns. way_of ways k ++ ns) (steps_more ways list l)
    ∙ sym (append_assoc (way_of ways k) (steps_of ways list) (way_of ways l))
