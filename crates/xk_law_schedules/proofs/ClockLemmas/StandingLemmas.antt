-- Where activities stand on clocks, and what changes it: a step of one activity, a new clock, a new activity.
use Rattle.std.proofs.Common.{◌≡◌, ℕ, zero, suc, ◌<◌, Bool, cond, List, [], ◌∷◌, ◌++◌, length, get_or, replicate, Some, refl, sym, ap, ◌∙◌, subst, length-set, get_or-set_same, get_or-set_other}
use Rattle.std.specs.Prelude.{slice_get}
use Rattle.std.specs.Option.{option_map_or}
use Rattle.std.proofs.lemmas.List.{length-replicate, get_or_push, get_or_append_left}
use Rattle.std.proofs.lemmas.Option.{none-some, same_Some}
use Rattle.std.proofs.lemmas.Bool.{cond_both}
use Rattle.xk_types.specs.declared.world.Standing.{Standing}
use Rattle.xk_types.specs.declared.world.Standing.TheVariants as standing
use Rattle.xk_types.specs.World.{Clock, standing_of}
use Rattle.xk_types.specs.Step.{moved_on, moved, joined_on, joined, new_clock}
use Rattle.xk_law_schedules.proofs.Invariant.{Each, stands_on}
use Rattle.xk_types.proofs.ListLemmas.{get-push_other, get_push}

-- ---- one activity's standings change

-- where the one that changes stands
pub stand_same : (a : ℕ) (f : Standing → Standing) (c : Clock) → a < length c.standings → standing_of (moved_on a f c) a ≡ f (standing_of c a)
stand_same a f c h = get_or-set_same c.standings a (f (standing_of c a)) standing.Apart h

-- where others stand
pub stand_other : (a b : ℕ) (f : Standing → Standing) (c : Clock) → (b ≡ a → ⊥) → standing_of (moved_on a f c) b ≡ standing_of c b
stand_other a b f c h = get_or-set_other c.standings a b (f (standing_of c a)) standing.Apart h

-- there are as many clocks
pub length-moved : (a : ℕ) (change : ℕ → Standing → Standing) (clocks : List Clock) → length (moved a change clocks) ≡ length clocks
length-moved a change [] = refl
length-moved a change (c ∷ cs) = ap suc (length-moved a (λ j. change (suc j)) cs)

-- what holds of each clock with its change holds of each clock after it
pub each_moved : (a : ℕ) (change : ℕ → Standing → Standing) (P : ℕ → Clock → Type 0) (clocks : List Clock)
    → Each (λ k c. P k (moved_on a (change k) c)) clocks → Each P (moved a change clocks)
each_moved a change P [] all k c h = absurd (none-some c h)
each_moved a change P (d ∷ cs) all zero c h = subst (P zero) (same_Some (moved_on a (change 0) d) c h) (all zero d refl)
each_moved a change P (d ∷ cs) all (suc k) c h = each_moved a (λ j. change (suc j)) (λ j. P (suc j)) cs (λ j x. all (suc j) x) k c h

-- others stand where they stood
pub stands_on-moved_other : (a b : ℕ) (change : ℕ → Standing → Standing) (clocks : List Clock) (k : ℕ) → (b ≡ a → ⊥)
    → stands_on (moved a change clocks) b k ≡ stands_on clocks b k
stands_on-moved_other a b change [] k h = refl
stands_on-moved_other a b change (c ∷ cs) zero h = stand_other a b (change 0) c h
stands_on-moved_other a b change (c ∷ cs) (suc k) h = stands_on-moved_other a b (λ j. change (suc j)) cs k h

-- the one that changes stands where its change leads
pub stands_on-moved_same : (a : ℕ) (change : ℕ → Standing → Standing) (clocks : List Clock) (k : ℕ)
    → Each (λ j c. a < length c.standings) clocks → ((j : ℕ) → change j standing.Apart ≡ standing.Apart)
    → stands_on (moved a change clocks) a k ≡ change k (stands_on clocks a k)
stands_on-moved_same a change [] k w apart = sym (apart k)
stands_on-moved_same a change (c ∷ cs) zero w apart = stand_same a (change 0) c (w zero c refl)
stands_on-moved_same a change (c ∷ cs) (suc k) w apart =
    stands_on-moved_same a (λ j. change (suc j)) cs k (λ j x. w (suc j) x) (λ j. apart (suc j))

-- where a clock is known
pub stands_on_at : (clocks : List Clock) (a k : ℕ) (c : Clock) → slice_get clocks k ≡ Some c → stands_on clocks a k ≡ standing_of c a
stands_on_at clocks a k c h = ap (λ o. option_map_or (λ x. standing_of x a) o standing.Apart) h

-- ---- a new clock

-- its maker is open on it
pub new_same : (n a : ℕ) → a < n → standing_of (new_clock n a) a ≡ standing.Open
new_same n a h = get_or-set_same (replicate n standing.Apart) a standing.Open standing.Apart (rw (length-replicate n standing.Apart) h)

-- nobody has a standing beyond the list
apart_all : (n b : ℕ) → get_or (replicate n standing.Apart) b standing.Apart ≡ standing.Apart
apart_all zero b = refl
apart_all (suc n) zero = refl
apart_all (suc n) (suc b) = apart_all n b

-- and all others are apart from it
pub new_other : (n a b : ℕ) → (b ≡ a → ⊥) → standing_of (new_clock n a) b ≡ standing.Apart
new_other n a b h = get_or-set_other (replicate n standing.Apart) a b standing.Open standing.Apart h ∙ apart_all n b

-- a new clock has a standing for each activity
pub new_width : (n a : ℕ) → length (new_clock n a).standings ≡ n
new_width n a = length-set (replicate n standing.Apart) a standing.Open ∙ length-replicate n standing.Apart

-- others see no clock more
pub stands_on-push_other : (n a b : ℕ) (clocks : List Clock) (k : ℕ) → (b ≡ a → ⊥)
    → stands_on (clocks ++ new_clock n a ∷ []) b k ≡ stands_on clocks b k
stands_on-push_other n a b [] zero h = new_other n a b h
stands_on-push_other n a b [] (suc k) h = refl
stands_on-push_other n a b (c ∷ cs) zero h = refl
stands_on-push_other n a b (c ∷ cs) (suc k) h = stands_on-push_other n a b cs k h

-- its maker sees the same on all others
pub stands_on-push_old : (clocks : List Clock) (d : Clock) (a k : ℕ) → (k ≡ length clocks → ⊥) → stands_on (clocks ++ d ∷ []) a k ≡ stands_on clocks a k
stands_on-push_old clocks d a k h = ap (λ o. option_map_or (λ x. standing_of x a) o standing.Apart) (get-push_other clocks d k h)

-- where an activity stands on the clock that was pushed
pub stands_on-push_new : (clocks : List Clock) (d : Clock) (a : ℕ) → stands_on (clocks ++ d ∷ []) a (length clocks) ≡ standing_of d a
stands_on-push_new clocks d a = ap (λ o. option_map_or (λ x. standing_of x a) o standing.Apart) (get_push clocks d)

-- ---- one activity more

-- where it stands
pub stand_joined_new : (a n : ℕ) (given : Bool) (c : Clock) → length c.standings ≡ n → standing_of (joined_on a given c) n ≡ cond given (standing_of c a) standing.Apart
stand_joined_new a n given c h = get_or_push c.standings (cond given (standing_of c a) standing.Apart) standing.Apart n h

-- where others stand
pub stand_joined_old : (a b : ℕ) (given : Bool) (c : Clock) → b < length c.standings → standing_of (joined_on a given c) b ≡ standing_of c b
stand_joined_old a b given c h = get_or_append_left c.standings (cond given (standing_of c a) standing.Apart ∷ []) standing.Apart b h

-- there are as many clocks
pub length-joined : (a : ℕ) (given : ℕ → Bool) (clocks : List Clock) → length (joined a given clocks) ≡ length clocks
length-joined a given [] = refl
length-joined a given (c ∷ cs) = ap suc (length-joined a (λ j. given (suc j)) cs)

-- what holds of each clock that was joined holds of each clock after it
pub each_joined : (a : ℕ) (given : ℕ → Bool) (P : ℕ → Clock → Type 0) (clocks : List Clock)
    → Each (λ k c. P k (joined_on a (given k) c)) clocks → Each P (joined a given clocks)
each_joined a given P [] all k c h = absurd (none-some c h)
each_joined a given P (d ∷ cs) all zero c h = subst (P zero) (same_Some (joined_on a (given 0) d) c h) (all zero d refl)
each_joined a given P (d ∷ cs) all (suc k) c h = each_joined a (λ j. given (suc j)) (λ j. P (suc j)) cs (λ j x. all (suc j) x) k c h

-- others stand where they stood
pub stands_on-joined_old : (a b : ℕ) (given : ℕ → Bool) (clocks : List Clock) (k : ℕ) → Each (λ j c. b < length c.standings) clocks
    → stands_on (joined a given clocks) b k ≡ stands_on clocks b k
stands_on-joined_old a b given [] k w = refl
stands_on-joined_old a b given (c ∷ cs) zero w = stand_joined_old a b (given 0) c (w zero c refl)
stands_on-joined_old a b given (c ∷ cs) (suc k) w = stands_on-joined_old a b (λ j. given (suc j)) cs k (λ j x. w (suc j) x)

-- the new one stands where its starter does, on clocks that it is given
pub stands_on-joined_new : (a n : ℕ) (given : ℕ → Bool) (clocks : List Clock) (k : ℕ) → Each (λ j c. length c.standings ≡ n) clocks
    → stands_on (joined a given clocks) n k ≡ cond (given k) (stands_on clocks a k) standing.Apart
stands_on-joined_new a n given [] k w = cond_both (given k) standing.Apart standing.Apart (λ s. standing.Apart ≡ s) (λ e. refl) (λ e. refl)
stands_on-joined_new a n given (c ∷ cs) zero w = stand_joined_new a n (given 0) c (w zero c refl)
stands_on-joined_new a n given (c ∷ cs) (suc k) w = stands_on-joined_new a n (λ j. given (suc j)) cs k (λ j x. w (suc j) x)
