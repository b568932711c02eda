-- Whom each activity awaits, found from below: each living one is noted for all who await it.
use Rattle.std.proofs.Common.{◌≡◌, ◌∙◌, ℕ, zero, suc, ◌+◌, ◌<◌, ◌≤◌, Bool, true, false, ◌&&◌}
use Rattle.std.proofs.Common.{List, [], ◌∷◌, ◌++◌, length, slice_get, replicate}
use Rattle.std.proofs.Common.{Option, Some, None, inl, inr, refl, sym, ap, subst, arith, length-append}
use Rattle.std.specs.Prelude.{◌⊎◌, nat_le, option_and_then, slice_index_or, slice_set, if◌then◌else◌}
use Rattle.std.specs.Option.{option_map_or}
use Rattle.std.proofs.lemmas.Bool.{cases_eq, leb-true, leb-false, le-leb, lt-leb}
use Rattle.std.proofs.lemmas.Option.{get_or_from_slice_get, same_Some, slice_get_within}
use Rattle.xk_types.specs.Code.{ModuleValue}
use Rattle.xk_types.specs.World.{Activity, Finish, World}
use Rattle.xk_types.specs.Step.{innermost, is_under}
use Rattle.xk_types.proofs.ListLemmas.{get-append_left, get_inside, get-set_same, get-set_other}
use Rattle.xk_law_schedules.proofs.ScopeLemmas.FinishOwnerLemmas.{AreOwned, under_above, under_cases, under_owner}
use Rattle.xk_activity.specs.Activities.{act_at}
use Rattle.xk_core.specs.Core.{IsCore, governor, is_living}
use Rattle.xk_scheduler.proofs.FinishOwnerLemmas.{core_owned}
use Rattle.xk_show_events.specs.Worlds.{each_below, those_below}
use Rattle.xk_show_where.specs.Awaited.{AreAwaited, is_in_innermost}
use Rattle.xk_show_where.specs.Excerpts.{ExcerptValue, excerpt_of, noted}
use Rattle.xk_show_where.specs.Where.{is_awaited}
use Rattle.xk_show_where.proofs.ExcerptLemmas.{excerpt_suc, few_enough}

-- ---- lists

length_below : {X : Type 0} (f : ℕ → X) (n : ℕ) → length (each_below (λ k. f k ∷ []) n) ≡ n
length_below f zero = refl
length_below f (suc n) = (let e = length_below f n in omega (arith, e, length-append (each_below (λ k. f k ∷ []) n) (f n ∷ [])))

get_last : {X : Type 0} (xs : List X) (x : X) (k : ℕ) → k ≡ length xs → slice_get (xs ++ x ∷ []) k ≡ Some x
get_last [] x k h = ap (slice_get (x ∷ [])) h
get_last (y ∷ xs) x zero h = absurd (omega (arith, h))
get_last (y ∷ xs) x (suc k) h = get_last xs x k (omega (arith, h))

-- number k of those that are listed for the numbers below n
get_below : {X : Type 0} (f : ℕ → X) (n k : ℕ) → k < n → slice_get (each_below (λ j. f j ∷ []) n) k ≡ Some (f k)
get_below f zero k lt = absurd (omega arith)
get_below f (suc n) k lt = of (cases_eq k n) (get_below f n k)
  where
    of : (k ≡ n) ⊎ (k ≡ n → ⊥) → (k < n → slice_get (each_below (λ j. f j ∷ []) n) k ≡ Some (f k))
        → slice_get (each_below (λ j. f j ∷ []) n ++ f n ∷ []) k ≡ Some (f k)
    of (inl e) before =
        get_last (each_below (λ j. f j ∷ []) n) (f n) k (e ∙ sym (length_below f n)) ∙ ap (λ j. Some (f j)) (sym e)
    of (inr differs) before = get-append_left (each_below (λ j. f j ∷ []) n) (f n ∷ []) k (f k) (before (omega (arith, lt, differs)))

-- the same where others read as not marked
pub marked_below : (f : ℕ → Bool) (n k : ℕ) (marks : List Bool) → marks ≡ each_below (λ j. f j ∷ []) n → k < n
    → slice_index_or marks k false ≡ f k
marked_below f n k marks are lt =
    ap (λ l. slice_index_or l k false) are ∙ get_or_from_slice_get (each_below (λ j. f j ∷ []) n) k (f k) false (get_below f n k lt)

get_repeated : {X : Type 0} (x : X) (n k : ℕ) → k < n → slice_get (replicate n x) k ≡ Some x
get_repeated x zero k lt = absurd (omega arith)
get_repeated x (suc n) zero lt = refl
get_repeated x (suc n) (suc k) lt = get_repeated x n k (omega arith)

-- ---- who is under whose finish

-- the finish that activity a opened last
abbrev own : World → ℕ → Finish
own w a = innermost a (act_at w.activities a)

abbrev under : World → ℕ → ℕ → Bool
under w a b = is_under w.activities (own w a) b

-- the activity that has a governor, and the finish that governs it
governed_so : (w : World) (x o : ℕ) → governor w x ≡ Some o
    → (act : Activity) × (slice_get w.activities x ≡ Some act) × (act.governed.owner ≡ Some o)
governed_so w x o = of (slice_get w.activities x) refl
  where
    of : (z : Option Activity) → slice_get w.activities x ≡ z → option_and_then (λ (act : Activity). act.governed.owner) z ≡ Some o
        → (act : Activity) × (slice_get w.activities x ≡ Some act) × (act.governed.owner ≡ Some o)
    of None e h = absurd (cc)
    of (Some act) e h = (act, e, h)

pub governor_before : (w : World) → AreOwned w.activities → (x o : ℕ) → governor w x ≡ Some o → o < x
governor_before w owned x o h = (let g = governed_so w x o h in owned x g.0 g.1 o g.2)

-- nobody is under a finish of its own, or of one who was started later
not_under : (w : World) → AreOwned w.activities → (a b : ℕ) → b ≤ a → b < length w.activities → under w a b ≡ false
not_under w owned a b le inside = of (under w a b) refl
  where
    of : (u : Bool) → under w a b ≡ u → u ≡ false
    of false e = refl
    of true e =
        let x = get_inside w.activities b inside in
        let above = under_above w.activities owned (own w a) (suc b) b a (omega arith) refl x.0 x.1 e in
        absurd (omega (arith, above, le))

-- who has no governor is under no finish that somebody opened
not_governed : (w : World) → AreOwned w.activities → (a x : ℕ) → x < length w.activities → governor w x ≡ None → under w a x ≡ false
not_governed w owned a x inside none = of (under w a x) refl
  where
    it : (act : Activity) × (slice_get w.activities x ≡ Some act)
    it = get_inside w.activities x inside

    no_owner : it.0.governed.owner ≡ None
    no_owner = sym (ap (option_and_then (λ (act : Activity). act.governed.owner)) it.1) ∙ none

    of : (u : Bool) → under w a x ≡ u → u ≡ false
    of false e = refl
    of true e = by (under_cases w.activities owned (own w a) x it.0 it.1 e)
      where
        by : (it.0.governed ≡ own w a) ⊎ ((o : ℕ) × (it.0.governed.owner ≡ Some o) × (is_under w.activities (own w a) o ≡ true))
            → true ≡ false
        by (inl same) = (let e = sym no_owner ∙ ap (λ (f : Finish). f.owner) same in absurd (cc))
        by (inr p) = (let e = sym no_owner ∙ p.1 in absurd (cc))

-- who isn't governed by a finish of activity a is under its last one where the governor is
up : (w : World) → AreOwned w.activities → (a x o : ℕ) → governor w x ≡ Some o → (a ≡ o → ⊥) → under w a x ≡ under w a o
up w owned a x o h differs = of (under w a x) (under w a o) refl refl
  where
    g : (act : Activity) × (slice_get w.activities x ≡ Some act) × (act.governed.owner ≡ Some o)
    g = governed_so w x o h

    of : (u v : Bool) → under w a x ≡ u → under w a o ≡ v → u ≡ v
    of true true e f = refl
    of false false e f = refl
    of false true e f = sym e ∙ under_owner w.activities owned (own w a) x o g.0 g.1 g.2 f
    of true false e f = by (under_cases w.activities owned (own w a) x g.0 g.1 e)
      where
        by : (g.0.governed ≡ own w a) ⊎ ((z : ℕ) × (g.0.governed.owner ≡ Some z) × (is_under w.activities (own w a) z ≡ true))
            → true ≡ false
        by (inl same) = absurd (differs (same_Some a o (sym (ap (λ (f : Finish). f.owner) same) ∙ g.2)))
        by (inr p) = sym p.2 ∙ ap (under w a) (same_Some p.0 o (sym p.1 ∙ g.2)) ∙ f

-- ---- on the way up

-- up to which number those were noted whom activity a awaits, where activity b is being noted, and the way up has come to x
abbrev noted_up_to : ℕ → ℕ → ℕ → ℕ
noted_up_to b x a = if nat_le x a then suc b else b

-- The way up from b has come to x: b is noted for those from x on, and the others are asked about x as they would be about b.
pub record IsNoting (w : World) (b x : ℕ) (table : List ExcerptValue) : Type 0 where
  pub before : x ≤ b
  pub same : (a : ℕ) → a < x → under w a b ≡ under w a x
  pub told : (a : ℕ) → a < length w.activities → slice_get table a ≡ Some (excerpt_of (those_below (is_awaited w a) (noted_up_to b x a)))

-- the excerpt of those so far, and of the next one
abbrev so_far : World → ℕ → ℕ → ExcerptValue
so_far w a n = excerpt_of (those_below (is_awaited w a) n)

passed : (w : World) (a b : ℕ) → is_awaited w a b ≡ false → so_far w a b ≡ so_far w a (suc b)
passed w a b h = sym (excerpt_suc (is_awaited w a) b ∙ ap (λ u. noted u b (so_far w a b)) h)

not_awaited : (w : World) (a b : ℕ) → under w a b ≡ false → is_awaited w a b ≡ false
not_awaited w a b h = ap (λ u. u && is_living w b) h

awaited_living : (w : World) (a b : ℕ) → is_living w b ≡ true → is_awaited w a b ≡ under w a b
awaited_living w a b living = ap (λ l. under w a b && l) living ∙ of (under w a b)
  where
    of : (u : Bool) → (u && true) ≡ u
    of true = refl
    of false = refl

upto_in : (b x a : ℕ) → x ≤ a → noted_up_to b x a ≡ suc b
upto_in b x a le = ap (λ t. if t then suc b else b) (le-leb x a le)

upto_out : (b x a : ℕ) → a < x → noted_up_to b x a ≡ b
upto_out b x a lt = ap (λ t. if t then suc b else b) (lt-leb x a lt)

le_or_lt : (a b : ℕ) → (a ≤ b) ⊎ (b < a)
le_or_lt a b = of (nat_le a b) refl
  where
    of : (t : Bool) → nat_le a b ≡ t → (a ≤ b) ⊎ (b < a)
    of true e = inl (leb-true a b e)
    of false e = inr (leb-false a b e)

pub noting_first : (m : ModuleValue) (w : World) → IsCore m w → (b : ℕ) (table : List ExcerptValue) → b < length w.activities
    → AreAwaited w b table
    → IsNoting w b b table
noting_first m w core b table inside all = record {
  before = omega arith;
  same = λ a lt. refl;
  told = λ a lt. all a lt ∙ ap (λ (e : ExcerptValue). Some e) (of a (le_or_lt b a));
}
  where
    of : (a : ℕ) → (b ≤ a) ⊎ (a < b) → so_far w a b ≡ so_far w a (noted_up_to b b a)
    of a (inl le) =
        passed w a b (not_awaited w a b (not_under w (core_owned m w core) a b le inside)) ∙ ap (so_far w a) (sym (upto_in b b a le))
    of a (inr lt) = ap (so_far w a) (sym (upto_out b b a lt))

-- what was noted so far for the governor
noting_found : (m : ModuleValue) (w : World) → IsCore m w → (b x o : ℕ) (table : List ExcerptValue) → o < length w.activities
    → governor w x ≡ Some o
    → IsNoting w b x table → slice_index_or table o (excerpt_of []) ≡ so_far w o b
noting_found m w core b x o table inside h at =
    get_or_from_slice_get table o (so_far w o (noted_up_to b x o)) (excerpt_of []) (at.told o inside)
    ∙ ap (so_far w o) (upto_out b x o (governor_before w (core_owned m w core) x o h))

-- there is an excerpt for the governor, of no more than were noted
pub noting_there : (w : World) (b x o : ℕ) (table : List ExcerptValue) → o < length w.activities → IsNoting w b x table → o < length table
noting_there w b x o table inside at = slice_get_within table o (so_far w o (noted_up_to b x o)) (at.told o inside)

pub noting_few : (m : ModuleValue) (w : World) → IsCore m w → (b x o : ℕ) (table : List ExcerptValue) → o < length w.activities
    → governor w x ≡ Some o → IsNoting w b x table → (slice_index_or table o (excerpt_of [])).count ≤ b
noting_few m w core b x o table inside h at =
    subst (λ (e : ExcerptValue). e.count ≤ b) (sym (noting_found m w core b x o table inside h at)) (few_enough (is_awaited w o) b)

-- what is noted for the governor
abbrev noted_there : World → ℕ → ℕ → ℕ → List ExcerptValue → ExcerptValue
noted_there w b x o table = noted (is_in_innermost w x) b (slice_index_or table o (excerpt_of []))

pub noting_next : (m : ModuleValue) (w : World) → IsCore m w → (b x o : ℕ) (table : List ExcerptValue) → b < length w.activities
    → governor w x ≡ Some o
    → is_living w b ≡ true → IsNoting w b x table
    → IsNoting w b o (slice_set table o (noted (is_in_innermost w x) b (slice_index_or table o (excerpt_of []))))
noting_next m w core b x o table inside h living at = record {
  before = omega (arith, less, at.before);
  same = λ a lt. at.same a (omega (arith, lt, less)) ∙ up w owned a x o h (λ e. omega (arith, e, lt));
  told = λ a lt. of a lt (cases_eq a o);
}
  where
    owned : AreOwned w.activities
    owned = core_owned m w core

    less : o < x
    less = governor_before w owned x o h

    there : o < length w.activities
    there = (let n = at.before in omega (arith, less, inside, n))

    asked : is_in_innermost w x ≡ is_awaited w o b
    asked = ap (λ z. option_map_or (λ a. under w a x) z false) h ∙ sym (awaited_living w o b living ∙ at.same o less)

    is_new : noted_there w b x o table ≡ so_far w o (suc b)
    is_new =
        ap (noted (is_in_innermost w x) b) (noting_found m w core b x o table there h at)
        ∙ ap (λ u. noted u b (so_far w o b)) asked ∙ sym (excerpt_suc (is_awaited w o) b)

    -- for all others nothing changes
    others : (a : ℕ) → (a ≡ o → ⊥) → (o ≤ a) ⊎ (a < o) → (x ≤ a) ⊎ (a < x) → so_far w a (noted_up_to b x a) ≡ so_far w a (noted_up_to b o a)
    others a differs (inl le) (inl far) = ap (so_far w a) (upto_in b x a far ∙ sym (upto_in b o a le))
    others a differs (inl le) (inr near) =
        ap (so_far w a) (upto_out b x a near)
        ∙ passed w a b (not_awaited w a b (at.same a near ∙ up w owned a x o h differs ∙ not_under w owned a o le there))
        ∙ ap (so_far w a) (sym (upto_in b o a le))
    others a differs (inr lt) (inl far) = absurd (omega (arith, lt, far, less))
    others a differs (inr lt) (inr near) = ap (so_far w a) (upto_out b x a near ∙ sym (upto_out b o a lt))

    of : (a : ℕ) → a < length w.activities → (a ≡ o) ⊎ (a ≡ o → ⊥)
        → slice_get (slice_set table o (noted_there w b x o table)) a ≡ Some (so_far w a (noted_up_to b o a))
    of a lt (inl same) =
        ap (slice_get (slice_set table o (noted_there w b x o table))) same
        ∙ get-set_same table o (so_far w o (noted_up_to b x o)) (noted_there w b x o table) (at.told o there)
        ∙ ap (λ (e : ExcerptValue). Some e) (is_new ∙ ap (so_far w o) (sym (upto_in b o o (omega arith))))
        ∙ ap (λ k. Some (so_far w k (noted_up_to b o k))) (sym same)
    of a lt (inr differs) =
        get-set_other table o a (noted_there w b x o table) differs ∙ at.told a lt
        ∙ ap (λ (e : ExcerptValue). Some e) (others a differs (le_or_lt o a) (le_or_lt x a))

pub noting_last : (m : ModuleValue) (w : World) → IsCore m w → (b x : ℕ) (table : List ExcerptValue) → b < length w.activities
    → governor w x ≡ None
    → IsNoting w b x table → AreAwaited w (b + 1) table
noting_last m w core b x table inside none at a lt =
    at.told a lt ∙ ap (λ (e : ExcerptValue). Some e) (of (le_or_lt x a) ∙ ap (so_far w a) more)
  where
    more : suc b ≡ b + 1
    more = omega arith

    here : x < length w.activities
    here = (let n = at.before in omega (arith, n, inside))

    of : (x ≤ a) ⊎ (a < x) → so_far w a (noted_up_to b x a) ≡ so_far w a (suc b)
    of (inl le) = ap (so_far w a) (upto_in b x a le)
    of (inr near) =
        ap (so_far w a) (upto_out b x a near)
        ∙ passed w a b (not_awaited w a b (at.same a near ∙ not_governed w (core_owned m w core) a x here none))

-- ---- one activity after the other

pub none_noted : (w : World) (n : ℕ) (table : List ExcerptValue) → n ≡ length w.activities → table ≡ replicate n (excerpt_of [])
    → AreAwaited w 0 table
none_noted w n table count are a lt =
    ap (λ t. slice_get t a) are ∙ get_repeated (excerpt_of []) n a (omega (arith, count, lt))

-- who has ended is awaited by nobody
pub ended_noted : (w : World) (b : ℕ) (table : List ExcerptValue) → is_living w b ≡ false → AreAwaited w b table
    → AreAwaited w (b + 1) table
ended_noted w b table over all a lt =
    all a lt ∙ ap (λ (e : ExcerptValue). Some e) (passed w a b not_there ∙ ap (so_far w a) more)
  where
    more : suc b ≡ b + 1
    more = omega arith

    none : (u : Bool) → (u && false) ≡ false
    none true = refl
    none false = refl

    not_there : is_awaited w a b ≡ false
    not_there = ap (λ l. under w a b && l) over ∙ none (under w a b)
