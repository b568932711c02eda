-- Two worlds that differ in what their activities carry out and in the numbers of steps alone.
use Rattle.std.proofs.Common.{◌≡◌, ℕ, zero, suc, ◌+◌, Bool, true, false, cond, not, ◌&&◌, ◌||◌, List, [], ◌∷◌, ◌++◌, map, length, ℤ, Some, None, Option, refl, sym, ap, ◌∙◌, subst, ◌⊎◌, inl, inr, replicate}
use Rattle.std.specs.Prelude.{slice_get, slice_set, slice_index_or}
use Rattle.std.specs.List.{list_any}
use Rattle.std.specs.Option.{option_map_or}
use Rattle.xk_types.specs.declared.world.Standing.{Standing}
use Rattle.xk_types.specs.declared.world.Standing.TheVariants as standing
use Rattle.xk_types.specs.declared.world.Event.{Event}
use Rattle.xk_types.specs.declared.world.Event.TheVariants as event
use Rattle.xk_types.specs.World.{Finish, ActivityOf, Activity, Clock, World, standing_of, is_ended}
use Rattle.xk_types.specs.Step.{Outcome, Blocked, Wrong, Stepped, is_signalled, is_pending, advanced, is_ready, settled_clock, settled, moved_on, moved, none, done, made, new_clock, same_finish, under_within, is_under, awaits_from, joined}
use Rattle.xk_types.specs.Schedule.{is_local}
use Rattle.xk_types.proofs.ListLemmas.{fun_ext}
use Rattle.xk_types.proofs.StandingLemmas.{all_quiet as none_signalled}
use Rattle.xk_tree.specs.Tree.{TreeValue}
use Rattle.xk_source_semantics.specs.Source.{SourceActivity, SourceWorld, source_step}
use Rattle.xk_law_compiler.proofs.PairwiseLemmas.{Pairs, pairs_set, pairs_set_left, pairs_push, pairs_length, pairs_map}

-- ---- clocks

pub record IsAlike (c d : Clock) : Type 0 where
  pub phase : c.phase ≡ d.phase
  pub standings : c.standings ≡ d.standings

alike_moved : (a : ℕ) (change : ℕ → Standing → Standing) (cs ds : List Clock) → Pairs IsAlike cs ds
    → Pairs IsAlike (moved a change cs) (moved a change ds)
alike_moved a change [] [] h = tt
alike_moved a change [] (d ∷ ds) h = absurd h
alike_moved a change (c ∷ cs) [] h = absurd h
alike_moved a change (c ∷ cs) (d ∷ ds) h =
    (record { phase = h.0.phase; standings = ap (λ s. slice_set s a (change 0 (slice_index_or s a standing.Apart))) h.0.standings }, alike_moved a (λ k. change (suc k)) cs ds h.1)

ready_alike : (c d : Clock) → IsAlike c d → is_ready c ≡ is_ready d
ready_alike c d h = ap (λ s. list_any is_signalled s && not (list_any is_pending s)) h.standings

alike_settled : (m n : ℕ) (c d : Clock) → IsAlike c d → IsAlike (settled_clock m c) (settled_clock n d)
alike_settled m n c d h =
    subst (λ b. IsAlike (settled_clock m c) (cond b (record { phase = d.phase + 1; last = n; standings = map advanced d.standings }) d)) (ready_alike c d h) (by (is_ready c))
  where
    by : (b : Bool)
        → IsAlike (cond b (record { phase = c.phase + 1; last = m; standings = map advanced c.standings }) c)
        (cond b (record { phase = d.phase + 1; last = n; standings = map advanced d.standings }) d)
    by true = record { phase = ap (λ p. p + 1) h.phase; standings = ap (map advanced) h.standings }
    by false = h

alike_all : (m n : ℕ) (cs ds : List Clock) → Pairs IsAlike cs ds → Pairs IsAlike (map (settled_clock m) cs) (map (settled_clock n) ds)
alike_all m n cs ds h = pairs_map IsAlike IsAlike (settled_clock m) (settled_clock n) (alike_settled m n) cs ds h

alike_joined : (a : ℕ) (given : ℕ → Bool) (cs ds : List Clock) → Pairs IsAlike cs ds → Pairs IsAlike (joined a given cs) (joined a given ds)
alike_joined a given [] [] h = tt
alike_joined a given [] (d ∷ ds) h = absurd h
alike_joined a given (c ∷ cs) [] h = absurd h
alike_joined a given (c ∷ cs) (d ∷ ds) h = (
  record { phase = h.0.phase; standings = ap (λ s. s ++ (cond (given 0) (slice_index_or s a standing.Apart) standing.Apart) ∷ []) h.0.standings },
  alike_joined a (λ k. given (suc k)) cs ds h.1,
)

-- ---- no clock can advance

abbrev AreQuiet : List Clock → Type 0
AreQuiet [] = Unit {0}
AreQuiet (c ∷ cs) = (is_ready c ≡ false) × AreQuiet cs

settled_quiet : (n : ℕ) (c : Clock) → is_ready (settled_clock n c) ≡ false
settled_quiet n c = by (is_ready c) refl
  where
    by : (b : Bool) → is_ready c ≡ b → is_ready (cond b (record { phase = c.phase + 1; last = n; standings = map advanced c.standings }) c) ≡ false
    by true e = ap (λ b. b && not (list_any is_pending (map advanced c.standings))) (none_signalled c.standings)
    by false e = e

all_quiet : (n : ℕ) (cs : List Clock) → AreQuiet (map (settled_clock n) cs)
all_quiet n [] = tt
all_quiet n (c ∷ cs) = (settled_quiet n c, all_quiet n cs)

set_own : (s : List Standing) (a : ℕ) → slice_set s a (slice_index_or s a standing.Apart) ≡ s
set_own [] a = refl
set_own (x ∷ s) zero = refl
set_own (x ∷ s) (suc a) = ap (λ r. x ∷ r) (set_own s a)

-- where no standing changes, the clocks stay
clocks_stay : (n a : ℕ) (change : ℕ → Standing → Standing) → ((k : ℕ) (s : Standing) → change k s ≡ s) → (cs ds : List Clock) → AreQuiet cs
    → Pairs IsAlike cs ds
    → Pairs IsAlike (map (settled_clock n) (moved a change cs)) ds
clocks_stay n a change same [] [] q h = tt
clocks_stay n a change same [] (d ∷ ds) q h = absurd h
clocks_stay n a change same (c ∷ cs) [] q h = absurd h
clocks_stay n a change same (c ∷ cs) (d ∷ ds) q h =
    let own : slice_set c.standings a (change 0 (standing_of c a)) ≡ c.standings = ap (slice_set c.standings a) (same 0 (standing_of c a)) ∙ set_own c.standings a in
    let quiet : is_ready (moved_on a (change 0) c) ≡ false = ap (λ s. list_any is_signalled s && not (list_any is_pending s)) own ∙ q.0 in
    let one : IsAlike (moved_on a (change 0) c) d = record { phase = h.0.phase; standings = own ∙ h.0.standings } in (
      subst (λ b. IsAlike (cond b (record { phase = c.phase + 1; last = n; standings = map advanced (moved_on a (change 0) c).standings }) (moved_on a (change 0) c)) d)
          (sym quiet) one,
      clocks_stay n a (λ k. change (suc k)) (λ k. same (suc k)) cs ds q.1 h.1,
    )

-- ---- worlds

pub record AreRelated (R : Activity → SourceActivity → Type 0) (w : World) (v : SourceWorld) : Type 0 where
  pub activities : Pairs R w.activities v.activities
  pub clocks : Pairs IsAlike w.clocks v.clocks
  pub cells : w.cells ≡ v.cells
  pub quiet : AreQuiet w.clocks

-- What a step of a module comes to, beside a world of the source: it is seen by nobody and that world is still related, or a step of the same
-- activity has the same event and leads to one that is.
abbrev pub Follows : TreeValue → (Activity → SourceActivity → Type 0) → SourceWorld → ℕ → Outcome → Type 0
Follows t R v a Blocked = Unit {0}
Follows t R v a (Wrong c) = Unit {0}
Follows t R v a (Stepped next e) = ((is_local e ≡ true) × AreRelated R next v) ⊎ ((after : SourceWorld) × (source_step t v a ≡ Stepped after e) × AreRelated R next after)

module _ (t : TreeValue) (R : Activity → SourceActivity → Type 0) (w : World) (v : SourceWorld) (a : ℕ) (rel : AreRelated R w v) where
  -- both change one activity, and its standings
  pub both_move : (next : Activity) (after : SourceActivity) (change : ℕ → Standing → Standing) (e : Event)
      → source_step t v a ≡ done v a after change e → R next after → Follows t R v a (done w a next change e)
  both_move next after change e s r = inr (
    _,
    s,
    record {
      activities = pairs_set R w.activities v.activities a next after rel.activities r;
      clocks = alike_all (w.steps + 1) (v.steps + 1) (moved a change w.clocks) (moved a change v.clocks) (alike_moved a change w.clocks v.clocks rel.clocks);
      cells = rel.cells;
      quiet = all_quiet (w.steps + 1) (moved a change w.clocks);
    },
  )

  -- both write a shared number, too
  pub both_write : (next : Activity) (after : SourceActivity) (s : ℕ) (n : ℤ) (e : Event)
      → source_step t v a ≡ done (record v { cells = slice_set v.cells s n }) a after none e → R next after
      → Follows t R v a (done (record w { cells = slice_set w.cells s n }) a next none e)
  both_write next after s n e st r = inr (
    _,
    st,
    record {
      activities = pairs_set R w.activities v.activities a next after rel.activities r;
      clocks = alike_all (w.steps + 1) (v.steps + 1) (moved a none w.clocks) (moved a none v.clocks) (alike_moved a none w.clocks v.clocks rel.clocks);
      cells = ap (λ cells. slice_set cells s n) rel.cells;
      quiet = all_quiet (w.steps + 1) (moved a none w.clocks);
    },
  )

  -- both make a clock
  pub both_make : (next : Activity) (after : SourceActivity) → source_step t v a ≡ made v a after → R next after → Follows t R v a (made w a next)
  both_make next after st r = inr (
    _,
    st,
    record {
      activities = pairs_set R w.activities v.activities a next after rel.activities r;
      clocks = alike_all (w.steps + 1) (v.steps + 1) (w.clocks ++ new_clock (length w.activities) a ∷ []) (v.clocks ++ new_clock (length v.activities) a ∷ [])
          (pairs_push IsAlike w.clocks v.clocks (new_clock (length w.activities) a) (new_clock (length v.activities) a) rel.clocks
          (record { phase = refl; standings = ap (λ n. slice_set (replicate n standing.Apart) a standing.Open) (pairs_length R w.activities v.activities rel.activities) }));
      cells = rel.cells;
      quiet = all_quiet (w.steps + 1) (w.clocks ++ new_clock (length w.activities) a ∷ []);
    },
  )

  -- both start an activity
  pub both_start : (next : Activity) (after : SourceActivity) (child : Activity) (begun : SourceActivity) (given : ℕ → Bool)
      → source_step t v a ≡ Stepped (settled (record v { activities = slice_set v.activities a after ++ begun ∷ []; clocks = joined a given v.clocks })) event.Spawned
      → R next after → R child begun
      → Follows t R v a (Stepped (settled (record w { activities = slice_set w.activities a next ++ child ∷ []; clocks = joined a given w.clocks })) event.Spawned)
  both_start next after child begun given st r n = inr (
    _,
    st,
    record {
      activities = pairs_push R (slice_set w.activities a next) (slice_set v.activities a after) child begun
          (pairs_set R w.activities v.activities a next after rel.activities r) n;
      clocks = alike_all (w.steps + 1) (v.steps + 1) (joined a given w.clocks) (joined a given v.clocks) (alike_joined a given w.clocks v.clocks rel.clocks);
      cells = rel.cells;
      quiet = all_quiet (w.steps + 1) (joined a given w.clocks);
    },
  )

  -- the source waits
  pub one_moves : (next : Activity) (call : SourceActivity) → slice_get v.activities a ≡ Some call → R next call
      → Follows t R v a (done w a next none event.Local)
  one_moves next call there r = inl (
    refl,
    record {
      activities = pairs_set_left R w.activities v.activities a next call rel.activities there r;
      clocks = clocks_stay (w.steps + 1) a none (λ k s. refl) w.clocks v.clocks rel.quiet rel.clocks;
      cells = rel.cells;
      quiet = all_quiet (w.steps + 1) (moved a none w.clocks);
    },
  )

-- ---- who waits, and for whom

pub waits_alike : (a : ℕ) (cs ds : List Clock) → Pairs IsAlike cs ds
    → list_any (λ c. is_signalled (standing_of c a)) cs ≡ list_any (λ c. is_signalled (standing_of c a)) ds
waits_alike a [] [] h = refl
waits_alike a [] (d ∷ ds) h = absurd h
waits_alike a (c ∷ cs) [] h = absurd h
waits_alike a (c ∷ cs) (d ∷ ds) h =
    ap (λ s. is_signalled (slice_index_or s a standing.Apart) || list_any (λ k. is_signalled (standing_of k a)) cs) h.0.standings
    ∙ ap (λ b. is_signalled (standing_of d a) || b) (waits_alike a cs ds h.1)

-- the statuses and who governs are the same
pub record IsKin {F G : Type 0} (x : ActivityOf F) (y : ActivityOf G) : Type 0 where
  pub status : x.status ≡ y.status
  pub governed : x.governed ≡ y.governed

abbrev pub AreKin : {F G : Type 0} → List (ActivityOf F) → List (ActivityOf G) → Type 0
AreKin xs ys = Pairs IsKin xs ys

abbrev pub Together : {A B : Type 0} → (A → B → Type 0) → Option A → Option B → Type 0
Together R None None = Unit {0}
Together R None (Some y) = ⊥
Together R (Some x) None = ⊥
Together R (Some x) (Some y) = R x y

pub together_at : {A B : Type 0} (R : A → B → Type 0) (xs : List A) (ys : List B) (b : ℕ) → Pairs R xs ys
    → Together R (slice_get xs b) (slice_get ys b)
together_at R [] [] b h = tt
together_at R [] (y ∷ ys) b h = absurd h
together_at R (x ∷ xs) [] b h = absurd h
together_at R (x ∷ xs) (y ∷ ys) zero h = h.0
together_at R (x ∷ xs) (y ∷ ys) (suc b) h = together_at R xs ys b h.1

under_kin : {F G : Type 0} (xs : List (ActivityOf F)) (ys : List (ActivityOf G)) (f : Finish) (n b : ℕ) → AreKin xs ys
    → under_within xs f n b ≡ under_within ys f n b
unfolding under_within
under_kin xs ys f zero b kin = refl
under_kin {F} {G} xs ys f (suc n) b kin =
    by (slice_get xs b) (slice_get ys b) (together_at IsKin xs ys b kin) (fun_ext (under_within xs f n) (under_within ys f n) (λ c. under_kin xs ys f n c kin))
  where
    by : (o : Option (ActivityOf F)) (p : Option (ActivityOf G)) → Together IsKin o p → under_within xs f n ≡ under_within ys f n
        → option_map_or (λ act. same_finish act.governed f || option_map_or (under_within xs f n) act.governed.owner false) o false
        ≡ option_map_or (λ act. same_finish act.governed f || option_map_or (under_within ys f n) act.governed.owner false) p false
    by None None h all = refl
    by None (Some y) h all = absurd h
    by (Some x) None h all = absurd h
    by (Some x) (Some y) h all =
        ap (λ g. same_finish g f || option_map_or (under_within xs f n) g.owner false) h.governed
        ∙ ap (λ u. same_finish y.governed f || option_map_or u y.governed.owner false) all

pub awaits_kin : {F G : Type 0} (xs : List (ActivityOf F)) (ys : List (ActivityOf G)) (f : Finish) (b : ℕ) (us : List (ActivityOf F))
    (vs : List (ActivityOf G)) → AreKin xs ys → AreKin us vs
    → awaits_from xs f b us ≡ awaits_from ys f b vs
awaits_kin xs ys f b [] [] kin h = refl
awaits_kin xs ys f b [] (v ∷ vs) kin h = absurd h
awaits_kin xs ys f b (u ∷ us) [] kin h = absurd h
awaits_kin xs ys f b (u ∷ us) (v ∷ vs) kin h =
    ap (λ r. (is_under xs f b && not (is_ended u.status)) || r) (awaits_kin xs ys f (suc b) us vs kin h.1)
    ∙ ap (λ s. (is_under xs f b && not (is_ended s)) || awaits_from ys f (suc b) vs) h.0.status
    ∙ ap (λ u. (u && not (is_ended v.status)) || awaits_from ys f (suc b) vs)
    (under_kin xs ys f (length xs) b kin ∙ ap (λ n. under_within ys f n b) (pairs_length IsKin xs ys kin))

pub pairs_weaker : {A B : Type 0} (R S : A → B → Type 0) → ((x : A) (y : B) → R x y → S x y) → (xs : List A) (ys : List B) → Pairs R xs ys
    → Pairs S xs ys
pairs_weaker R S k [] [] h = tt
pairs_weaker R S k [] (w ∷ ys) h = absurd h
pairs_weaker R S k (z ∷ xs) [] h = absurd h
pairs_weaker R S k (z ∷ xs) (w ∷ ys) h = (k z w h.0, pairs_weaker R S k xs ys h.1)
