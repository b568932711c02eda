-- Worlds that are the same but for names go on as one, and steps commute up to names.
use Rattle.std.proofs.Common.{◌≡◌, ℕ, ◌≤◌, ◌==◌, ◌&&◌, Bool, true, false, true≢false, cond, List, [], ◌∷◌, ◌++◌, length, refl, sym, ap, ◌∙◌, subst, arith, suc, zero, ◌<◌}
use Rattle.std.proofs.lemmas.List.{length-map}
use Rattle.std.proofs.lemmas.Bool.{and_parts}
use Rattle.xk_types.specs.declared.world.Event.{Event}
use Rattle.xk_types.specs.declared.world.Event.TheVariants as event
use Rattle.xk_types.specs.Acceptance.{IsAccepted}
use Rattle.xk_types.specs.Code.{ModuleValue, IsWithinLimits}
use Rattle.xk_types.specs.World.{Clock, World}
use Rattle.xk_types.specs.Step.{Stepped, step}
use Rattle.xk_types.specs.Schedule.{IsReached, all_ended}
use Rattle.xk_law_commute.specs.PlainWorlds.{plain_activity, plain_clock, plain, AreAlike}
use Rattle.xk_law_commute.specs.Conflicts.{AreConflictFree}
use Rattle.xk_law_commute.specs.Squares.{makes_next, starts_next}
use Rattle.xk_law_commute.proofs.QuietStepLaw.{alike_worlds_go_alike}
use Rattle.xk_law_commute.proofs.SquareLaw.{all_squares}
use Rattle.xk_law_names.specs.ClockNames.{activity_renamed, outcome_swapped}
use Rattle.xk_law_names.specs.ActivityNames.{renamed, outcome_renamed, HasAllStandings}
use Rattle.xk_law_names.specs.Names.{Exchange, OfClocks, OfActivities, exchanged, IsPair, named, all_exchanged, ArePairs, all_named, AreSameBy, GoAsOne, IsSquareButNames}
use Rattle.xk_law_names.proofs.ClockNameListLemmas.{each-swapped, renamed_beyond}
use Rattle.xk_law_names.proofs.ActivityNameListLemmas.{length-swapped, renamed_twice, renamed_same}
use Rattle.xk_law_names.proofs.ClockNameStepLaw.{step_swapped}
use Rattle.xk_law_names.proofs.ClockNameRunLaw as clocks
use Rattle.xk_law_names.proofs.ClockNameSquareLaw.{makes_after}
use Rattle.xk_law_names.proofs.ClockNameExchangeLaw.{alike_swapped, ended_swapped}
use Rattle.xk_law_names.proofs.ActivityNameWorldLemmas.{length-acts}
use Rattle.xk_law_names.proofs.ActivityNameStepLaw.{step-swapped}
use Rattle.xk_law_names.proofs.ActivityNameRunLaw as activities
use Rattle.xk_law_names.proofs.ActivityNameStartLaw.{one_more, starts_square}
use Rattle.xk_law_names.proofs.ActivityNameExchangeLaw.{alike_exchanged, ended_exchanged, full_exchanged}
use Rattle.xk_law_names.proofs.StartEventLemmas.{event_started}

-- ---- how many there are

clocks_many : (x : Exchange) (w : World) → length (exchanged x w).clocks ≡ length w.clocks
clocks_many (OfClocks k) w = length-swapped k w.clocks
clocks_many (OfActivities k) w = length-map w.clocks _

activities_many : (x : Exchange) (w : World) → length (exchanged x w).activities ≡ length w.activities
activities_many (OfClocks k) w = length-map w.activities _
activities_many (OfActivities k) w = length-acts k w.activities

pub clocks_all : (xs : List Exchange) (w : World) → length (all_exchanged xs w).clocks ≡ length w.clocks
clocks_all [] w = refl
clocks_all (x ∷ xs) w = clocks_all xs (exchanged x w) ∙ clocks_many x w

pub activities_all : (xs : List Exchange) (w : World) → length (all_exchanged xs w).activities ≡ length w.activities
activities_all [] w = refl
activities_all (x ∷ xs) w = activities_all xs (exchanged x w) ∙ activities_many x w

-- pairs of one world are pairs of each world that has as many, or more
pair_more : (x : Exchange) (w v : World) → length w.clocks ≤ length v.clocks → length w.activities ≤ length v.activities
    → IsPair x w → IsPair x v
pair_more (OfClocks k) w v p q h = omega arith
pair_more (OfActivities k) w v p q h = omega arith

pub pairs_more : (xs : List Exchange) (w v : World) → length w.clocks ≤ length v.clocks → length w.activities ≤ length v.activities
    → ArePairs xs w → ArePairs xs v
pairs_more [] w v p q h = tt
pairs_more (x ∷ xs) w v p q h = (pair_more x w v p q h.0, pairs_more xs w v p q h.1)

pub pairs_behind : (xs : List Exchange) (x : Exchange) (w : World) → ArePairs xs w → ArePairs xs (exchanged x w)
pairs_behind xs x w h = pairs_more xs w (exchanged x w) (omega (arith, clocks_many x w)) (omega (arith, activities_many x w)) h

-- ---- some exchanges

alike_one : (x : Exchange) (w v : World) → AreAlike w v → AreAlike (exchanged x w) (exchanged x v)
alike_one (OfClocks k) w v h = alike_swapped k w v h
alike_one (OfActivities k) w v h = alike_exchanged k w v h

alike_all : (xs : List Exchange) (w v : World) → AreAlike w v → AreAlike (all_exchanged xs w) (all_exchanged xs v)
alike_all [] w v h = h
alike_all (x ∷ xs) w v h = alike_all xs (exchanged x w) (exchanged x v) (alike_one x w v h)

pub all_append : (xs ys : List Exchange) (w : World) → all_exchanged (xs ++ ys) w ≡ all_exchanged ys (all_exchanged xs w)
all_append [] ys w = refl
all_append (x ∷ xs) ys w = all_append xs ys (exchanged x w)

pub pairs_append : (xs ys : List Exchange) (w : World) → ArePairs xs w → ArePairs ys w → ArePairs (xs ++ ys) w
pairs_append [] ys w h g = g
pairs_append (x ∷ xs) ys w h g = (h.0, pairs_append xs ys w h.1 g)

clocks_alike : (w v : World) → AreAlike w v → length w.clocks ≡ length v.clocks
clocks_alike w v h = sym (length-map w.clocks plain_clock) ∙ ap (λ (z : World). length z.clocks) h ∙ length-map v.clocks plain_clock

activities_alike : (w v : World) → AreAlike w v → length w.activities ≡ length v.activities
activities_alike w v h = sym (length-map w.activities plain_activity) ∙ ap (λ (z : World). length z.activities) h
    ∙ length-map v.activities plain_activity

-- as many in both
same_clocks : (xs : List Exchange) (w v : World) → AreSameBy xs w v → length w.clocks ≡ length v.clocks
same_clocks xs w v h = sym (clocks_all xs w) ∙ clocks_alike (all_exchanged xs w) v h.alike

pub same_activities : (xs : List Exchange) (w v : World) → AreSameBy xs w v → length w.activities ≡ length v.activities
same_activities xs w v h = sym (activities_all xs w) ∙ activities_alike (all_exchanged xs w) v h.alike

pub same_itself : (w : World) → AreSameBy [] w w
same_itself w = record { there = tt; alike = refl }

pub same_joined : (xs ys : List Exchange) (w v u : World) → AreSameBy xs w v → AreSameBy ys v u → AreSameBy (xs ++ ys) w u
same_joined xs ys w v u h g = record {
  there = pairs_append xs ys w h.there
      (pairs_more ys v w (omega (arith, same_clocks xs w v h)) (omega (arith, same_activities xs w v h)) g.there);
  alike = ap plain (all_append xs ys w) ∙ alike_all ys (all_exchanged xs w) v h.alike ∙ g.alike;
}

-- ---- numbers

named_twice : (x : Exchange) (a : ℕ) → named x (named x a) ≡ a
named_twice (OfClocks k) a = refl
named_twice (OfActivities k) a = renamed_twice k a

-- the number that becomes a
abbrev pub all_unnamed : List Exchange → ℕ → ℕ
all_unnamed [] a = a
all_unnamed (x ∷ xs) a = named x (all_unnamed xs a)

pub named_unnamed : (xs : List Exchange) (a : ℕ) → all_named xs (all_unnamed xs a) ≡ a
named_unnamed [] a = refl
named_unnamed (x ∷ xs) a = ap (all_named xs) (named_twice x (all_unnamed xs a)) ∙ named_unnamed xs a

pub named_append : (xs ys : List Exchange) (a : ℕ) → all_named (xs ++ ys) a ≡ all_named ys (all_named xs a)
named_append [] ys a = refl
named_append (x ∷ xs) ys a = named_append xs ys (named x a)

-- two numbers are one, as before
pub named_same : (xs : List Exchange) (a b : ℕ) → (all_named xs a == all_named xs b) ≡ (a == b)
named_same [] a b = refl
named_same (OfClocks k ∷ xs) a b = named_same xs a b
named_same (OfActivities k ∷ xs) a b = named_same xs (renamed k a) (renamed k b) ∙ renamed_same k a b

-- a number past all of them stays
pub named_beyond : (xs : List Exchange) (w : World) (n : ℕ) → ArePairs xs w → length w.activities ≤ n → all_named xs n ≡ n
named_beyond [] w n h g = refl
named_beyond (OfClocks k ∷ xs) w n h g = named_beyond xs w n h.1 g
named_beyond (OfActivities k ∷ xs) w n h g =
    ap (all_named xs) (renamed_beyond k n (let p = h.0 in omega arith)) ∙ named_beyond xs w n h.1 g

-- a number of one that is there stays such
renamed_within : (k a n : ℕ) → suc k < n → a < n → renamed k a < n
renamed_within zero zero n h g = omega arith
renamed_within zero (suc zero) n h g = omega arith
renamed_within zero (suc (suc a)) n h g = g
renamed_within (suc k) zero n h g = omega arith
renamed_within (suc k) (suc a) zero h g = absurd (omega arith)
renamed_within (suc k) (suc a) (suc n) h g = let r = renamed_within k a n (omega arith) (omega arith) in omega arith

named_within : (xs : List Exchange) (w : World) (a : ℕ) → ArePairs xs w → a < length w.activities → all_named xs a < length w.activities
named_within [] w a h g = g
named_within (OfClocks k ∷ xs) w a h g = named_within xs w a h.1 g
named_within (OfActivities k ∷ xs) w a h g = named_within xs w (renamed k a) h.1 (renamed_within k a (length w.activities) h.0 g)

pub named_inside : (xs : List Exchange) (w v : World) (a : ℕ) → AreSameBy xs w v → a < length w.activities
    → all_named xs a < length v.activities
named_inside xs w v a same h = let n = named_within xs w a same.there h in let many = same_activities xs w v same in omega arith

-- ---- numbers of clocks

abbrev pub clock_named : Exchange → ℕ → ℕ
clock_named (OfClocks k) c = renamed k c
clock_named (OfActivities k) c = c

abbrev pub clocks_named : List Exchange → ℕ → ℕ
clocks_named [] c = c
clocks_named (x ∷ xs) c = clocks_named xs (clock_named x c)

-- the number that becomes c
abbrev pub clocks_unnamed : List Exchange → ℕ → ℕ
clocks_unnamed [] c = c
clocks_unnamed (x ∷ xs) c = clock_named x (clocks_unnamed xs c)

clock_twice : (x : Exchange) (c : ℕ) → clock_named x (clock_named x c) ≡ c
clock_twice (OfClocks k) c = renamed_twice k c
clock_twice (OfActivities k) c = refl

pub clock_back : (xs : List Exchange) (c : ℕ) → clocks_named xs (clocks_unnamed xs c) ≡ c
clock_back [] c = refl
clock_back (x ∷ xs) c = ap (clocks_named xs) (clock_twice x (clocks_unnamed xs c)) ∙ clock_back xs c

pub clock_there : (xs : List Exchange) (c : ℕ) → clocks_unnamed xs (clocks_named xs c) ≡ c
clock_there [] c = refl
clock_there (x ∷ xs) c = ap (clock_named x) (clock_there xs (clock_named x c)) ∙ clock_twice x c

pub clock_append : (xs ys : List Exchange) (c : ℕ) → clocks_unnamed (xs ++ ys) c ≡ clocks_unnamed xs (clocks_unnamed ys c)
clock_append [] ys c = refl
clock_append (x ∷ xs) ys c = ap (clock_named x) (clock_append xs ys c)

-- ---- going on

cells_one : (x : Exchange) (w : World) → (exchanged x w).cells ≡ w.cells
cells_one (OfClocks k) w = refl
cells_one (OfActivities k) w = refl

cells_all : (xs : List Exchange) (w : World) → (all_exchanged xs w).cells ≡ w.cells
cells_all [] w = refl
cells_all (x ∷ xs) w = cells_all xs (exchanged x w) ∙ cells_one x w

pub same_cells : (xs : List Exchange) (w v : World) → AreSameBy xs w v → w.cells ≡ v.cells
same_cells xs w v same = sym (cells_all xs w) ∙ ap (λ (z : World). z.cells) same.alike

module _ (m : ModuleValue) where
  step_one : (x : Exchange) (w u : World) (a : ℕ) (e : Event) → IsPair x w → HasAllStandings w → step m w a ≡ Stepped u e
      → step m (exchanged x w) (named x a) ≡ Stepped (exchanged x u) e
  step_one (OfClocks k) w u a e there full h = step_swapped m w k a there ∙ ap (outcome_swapped k) h
  step_one (OfActivities k) w u a e there full h = step-swapped m w k a there full ∙ ap (outcome_renamed k) h

  pub full_one : (x : Exchange) (w : World) → HasAllStandings w → HasAllStandings (exchanged x w)
  full_one (OfClocks k) w full = λ j c at. each-swapped (λ (d : Clock). length d.standings ≡ length w.activities) k w.clocks full j c at
      ∙ sym (length-map w.activities (activity_renamed k))
  full_one (OfActivities k) w full = full_exchanged k w full

  step_all : (xs : List Exchange) (w u : World) (a : ℕ) (e : Event) → ArePairs xs w → HasAllStandings w → step m w a ≡ Stepped u e
      → step m (all_exchanged xs w) (all_named xs a) ≡ Stepped (all_exchanged xs u) e
  step_all [] w u a e there full h = h
  step_all (x ∷ xs) w u a e there full h =
      step_all xs (exchanged x w) (exchanged x u) (named x a) e (pairs_behind xs x w there.1) (full_one x w full)
      (step_one x w u a e there.0 full h)

  ended_one : (x : Exchange) (w : World) → all_ended (exchanged x w) ≡ all_ended w
  ended_one (OfClocks k) w = ended_swapped k w
  ended_one (OfActivities k) w = ended_exchanged k w

  ended_all : (xs : List Exchange) (w : World) → all_ended (all_exchanged xs w) ≡ all_ended w
  ended_all [] w = refl
  ended_all (x ∷ xs) w = ended_all xs (exchanged x w) ∙ ended_one x w

  pub same_ends : (xs : List Exchange) (w v : World) → AreSameBy xs w v → all_ended w ≡ all_ended v
  same_ends xs w v same = sym (ended_all xs w) ∙ (alike_worlds_go_alike m).ends (all_exchanged xs w) v same.alike

  pub go_as_one : (xs : List Exchange) (w v : World) → HasAllStandings w → AreSameBy xs w v → GoAsOne m xs w v
  go_as_one xs w v full same = record {
    steps = λ u a e h.
        (let r = (alike_worlds_go_alike m).steps (all_exchanged xs w) v (all_exchanged xs u) (all_named xs a) e same.alike
        (step_all xs w u a e same.there full h) in
        let more : length w.clocks ≤ length u.clocks = subst (clocks.Keeps (length w.clocks)) h (clocks.step_keeps m w a) in
        let wide : length w.activities ≤ length u.activities =
        (subst (activities.Keeps (length w.activities)) h (activities.step_keeps w a full m)).0 in
        (r.0, r.1, record { there = pairs_more xs w u more wide same.there; alike = r.2 }));
    ends = same_ends xs w v same;
    cells = same_cells xs w v same;
  }

  -- ---- squares

  abbrev BothGo : World → World → ℕ → ℕ → Event → Event → List Exchange → Type 0
  BothGo u v a b e f xs = (x : World) × (y : World) × (step m v a ≡ Stepped x e) × (step m u b ≡ Stepped y f) × AreSameBy xs y x

  pub squares_but_names : (w : World) → IsWithinLimits m → IsAccepted m → IsReached m w → (a b : ℕ) → (b ≡ a → ⊥) → AreConflictFree m w a b
      → IsSquareButNames m w a b
  squares_but_names w limits ok reached a b differs apart u v e f hu hv =
      by (makes_next m w a && makes_next m w b) (starts_next m w a && starts_next m w b) refl refl
    where
      turned : a ≡ b → ⊥
      turned q = differs (sym q)

      plainly : (makes_next m w a ≡ true → makes_next m w b ≡ true → ⊥) → (starts_next m w a ≡ true → starts_next m w b ≡ true → ⊥)
          → BothGo u v a b e f []
      plainly one_makes one_starts =
          let r = all_squares m w limits ok reached a b differs apart one_makes one_starts u v e f hu hv in
          (r.0, r.1, r.2, r.3, record { there = tt; alike = sym r.4 })

      both_make : makes_next m w a ≡ true → makes_next m w b ≡ true → BothGo u v a b e f (OfClocks (length w.clocks) ∷ [])
      both_make first second =
          let r = makes_after m w limits ok reached b a turned second first v u f e hv hu in
          (r.1, r.0, r.3, r.2, record { there = (r.5, tt); alike = r.4 })

      both_start : starts_next m w a ≡ true → starts_next m w b ≡ true → BothGo u v a b e f (OfActivities (length w.activities) ∷ [])
      both_start first second =
          let p : e ≡ event.Spawned = event_started m limits ok w u a e reached hu first in
          let q : f ≡ event.Spawned = event_started m limits ok w v b f reached hv second in
          let go : step m w a ≡ Stepped u event.Spawned = hu ∙ ap (Stepped u) p in
          let r = starts_square m w limits ok reached b a turned v u (hv ∙ ap (Stepped v) q) go in
          let one = one_more m w u a go in
          let two = one_more m u r.0 b r.2 in (
            r.1,
            r.0,
            r.3 ∙ ap (Stepped r.1) (sym p),
            r.2 ∙ ap (Stepped r.0) (sym q),
            record { there = (omega arith, tt); alike = r.4 },
          )

      no : (p q : Bool) → (p && q) ≡ false → p ≡ true → q ≡ true → ⊥
      no true q h g k = true≢false (sym k ∙ h)
      no false q h g k = true≢false (sym g)

      by : (x y : Bool) → (makes_next m w a && makes_next m w b) ≡ x → (starts_next m w a && starts_next m w b) ≡ y
          → BothGo u v a b e f (cond x (OfClocks (length w.clocks) ∷ []) (cond y (OfActivities (length w.activities) ∷ []) []))
      by true y hx hy = let p = and_parts (makes_next m w a) (makes_next m w b) hx in both_make p.0 p.1
      by false true hx hy = let p = and_parts (starts_next m w a) (starts_next m w b) hy in both_start p.0 p.1
      by false false hx hy = plainly (no (makes_next m w a) (makes_next m w b) hx) (no (starts_next m w a) (starts_next m w b) hy)
