-- The advance of a clock: where everybody stands afterwards, that it changes no kind, that a clock that has advanced isn't ready again,
-- and that one that isn't ready is kept back by somebody.
use Rattle.std.proofs.Common.{◌≡◌, ℕ, zero, suc, ◌+◌, ◌<◌, Bool, true, false, not, ◌||◌, ◌&&◌, List, [], ◌∷◌, map, length, get_or, refl, ap, ◌∙◌, arith}
use Rattle.std.specs.List.{list_any}
use Rattle.std.proofs.lemmas.Bool.{and_parts, cond_both, not-true}
use Rattle.std.proofs.Math.ListN.{get_or-map}
use Rattle.xk_types.specs.declared.world.Standing.{Standing}
use Rattle.xk_types.specs.declared.world.Standing.TheVariants as standing
use Rattle.xk_types.specs.World.{Clock, standing_of}
use Rattle.xk_types.specs.Step.{is_signalled, is_pending, is_ready, advanced, settled_clock}
use Rattle.xk_types.proofs.ListLemmas.{none_at, any_at}
use Rattle.xk_types.proofs.StandingLemmas.{all_quiet}
use Rattle.xk_law_schedules.proofs.Invariant.{kind_by, looks}

-- ---- lists of standings

-- some passes, at a place within the list
some_at : {X : Type 0} (test : X → Bool) (xs : List X) (d : X) → list_any test xs ≡ true → (i : ℕ) × (i < length xs) × (test (get_or xs i d) ≡ true)
some_at test [] d h = absurd (grind arith)
some_at {X} test (x ∷ xs) d h = go (test x) refl (some_at test xs d) h
  where
    go : (b : Bool) → test x ≡ b → (list_any test xs ≡ true → (i : ℕ) × (i < length xs) × (test (get_or xs i d) ≡ true))
        → (b || list_any test xs) ≡ true → (i : ℕ) × (i < length (x ∷ xs)) × (test (get_or (x ∷ xs) i d) ≡ true)
    go true e later g = (zero, omega arith, e)
    go false e later g = let r = later g in (suc r.0, omega (arith, r.1), r.2)

-- ---- an advance

-- a clock that has advanced
abbrev pub advanced_clock : ℕ → Clock → Clock
advanced_clock now c = record { phase = c.phase + 1; last = now; standings = map advanced c.standings }

-- a clock after the end of a step is one that has advanced, if it was ready, or itself
pub settled_cases : (now : ℕ) (c : Clock) (P : Clock → Type 0) → (is_ready c ≡ true → P (advanced_clock now c)) → (is_ready c ≡ false → P c) → P (settled_clock now c)
settled_cases now c P yes' no' = cond_both (is_ready c) (advanced_clock now c) c P yes' no'

-- where an activity stands on a clock that has advanced
pub stand-advanced : (now : ℕ) (c : Clock) (b : ℕ) → standing_of (advanced_clock now c) b ≡ advanced (standing_of c b)
stand-advanced now c b = get_or-map advanced c.standings b standing.Apart

-- an advance moves nobody's kinds
kind-advanced : (s : Standing) → kind_by (advanced s) ≡ kind_by s
kind-advanced standing.Apart = refl
kind-advanced standing.Open = refl
kind-advanced standing.Signalled = refl
kind-advanced standing.Ahead = refl

-- nor does the end of a step
settled_kind : (now : ℕ) (c : Clock) (b : ℕ) → kind_by (standing_of (settled_clock now c) b) ≡ kind_by (standing_of c b)
settled_kind now c b = settled_cases now c (λ d. kind_by (standing_of d b) ≡ kind_by (standing_of c b))
    (λ e. ap kind_by (stand-advanced now c b) ∙ kind-advanced (standing_of c b)) (λ e. refl)

-- on all clocks
pub looks-settled : (now : ℕ) (clocks : List Clock) (a k : ℕ) → looks (map (settled_clock now) clocks) a k ≡ looks clocks a k
looks-settled now [] a k = refl
looks-settled now (c ∷ cs) a zero = settled_kind now c a
looks-settled now (c ∷ cs) a (suc k) = looks-settled now cs a k

-- a clock that has advanced isn't ready
pub unready-advanced : (now : ℕ) (c : Clock) → is_ready (advanced_clock now c) ≡ false
unready-advanced now c = rw (all_quiet c.standings) refl

-- on a ready clock nobody is open or ahead
pub ready_pending : (c : Clock) (b : ℕ) → is_ready c ≡ true → is_pending (standing_of c b) ≡ false
ready_pending c b h =
    none_at is_pending c.standings b standing.Apart
    (not-true (list_any is_pending c.standings) (and_parts (list_any is_signalled c.standings) (not (list_any is_pending c.standings)) h).1) refl

-- where somebody is signalled on a clock that isn't ready, somebody is open or ahead
pub held_back : (c : Clock) (a : ℕ) → is_ready c ≡ false → is_signalled (standing_of c a) ≡ true
    → (b : ℕ) × (b < length c.standings) × (is_pending (standing_of c b) ≡ true)
held_back c a h g = some_at is_pending c.standings standing.Apart (go (list_any is_pending c.standings) h)
  where
    go : (p : Bool) → (list_any is_signalled c.standings && not p) ≡ false → p ≡ true
    go true e = refl
    go false e = absurd (grind (arith, rw (any_at is_signalled c.standings a standing.Apart refl g) at e))
