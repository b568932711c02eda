-- Counting standings.
use Rattle.std.proofs.Common.{◌≡◌, ℕ, zero, suc, ◌+◌, ◌<◌, ◌≤◌, ◌==◌, Bool, true, false, not, cond, ◌&&◌, ◌||◌, List, [], ◌∷◌, ◌++◌, map, length, get_or, set, replicate, refl, sym, ap, ◌∙◌, arith}
use Rattle.std.specs.List.{list_any}
use Rattle.std.proofs.lemmas.Bool.Decides.{nat_tests}
use Rattle.xk_types.specs.declared.world.Standing.{Standing}
use Rattle.xk_types.specs.declared.world.Standing.TheVariants as standing
use Rattle.xk_types.specs.Step.{is_pending, is_registered, is_signalled, advanced}
use Rattle.xk_clocks.specs.Table.{CountValue, is_ready_count, count_advanced, one_if}
use Rattle.xk_clocks.specs.StandingCounts.{tally, AreCounts}

-- ---- one element, and the others

tally_cons : (test : Standing → Bool) (s : Standing) (ss : List Standing) → tally test (s ∷ ss) ≡ one_if (test s) + tally test ss
tally_cons test s ss = go (test s)
  where
    go : (b : Bool) → cond b (suc (tally test ss)) (tally test ss) ≡ one_if b + tally test ss
    go true = omega arith
    go false = omega arith

-- one standing becomes another
pub tally-set : (test : Standing → Bool) (ss : List Standing) (i : ℕ) (t d : Standing) → i < length ss
    → tally test (set ss i t) + one_if (test (get_or ss i d)) ≡ tally test ss + one_if (test t)
tally-set test [] i t d h = absurd (omega arith)
tally-set test (s ∷ ss) zero t d h = omega (arith, tally_cons test s ss, tally_cons test t ss)
tally-set test (s ∷ ss) (suc i) t d h =
    omega (arith, tally_cons test s ss, tally_cons test s (set ss i t), tally-set test ss i t d (omega arith))

-- one more
pub tally-push : (test : Standing → Bool) (ss : List Standing) (t : Standing) → tally test (ss ++ t ∷ []) ≡ tally test ss + one_if (test t)
tally-push test [] t = omega (arith, tally_cons test t [])
tally-push test (s ∷ ss) t = omega (arith, tally_cons test s ss, tally_cons test s (ss ++ t ∷ []), tally-push test ss t)

-- nobody is counted twice
pub tally_one : (test : Standing → Bool) (ss : List Standing) (a : ℕ) → test standing.Apart ≡ false → one_if (test (get_or ss a standing.Apart)) ≤ tally test ss
tally_one test [] a e = omega (arith, ap one_if e)
tally_one test (s ∷ ss) zero e = omega (arith, tally_cons test s ss)
tally_one test (s ∷ ss) (suc a) e = omega (arith, tally_cons test s ss, tally_one test ss a e)

-- who isn't there is apart
pub inside_of : (ss : List Standing) (a : ℕ) → is_registered (get_or ss a standing.Apart) ≡ true → a < length ss
inside_of [] a h = absurd (grind arith)
inside_of (s ∷ ss) zero h = omega arith
inside_of (s ∷ ss) (suc a) h = omega (arith, inside_of ss a h)

pub tally_apart : (test : Standing → Bool) (n : ℕ) → test standing.Apart ≡ false → tally test (replicate n standing.Apart) ≡ 0
tally_apart test zero e = refl
tally_apart test (suc n) e = rw e (tally_apart test n e)

-- ---- who is ready

-- a successor isn't 0
pub suc_zero : (n : ℕ) → (suc n == 0) ≡ false
suc_zero n = grind (arith, nat_tests)

-- one passes where the count isn't 0
any_tally : (test : Standing → Bool) (ss : List Standing) → list_any test ss ≡ not (tally test ss == 0)
any_tally test [] = refl
any_tally test (s ∷ ss) = go (test s) (any_tally test ss)
  where
    go : (b : Bool) → list_any test ss ≡ not (tally test ss == 0) → (b || list_any test ss) ≡ not (cond b (suc (tally test ss)) (tally test ss) == 0)
    go true h = rw (suc_zero (tally test ss)) refl
    go false h = h

-- who is registered is signalled or pending
pub tally_parts : (ss : List Standing) → tally is_registered ss ≡ tally is_signalled ss + tally is_pending ss
tally_parts [] = refl
tally_parts (standing.Apart ∷ ss) = tally_parts ss
tally_parts (standing.Open ∷ ss) = omega (arith, tally_parts ss)
tally_parts (standing.Signalled ∷ ss) = omega (arith, tally_parts ss)
tally_parts (standing.Ahead ∷ ss) = omega (arith, tally_parts ss)

-- by numbers
ready_numbers : (s p r : ℕ) → r ≡ s + p → (not (s == 0) && not (not (p == 0))) ≡ (not (r == 0) && (p == 0))
ready_numbers zero zero r h = let e : r ≡ 0 = omega arith in rw e refl
ready_numbers (suc s) zero r h = let e : r ≡ suc s = omega arith in rw (e, suc_zero s) refl
ready_numbers zero (suc p) zero h = absurd (omega arith)
ready_numbers zero (suc p) (suc r) h = rw (suc_zero p, suc_zero r) refl
ready_numbers (suc s) (suc p) zero h = absurd (omega arith)
ready_numbers (suc s) (suc p) (suc r) h = rw (suc_zero p, suc_zero s, suc_zero r) refl

-- a clock is ready where its numbers say so
pub ready_same : (ss : List Standing) (c : CountValue) → AreCounts ss c → (list_any is_signalled ss && not (list_any is_pending ss)) ≡ is_ready_count c
ready_same ss c h =
    rw (any_tally is_signalled ss, any_tally is_pending ss, h.registered, h.pending)
    (ready_numbers (tally is_signalled ss) (tally is_pending ss) (tally is_registered ss) (tally_parts ss))

-- ---- after an advance, all who are registered are pending

registered-advanced : (ss : List Standing) → tally is_registered (map advanced ss) ≡ tally is_registered ss
registered-advanced [] = refl
registered-advanced (standing.Apart ∷ ss) = registered-advanced ss
registered-advanced (standing.Open ∷ ss) = ap suc (registered-advanced ss)
registered-advanced (standing.Signalled ∷ ss) = ap suc (registered-advanced ss)
registered-advanced (standing.Ahead ∷ ss) = ap suc (registered-advanced ss)

pending-advanced : (ss : List Standing) → tally is_pending (map advanced ss) ≡ tally is_registered ss
pending-advanced [] = refl
pending-advanced (standing.Apart ∷ ss) = pending-advanced ss
pending-advanced (standing.Open ∷ ss) = ap suc (pending-advanced ss)
pending-advanced (standing.Signalled ∷ ss) = ap suc (pending-advanced ss)
pending-advanced (standing.Ahead ∷ ss) = ap suc (pending-advanced ss)

pub counts_advanced : (ss : List Standing) (c : CountValue) → AreCounts ss c → AreCounts (map advanced ss) (count_advanced c)
counts_advanced ss c h = record {
  registered = h.registered ∙ sym (registered-advanced ss);
  pending = h.registered ∙ sym (pending-advanced ss);
}
