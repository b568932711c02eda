-- The numbers stay those of the clock.
use Rattle.std.proofs.Common.{◌≡◌, ℕ, zero, suc, ◌+◌, ◌-◌, ◌<◌, ◌≤◌, ◌==◌, Bool, true, false, not, ◌&&◌, List, [], ◌∷◌, length, get_or, set, replicate, refl, sym, ap, ◌∙◌, arith}
use Rattle.std.proofs.lemmas.List.{length-replicate}
use Rattle.xk_types.specs.declared.world.Standing.{Standing}
use Rattle.xk_types.specs.declared.world.Standing.TheVariants as standing
use Rattle.xk_types.specs.World.{Clock, standing_of}
use Rattle.xk_types.specs.Step.{is_pending, is_registered, is_signalled, is_ready, settled_clock, moved_on, joined_on, new_clock, resumed, passed, dropped}
use Rattle.xk_clocks.specs.Table.{CountValue, new_count, is_ready_count, count_settled, count_registered, count_resumed, count_dropped, one_if}
use Rattle.xk_clocks.specs.StandingCounts.{tally, IsCountOf}
use Rattle.xk_clocks.proofs.TallyLemmas.{tally-set, tally-push, tally_one, tally_apart, tally_parts, inside_of, suc_zero, ready_same, counts_advanced}

-- ---- the end of a step

pub ready_is : (clock : Clock) (c : CountValue) → IsCountOf clock c → is_ready_count c ≡ is_ready clock
ready_is clock c is = sym (ready_same clock.standings c is.counts)

pub settled_is : (clock : Clock) (c : CountValue) → IsCountOf clock c → (now : ℕ) → IsCountOf (settled_clock now clock) (count_settled c)
settled_is clock c is now = go (is_ready clock) refl
  where
    go : (b : Bool) → is_ready clock ≡ b → IsCountOf (settled_clock now clock) (count_settled c)
    go true e = rw (ready_is clock c is, e) (record { phase = ap (λ n. n + 1) is.phase; counts = counts_advanced clock.standings c is.counts })
    go false e = rw (ready_is clock c is, e) is

-- after an advance all who are registered keep it back
pub unready_after : (r : ℕ) → (not (r == 0) && (r == 0)) ≡ false
unready_after zero = refl
unready_after (suc r) = rw (suc_zero r) refl

pub at_rest : (c : CountValue) → is_ready_count (count_settled c) ≡ false
at_rest c = go (is_ready_count c) refl
  where
    go : (b : Bool) → is_ready_count c ≡ b → is_ready_count (count_settled c) ≡ false
    go true e = rw e (unready_after c.registered)
    go false e = rw e e

-- ---- one standing changes

-- by this much
count_set : (test : Standing → Bool) (ss : List Standing) (a n : ℕ) (t : Standing) → a < length ss → n ≡ tally test ss
    → n + one_if (test t) - one_if (test (get_or ss a standing.Apart)) ≡ tally test (set ss a t)
count_set test ss a n t h e = omega (arith, tally-set test ss a t standing.Apart h)

pub resumed_is : (clock : Clock) (c : CountValue) → IsCountOf clock c → (a : ℕ) → standing_of clock a ≡ standing.Open → IsCountOf (moved_on a resumed clock) (count_resumed c)
resumed_is clock c is a opens =
    let inside : a < length clock.standings = inside_of clock.standings a (rw opens refl) in
    record {
      phase = is.phase;
      counts = rw opens (record {
        registered = to is_registered refl c.registered is.counts.registered inside;
        pending = omega (arith, count_set is_pending clock.standings a c.pending standing.Signalled inside is.counts.pending, ap (λ s. one_if (is_pending s)) opens);
      });
    }
  where
    to : (test : Standing → Bool) → test standing.Signalled ≡ test standing.Open → (n : ℕ) → n ≡ tally test clock.standings → a < length clock.standings
        → n ≡ tally test (set clock.standings a standing.Signalled)
    to test same n e inside =
        omega (arith, count_set test clock.standings a n standing.Signalled inside e, ap (λ s. one_if (test s)) opens, ap one_if same)

pub dropped_is : (clock : Clock) (c : CountValue) → IsCountOf clock c → (a : ℕ) → is_registered (standing_of clock a) ≡ true
    → IsCountOf (moved_on a dropped clock) (count_dropped (is_pending (standing_of clock a)) c)
dropped_is clock c is a registered =
    let inside : a < length clock.standings = inside_of clock.standings a registered in
    record {
      phase = is.phase;
      counts = record {
        registered = omega (arith, count_set is_registered clock.standings a c.registered standing.Apart inside is.counts.registered, ap one_if registered);
        pending = omega (arith, count_set is_pending clock.standings a c.pending standing.Apart inside is.counts.pending);
      };
    }

-- another standing that is counted in the same way
same_count : (test : Standing → Bool) (ss : List Standing) (a : ℕ) (t : Standing) → test t ≡ test (get_or ss a standing.Apart) → tally test (set ss a t) ≡ tally test ss
same_count test [] a t e = refl
same_count test (s ∷ ss) zero t e = rw e refl
same_count test (s ∷ ss) (suc a) t e = rw (same_count test ss a t e) refl

pub passed_is : (clock : Clock) (c : CountValue) → IsCountOf clock c → (a : ℕ) → is_signalled (standing_of clock a) ≡ false → IsCountOf (moved_on a passed clock) c
passed_is clock c is a quiet = record {
  phase = is.phase;
  counts = record {
    registered = is.counts.registered ∙ sym (same_count is_registered clock.standings a (passed (standing_of clock a)) (registered (standing_of clock a)));
    pending = is.counts.pending ∙ sym (same_count is_pending clock.standings a (passed (standing_of clock a)) (pending (standing_of clock a) quiet));
  };
}
  where
    registered : (s : Standing) → is_registered (passed s) ≡ is_registered s
    registered standing.Apart = refl
    registered standing.Open = refl
    registered standing.Signalled = refl
    registered standing.Ahead = refl

    pending : (s : Standing) → is_signalled s ≡ false → is_pending (passed s) ≡ is_pending s
    pending standing.Apart e = refl
    pending standing.Open e = refl
    pending standing.Signalled e = refl
    pending standing.Ahead e = refl

-- ---- one more standing

pub given_is : (clock : Clock) (c : CountValue) → IsCountOf clock c → (a : ℕ) → is_registered (standing_of clock a) ≡ true
    → IsCountOf (joined_on a true clock) (count_registered (is_pending (standing_of clock a)) c)
given_is clock c is a registered = record {
  phase = is.phase;
  counts = record {
    registered = omega (arith, tally-push is_registered clock.standings (standing_of clock a), ap one_if registered, is.counts.registered);
    pending = omega (arith, tally-push is_pending clock.standings (standing_of clock a), is.counts.pending);
  };
}

pub not_given_is : (clock : Clock) (c : CountValue) → IsCountOf clock c → (a : ℕ) → IsCountOf (joined_on a false clock) c
not_given_is clock c is a = record {
  phase = is.phase;
  counts = record {
    registered = omega (arith, tally-push is_registered clock.standings standing.Apart, is.counts.registered);
    pending = omega (arith, tally-push is_pending clock.standings standing.Apart, is.counts.pending);
  };
}

-- ---- a new clock

pub made_is : (n a : ℕ) → a < n → IsCountOf (new_clock n a) new_count
made_is n a h = record { phase = refl; counts = record { registered = one is_registered refl refl; pending = one is_pending refl refl } }
  where
    none : (test : Standing → Bool) (n a : ℕ) → test standing.Apart ≡ false → one_if (test (get_or (replicate n standing.Apart) a standing.Apart)) ≡ 0
    none test n a e = omega (arith, tally_one test (replicate n standing.Apart) a e, tally_apart test n e)

    one : (test : Standing → Bool) → test standing.Apart ≡ false → test standing.Open ≡ true → 1 ≡ tally test (set (replicate n standing.Apart) a standing.Open)
    one test apart opens =
        let inside : a < length (replicate n standing.Apart) = omega (arith, length-replicate n standing.Apart) in
        omega (
          arith,
          tally-set test (replicate n standing.Apart) a standing.Open standing.Apart inside,
          tally_apart test n apart,
          none test n a apart,
          ap one_if opens,
        )

-- ---- what calls owe

pub owed_is : (clock : Clock) (c : CountValue) → IsCountOf clock c → (a : ℕ) → is_registered (standing_of clock a) ≡ true → 0 < c.registered
owed_is clock c is a h = omega (arith, tally_one is_registered clock.standings a refl, ap one_if h, is.counts.registered)

pub owed_pending_is : (clock : Clock) (c : CountValue) → IsCountOf clock c → (a : ℕ) → one_if (is_pending (standing_of clock a)) ≤ c.pending
owed_pending_is clock c is a = omega (arith, tally_one is_pending clock.standings a refl, is.counts.pending)

pub owed_signalled_is : (clock : Clock) (c : CountValue) → IsCountOf clock c → (a : ℕ) → is_signalled (standing_of clock a) ≡ true → c.pending < c.registered
owed_signalled_is clock c is a h =
    omega (arith, tally_one is_signalled clock.standings a refl, ap one_if h, tally_parts clock.standings, is.counts.pending, is.counts.registered)

pub owed_by_rest_is : (c : CountValue) → is_ready_count c ≡ false → 0 < c.registered → 0 < c.pending
owed_by_rest_is c e h = go c.pending c.registered refl h e
  where
    go : (p r : ℕ) → c.pending ≡ p → 0 < r → (not (r == 0) && (p == 0)) ≡ false → 0 < c.pending
    go zero zero is h e = absurd (omega arith)
    go zero (suc r) is h e = absurd (grind (arith, rw (suc_zero r) at e))
    go (suc p) r is h e = omega arith
