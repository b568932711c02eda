-- What calls of the table owe; a new activity, and a new clock.
use Rattle.std.proofs.Common.{◌≡◌, ℕ, ◌+◌, ◌-◌, ◌<◌, ◌≤◌, Bool, true, false, cond, List, [], ◌∷◌, ◌++◌, map, length, get_or, Option, Some, None, refl, sym, ap, ◌∙◌, subst, arith, slice_get, slice_index_or}
use Rattle.std.specs.Option.{option_map_or}
use Rattle.std.proofs.lemmas.List.{length-map}
use Rattle.std.proofs.lemmas.Option.{slice_get_within}
use Rattle.xk_types.specs.declared.world.Standing.{Standing}
use Rattle.xk_types.specs.declared.world.Standing.TheVariants as standing
use Rattle.xk_types.specs.Step.{is_pending, is_registered, advanced, settled_clock, joined}
use Rattle.xk_clocks.specs.Table.{CountValue, count_settled, count_registered, one_if}
use Rattle.xk_registrations.specs.View.{Registration, standing_at, stands, row, told, held, WillAdvance, AreFit, IsKept, AreSound, reg_on, count_moved, count_between, count_after, counts_after, last_settled}
use Rattle.xk_registrations.specs.RegistrationChanges.{called, noted, call_register, IsGiven}
use Rattle.xk_clocks.specs.StandingCounts.{tally}
use Rattle.xk_clocks.proofs.TallyLemmas.{tally-set}
use Rattle.xk_registrations.proofs.StandingChangeLemmas.{row_at, held_push, Begins, joined_told}
use Rattle.xk_registrations.proofs.TableCallLemmas.{called_at, noted_at, changed_is, length-called, length-noted}
use Rattle.xk_registrations.proofs.StandingLemmas.{stands_reg, count_same, same_numbers, registered_mark}
use Rattle.xk_registrations.proofs.StepLemmas.{settled_calls, noted_calls}

-- ---- what calls of the table owe

tally_one : (test : Standing → Bool) (ss : List Standing) (a : ℕ) → a < length ss → test standing.Apart ≡ false → one_if (test (get_or ss a standing.Apart)) ≤ tally test ss
tally_one test ss a h e =
    let none : one_if (test standing.Apart) ≡ 0 = ap one_if e in
    omega (arith, tally-set test ss a standing.Apart standing.Apart h)

-- an activity that is registered, or pending, is counted
pub counted_at : (test : Standing → Bool) (acts : List (List Registration)) (a k p n : ℕ) → a < length acts → test standing.Apart ≡ false → n ≡ tally test (row acts k p)
    → one_if (test (stands (held acts a) k p)) ≤ n
counted_at test acts a k p n h e is =
    rw is (subst (λ (s : Standing). one_if (test s) ≤ tally test (row acts k p)) (row_at acts k p a)
    (tally_one test (row acts k p) a (omega (arith, length-map acts (λ (rs : List Registration). stands rs k p))) e))

-- ---- a new activity

given_stands : (given : ℕ → Bool) (old new : List Registration) (k p : ℕ) → IsGiven given old new → stands new k p ≡ cond (given k) (stands old k p) standing.Apart
given_stands given old new k p is =
    rw (stands_reg new k p, is k, stands_reg old k p) (go (given k))
  where
    go : (b : Bool) → option_map_or (λ r. standing_at p r.resumed) (cond b (reg_on old k) None) standing.Apart
        ≡ cond b (option_map_or (λ r. standing_at p r.resumed) (reg_on old k) standing.Apart) standing.Apart
    go true = refl
    go false = refl

given_ahead : (given : ℕ → Bool) (old new : List Registration) (k p : ℕ) → IsGiven given old new → WillAdvance old k p → WillAdvance new k p
given_ahead given old new k p is ahead q h =
    rw (given_stands given old new k q is, given_stands given old new k p is) (go (given k))
  where
    go : (b : Bool) → cond b (stands old k q) standing.Apart ≡ advanced (cond b (stands old k p) standing.Apart)
    go true = ahead q h
    go false = refl

register_by : (c : CountValue) (o : Option Registration)
    → option_map_or (λ r. call_register r c) o c ≡ count_moved standing.Apart (option_map_or (λ r. standing_at c.phase r.resumed) o standing.Apart) c
register_by c None = sym (count_same standing.Apart c)
register_by c (Some r) =
    let one : one_if (is_registered (standing_at c.phase r.resumed)) ≡ 1 = ap one_if (registered_mark c.phase r.resumed) in
    sym (same_numbers (c.registered + one_if (is_registered (standing_at c.phase r.resumed)) - 0) (c.pending + one_if (is_pending (standing_at c.phase r.resumed)) - 0) c.phase
    (count_registered (is_pending (standing_at c.phase r.resumed)) c) (omega arith) (omega arith) refl)

pub spawned_told : (now a : ℕ) (given : ℕ → Bool) (new : List Registration) (ls : List ℕ) (acts : List (List Registration)) (cs : List CountValue)
    → IsKept ls acts cs → AreSound (length cs) new → IsGiven given (held acts a) new
    → (told (noted now call_register new cs ls) (acts ++ new ∷ []) (called call_register new cs) ≡ map (settled_clock now) (joined a given (told ls acts cs)))
    × IsKept (noted now call_register new cs ls) (acts ++ new ∷ []) (called call_register new cs)
spawned_told now a given new ls acts cs kept sound is = (
  rw counts begun.0,
  record {
    fit = rw counts begun.1;
    lasts = length-noted now call_register new cs ls ∙ kept.lasts ∙ sym (length-called call_register new cs);
    sound = λ b. rw (length-called call_register new cs) (held_push (AreSound (length cs)) acts b new sound kept.sound);
  },
)
  where
    between : (k : ℕ) (c : CountValue) → option_map_or (λ r. call_register r c) (reg_on new k) c ≡ count_between [] new k c
    between k c = rw (stands_reg new k c.phase) (register_by c (reg_on new k))

    counts : called call_register new cs ≡ counts_after [] new cs
    counts = changed_is (count_after [] new) cs (called call_register new cs) (length-called call_register new cs)
        (λ k c at. called_at call_register new sound.distinct cs k c at
        ∙ ap Some (settled_calls call_register (reg_on new k) c (kept.fit k c at).kept ∙ ap count_settled (between k c)))

    begins : (k : ℕ) (c : CountValue) → slice_get cs k ≡ Some c
        → Begins now given (λ j. slice_index_or ls j 0) (λ j. slice_index_or (noted now call_register new cs ls) j 0) (held acts a) new k c
    begins k c at = record {
      reads = given_stands given (held acts a) new k c.phase is;
      ahead = given_ahead given (held acts a) new k c.phase is ((kept.fit k c at).ahead a);
      noted = noted_at now call_register new sound.distinct cs ls k c at (omega (arith, slice_get_within cs k c at, kept.lasts))
          ∙ noted_calls now call_register (reg_on new k) c (slice_index_or ls k 0) (kept.fit k c at).kept ∙ ap (λ d. last_settled now d (slice_index_or ls k 0)) (between k c);
    }

    begun : (told (noted now call_register new cs ls) (acts ++ new ∷ []) (counts_after [] new cs) ≡ map (settled_clock now) (joined a given (told ls acts cs)))
        × AreFit (acts ++ new ∷ []) (counts_after [] new cs)
    begun = joined_told now a given (λ j. slice_index_or ls j 0) (λ j. slice_index_or (noted now call_register new cs ls) j 0) acts cs new kept.fit begins
