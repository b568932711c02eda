-- Each step's part on clocks, over the table and the registrations, is the definitions'.
use Rattle.std.proofs.Common.{◌≡◌, ℕ, zero, suc, ◌+◌, ◌-◌, ◌<◌, ◌&&◌, Bool, true, false, not, cond, List, [], ◌∷◌, map, length, set, Option, Some, None, refl, sym, ap, ◌∙◌, subst, arith, slice_get, slice_index_or}
use Rattle.std.specs.Option.{option_map_or}
use Rattle.std.proofs.lemmas.Option.{none-some, same_Some, slice_get_within, get_or_from_slice_get}
use Rattle.xk_types.specs.declared.world.Standing.{Standing}
use Rattle.xk_types.specs.declared.world.Standing.TheVariants as standing
use Rattle.xk_types.specs.World.{Clock, standing_of}
use Rattle.xk_types.specs.Step.{is_signalled, passed, all, settled_clock, moved}
use Rattle.xk_clocks.specs.Table.{CountValue, is_ready_count, count_settled}
use Rattle.xk_registrations.specs.View.{Registration, stands, told, told_clock, told_by, held, WillAdvance, AreFit, IsKept, AreSound, AreDistinct, reg_on, count_between, count_after, counts_after, last_settled, count_moved}
use Rattle.xk_registrations.specs.RegistrationChanges.{called, noted, regs_resumed, regs_passed, regs_open, regs_on, call_resume, call_drop, marked, mark_resumed, is_open, regs_where, phase_at}
use Rattle.xk_registrations.proofs.StandingChangeLemmas.{held_set, row_at, Becomes, moved_told}
use Rattle.xk_registrations.proofs.TableCallLemmas.{called_at, noted_at, changed_is, length-called, length-noted}
use Rattle.std.specs.List.{list_any}
use Rattle.std.proofs.lemmas.Bool.{or_parts}
use Rattle.xk_registrations.proofs.StandingLemmas.{stands_resumed, ahead_resumed, resumed_on, resume_between, left_on, leave_between, distinct_where, distinct_marked, reg_where, reg_marked, if_passes, stands_left, ahead_left, stands_passed, ahead_passed, count_same, same_numbers}

-- a clock that isn't ready is settled
settled_kept : (c : CountValue) → is_ready_count c ≡ false → count_settled c ≡ c
settled_kept c e = rw e refl

-- What a step owes on each clock: the registrations read as the definitions change them, will read rightly, and the calls change the counters by what
-- the standings say.
pub record Works (h : ℕ → Standing → Standing) (f : Registration → CountValue → CountValue) (calls old new : List Registration) (k : ℕ) (c : CountValue) : Type 0 where
  pub reads : stands new k c.phase ≡ h k (stands old k c.phase)
  pub ahead : WillAdvance new k c.phase
  pub between : option_map_or (λ r. f r c) (reg_on calls k) c ≡ count_between old new k c

-- the calls, each of which settles its clock, settle all
pub settled_calls : (f : Registration → CountValue → CountValue) (o : Option Registration) (c : CountValue) → is_ready_count c ≡ false
    → option_map_or (λ r. count_settled (f r c)) o c ≡ count_settled (option_map_or (λ r. f r c) o c)
settled_calls f None c e = sym (settled_kept c e)
settled_calls f (Some r) c e = refl

pub noted_calls : (now : ℕ) (f : Registration → CountValue → CountValue) (o : Option Registration) (c : CountValue) (l : ℕ) → is_ready_count c ≡ false
    → option_map_or (λ r. last_settled now (f r c) l) o l ≡ last_settled now (option_map_or (λ r. f r c) o c) l
noted_calls now f None c l e = rw e refl
noted_calls now f (Some r) c l e = refl

-- A step that changes one activity's standings, by calls of the table.
pub step_told : (now a : ℕ) (h : ℕ → Standing → Standing) (f : Registration → CountValue → CountValue) (calls new : List Registration)
    (ls : List ℕ) (acts : List (List Registration)) (cs : List CountValue)
    → IsKept ls acts cs → a < length acts → AreDistinct calls → AreSound (length cs) new
    → ((k : ℕ) (c : CountValue) → slice_get cs k ≡ Some c → Works h f calls (held acts a) new k c)
    → (told (noted now f calls cs ls) (set acts a new) (called f calls cs) ≡ map (settled_clock now) (moved a h (told ls acts cs)))
    × IsKept (noted now f calls cs ls) (set acts a new) (called f calls cs)
step_told now a h f calls new ls acts cs kept inside distinct sound works = (
  rw counts moves.0,
  record {
    fit = rw counts moves.1;
    lasts = length-noted now f calls cs ls ∙ kept.lasts ∙ sym (length-called f calls cs);
    sound = λ b. rw (length-called f calls cs) (held_set (AreSound (length cs)) acts a b new sound kept.sound);
  },
)
  where
    counts : called f calls cs ≡ counts_after (held acts a) new cs
    counts = changed_is (count_after (held acts a) new) cs (called f calls cs) (length-called f calls cs)
        (λ k c at. called_at f calls distinct cs k c at
        ∙ ap Some (settled_calls f (reg_on calls k) c (kept.fit k c at).kept ∙ ap count_settled (works k c at).between))

    becomes : (k : ℕ) (c : CountValue) → slice_get cs k ≡ Some c
        → Becomes now h (λ j. slice_index_or ls j 0) (λ j. slice_index_or (noted now f calls cs ls) j 0) (held acts a) new k c
    becomes k c at = record {
      reads = (works k c at).reads;
      ahead = (works k c at).ahead;
      noted = noted_at now f calls distinct cs ls k c at (omega (arith, slice_get_within cs k c at, kept.lasts))
          ∙ noted_calls now f (reg_on calls k) c (slice_index_or ls k 0) (kept.fit k c at).kept ∙ ap (λ d. last_settled now d (slice_index_or ls k 0)) (works k c at).between;
    }

    moves : (told (noted now f calls cs ls) (set acts a new) (counts_after (held acts a) new cs) ≡ map (settled_clock now) (moved a h (told ls acts cs)))
        × AreFit (set acts a new) (counts_after (held acts a) new cs)
    moves = moved_told now a h (λ j. slice_index_or ls j 0) (λ j. slice_index_or (noted now f calls cs ls) j 0) acts cs new inside kept.fit becomes

-- ---- what is left among n clocks

sound_marked : (n : ℕ) (f : ℕ → Option ℕ → Option ℕ) (rs : List Registration) → AreSound n rs → AreSound n (marked f rs)
sound_marked n f rs s = record { distinct = distinct_marked f rs s.distinct; exist = λ k h. reg_marked f rs k (s.exist k h) }

sound_where : (n : ℕ) (test : Registration → Bool) (rs : List Registration) → AreSound n rs → AreSound n (regs_where test rs)
sound_where n test rs s = record {
  distinct = distinct_where test rs s.distinct;
  exist = λ k h. reg_where test rs k s.distinct ∙ ap (if_passes test) (s.exist k h);
}

-- ---- a resume, of one clock or of all

pub resumed_told : (now a : ℕ) (test : ℕ → Bool) (ls : List ℕ) (acts : List (List Registration)) (cs : List CountValue) → IsKept ls acts cs → a < length acts
    → (told (noted now call_resume (regs_open test (held acts a)) cs ls) (set acts a (regs_resumed test (phase_at cs) (held acts a))) (called call_resume (regs_open test (held acts a)) cs)
    ≡ map (settled_clock now) (moved a (resumed_on test) (told ls acts cs)))
    × IsKept (noted now call_resume (regs_open test (held acts a)) cs ls) (set acts a (regs_resumed test (phase_at cs) (held acts a))) (called call_resume (regs_open test (held acts a)) cs)
resumed_told now a test ls acts cs kept inside =
    step_told now a (resumed_on test) call_resume (regs_open test (held acts a)) (regs_resumed test (phase_at cs) (held acts a)) ls acts cs kept inside
    (distinct_where (λ r. test r.clock && is_open r) (held acts a) (kept.sound a).distinct)
    (sound_marked (length cs) (λ k m. cond (test k) (mark_resumed (phase_at cs k) m) m) (held acts a) (kept.sound a))
    (λ k c at. here k c at (ap (λ (d : CountValue). d.phase) (get_or_from_slice_get cs k c _ at)))
  where
    here : (k : ℕ) (c : CountValue) → slice_get cs k ≡ Some c → phase_at cs k ≡ c.phase
        → Works (resumed_on test) call_resume (regs_open test (held acts a)) (held acts a) (regs_resumed test (phase_at cs) (held acts a)) k c
    here k c at phase =
        let reads : stands (regs_resumed test (phase_at cs) (held acts a)) k c.phase ≡ resumed_on test k (stands (held acts a) k c.phase) =
        subst (λ (p : ℕ). stands (regs_resumed test (phase_at cs) (held acts a)) k p ≡ resumed_on test k (stands (held acts a) k p)) phase
        (stands_resumed test (phase_at cs) (held acts a) k) in
        record {
          reads = reads;
          ahead = subst (λ (p : ℕ). WillAdvance (held acts a) k p → WillAdvance (regs_resumed test (phase_at cs) (held acts a)) k p) phase
              (ahead_resumed test (phase_at cs) (held acts a) k) ((kept.fit k c at).ahead a);
          between = resume_between test (held acts a) k c (kept.sound a).distinct ∙ ap (λ s. count_moved (stands (held acts a) k c.phase) s c) (sym reads);
        }

-- ---- a drop, of one clock or, at the end of an activity, of all

left_reads : (b : Bool) (s : Standing) → cond (not b) s standing.Apart ≡ cond b standing.Apart s
left_reads true s = refl
left_reads false s = refl

pub left_told : (now a : ℕ) (test : ℕ → Bool) (ls : List ℕ) (acts : List (List Registration)) (cs : List CountValue) → IsKept ls acts cs → a < length acts
    → (told (noted now call_drop (regs_on test (held acts a)) cs ls) (set acts a (regs_on (λ k. not (test k)) (held acts a))) (called call_drop (regs_on test (held acts a)) cs)
    ≡ map (settled_clock now) (moved a (left_on test) (told ls acts cs)))
    × IsKept (noted now call_drop (regs_on test (held acts a)) cs ls) (set acts a (regs_on (λ k. not (test k)) (held acts a))) (called call_drop (regs_on test (held acts a)) cs)
left_told now a test ls acts cs kept inside =
    step_told now a (left_on test) call_drop (regs_on test (held acts a)) (regs_on (λ k. not (test k)) (held acts a)) ls acts cs kept inside
    (distinct_where (λ r. test r.clock) (held acts a) (kept.sound a).distinct)
    (sound_where (length cs) (λ r. not (test r.clock)) (held acts a) (kept.sound a))
    (λ k c at.
    let reads : stands (regs_on (λ k. not (test k)) (held acts a)) k c.phase ≡ left_on test k (stands (held acts a) k c.phase) =
    stands_left (λ k. not (test k)) (held acts a) k c.phase ∙ left_reads (test k) (stands (held acts a) k c.phase) in
    record {
      reads = reads;
      ahead = ahead_left (λ k. not (test k)) (held acts a) k c.phase ((kept.fit k c at).ahead a);
      between = leave_between test (held acts a) k c (kept.sound a).distinct ∙ ap (λ s. count_moved (stands (held acts a) k c.phase) s c) (sym reads);
    })

-- ---- a pass

-- where nothing holds it back, it is signalled on no clock
unsignalled_at : (f : ℕ → CountValue → Clock) (a : ℕ) (cs : List CountValue) → list_any (λ c. is_signalled (standing_of c a)) (told_by f cs) ≡ false
    → (k : ℕ) (c : CountValue) → slice_get cs k ≡ Some c → is_signalled (standing_of (f k c) a) ≡ false
unsignalled_at f a [] quiet k c at = absurd (none-some c at)
unsignalled_at f a (d ∷ cs) quiet zero c at =
    subst (λ (x : CountValue). is_signalled (standing_of (f 0 x) a) ≡ false) (same_Some d c at)
    (or_parts (is_signalled (standing_of (f 0 d) a)) (list_any (λ c. is_signalled (standing_of c a)) (told_by (λ j. f (suc j)) cs)) quiet).0
unsignalled_at f a (d ∷ cs) quiet (suc k) c at =
    unsignalled_at (λ j. f (suc j)) a cs
    (or_parts (is_signalled (standing_of (f 0 d) a)) (list_any (λ c. is_signalled (standing_of c a)) (told_by (λ j. f (suc j)) cs)) quiet).1 k c at

count_passed : (s : Standing) (c : CountValue) → is_signalled s ≡ false → c ≡ count_moved s (passed s) c
count_passed standing.Apart c e = sym (count_same standing.Apart c)
count_passed standing.Open c e = sym (count_same standing.Open c)
count_passed standing.Signalled c e = absurd (grind arith)
count_passed standing.Ahead c e = sym (same_numbers (c.registered + 1 - 1) (c.pending + 1 - 1) c.phase c (omega arith) (omega arith) refl)

pub passed_told : (now a : ℕ) (ls : List ℕ) (acts : List (List Registration)) (cs : List CountValue) → IsKept ls acts cs → a < length acts
    → list_any (λ c. is_signalled (standing_of c a)) (told ls acts cs) ≡ false
    → (told ls (set acts a (regs_passed (held acts a))) cs ≡ map (settled_clock now) (moved a (all passed) (told ls acts cs)))
    × IsKept ls (set acts a (regs_passed (held acts a))) cs
passed_told now a ls acts cs kept inside quiet =
    step_told now a (all passed) call_resume [] (regs_passed (held acts a)) ls acts cs kept inside tt
    (sound_marked (length cs) (λ k m. None) (held acts a) (kept.sound a))
    (λ k c at.
    let still : is_signalled (stands (held acts a) k c.phase) ≡ false =
    subst (λ (s : Standing). is_signalled s ≡ false) (row_at acts k c.phase a)
    (unsignalled_at (told_clock (λ j. slice_index_or ls j 0) acts) a cs quiet k c at) in
    let reads : stands (regs_passed (held acts a)) k c.phase ≡ passed (stands (held acts a) k c.phase) = stands_passed (held acts a) k c.phase still in
    record {
      reads = reads;
      ahead = ahead_passed (held acts a) k c.phase ((kept.fit k c at).ahead a);
      between = count_passed (stands (held acts a) k c.phase) c still ∙ ap (λ s. count_moved (stands (held acts a) k c.phase) s c) (sym reads);
    })
