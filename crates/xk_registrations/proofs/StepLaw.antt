-- Each part of a step, over the numbers and the registrations, is the definitions'.
use Rattle.std.proofs.Common.{◌≡◌, ℕ, zero, suc, ◌<◌, ◌==◌, Bool, true, false, List, [], ◌∷◌, ◌++◌, map, length, set, None, refl}
use Rattle.std.specs.List.{list_any}
use Rattle.std.proofs.lemmas.Option.{none-some}
use Rattle.xk_types.specs.World.{standing_of}
use Rattle.xk_types.specs.Step.{is_signalled, resumed, passed, dropped, only, all, settled_clock, moved, joined, new_clock}
use Rattle.xk_registrations.specs.declared.affected_clocks.Which.TheVariants as which
use Rattle.xk_registrations.specs.View.{Registration, told, held, IsKept, AreSound}
use Rattle.xk_registrations.specs.RegistrationChanges.{ClocksValue, concerns, calls, call_resume, call_drop, call_register, regs_open, regs_on, regs_resumed, regs_passed, phase_at, IsGiven, AreToldAs, others, made_clocks}
use Rattle.xk_registrations.proofs.StepLemmas.{resumed_told, left_told, passed_told}
use Rattle.xk_registrations.proofs.NewActivityLemmas.{spawned_told}
use Rattle.xk_registrations.proofs.NewClockLemmas.{made_told}

nothing_held : (a : ℕ) → held ([] ∷ []) a ≡ []
nothing_held zero = refl
nothing_held (suc a) = refl

kept_nothing : IsKept [] ([] ∷ []) []
kept_nothing = record {
  fit = λ k c h. absurd (none-some c h);
  lasts = refl;
  sound = λ a. rw (nothing_held a) (record { distinct = tt; exist = λ k h. refl });
}

pub opened_law : (v : ClocksValue) → v.table.clocks ≡ [] → v.lasts ≡ [] → AreToldAs [] v ([] ∷ [])
opened_law v none nor = rw (none, nor) (refl, kept_nothing)

pub resumed_law : (now a k : ℕ) (v : ClocksValue) (acts : List (List Registration)) → IsKept v.lasts acts v.table.clocks → a < length acts
    → AreToldAs (map (settled_clock now) (moved a (only k resumed) (told v.lasts acts v.table.clocks)))
    (calls now call_resume (regs_open (concerns (which.Only k)) (held acts a)) v)
    (set acts a (regs_resumed (concerns (which.Only k)) (phase_at v.table.clocks) (held acts a)))
resumed_law now a k v acts kept inside = resumed_told now a (λ j. j == k) v.lasts acts v.table.clocks kept inside

pub arrived_law : (now a : ℕ) (v : ClocksValue) (acts : List (List Registration)) → IsKept v.lasts acts v.table.clocks → a < length acts
    → AreToldAs (map (settled_clock now) (moved a (all resumed) (told v.lasts acts v.table.clocks)))
    (calls now call_resume (regs_open (concerns which.All) (held acts a)) v)
    (set acts a (regs_resumed (concerns which.All) (phase_at v.table.clocks) (held acts a)))
arrived_law now a v acts kept inside = resumed_told now a (λ j. true) v.lasts acts v.table.clocks kept inside

pub passed_law : (now a : ℕ) (v : ClocksValue) (acts : List (List Registration)) → IsKept v.lasts acts v.table.clocks → a < length acts
    → list_any (λ c. is_signalled (standing_of c a)) (told v.lasts acts v.table.clocks) ≡ false
    → AreToldAs (map (settled_clock now) (moved a (all passed) (told v.lasts acts v.table.clocks))) v (set acts a (regs_passed (held acts a)))
passed_law now a v acts kept inside quiet = passed_told now a v.lasts acts v.table.clocks kept inside quiet

pub dropped_law : (now a k : ℕ) (v : ClocksValue) (acts : List (List Registration)) → IsKept v.lasts acts v.table.clocks → a < length acts
    → AreToldAs (map (settled_clock now) (moved a (only k dropped) (told v.lasts acts v.table.clocks)))
    (calls now call_drop (regs_on (concerns (which.Only k)) (held acts a)) v) (set acts a (others (which.Only k) (held acts a)))
dropped_law now a k v acts kept inside = left_told now a (λ j. j == k) v.lasts acts v.table.clocks kept inside

pub left_law : (now a : ℕ) (v : ClocksValue) (acts : List (List Registration)) → IsKept v.lasts acts v.table.clocks → a < length acts
    → AreToldAs (map (settled_clock now) (moved a (all dropped) (told v.lasts acts v.table.clocks)))
    (calls now call_drop (regs_on (concerns which.All) (held acts a)) v) (set acts a (others which.All (held acts a)))
left_law now a v acts kept inside = left_told now a (λ j. true) v.lasts acts v.table.clocks kept inside

pub started_law : (now a : ℕ) (v : ClocksValue) (acts : List (List Registration)) → IsKept v.lasts acts v.table.clocks
    → (given : ℕ → Bool) (new : List Registration) → AreSound (length v.table.clocks) new → IsGiven given (held acts a) new
    → AreToldAs (map (settled_clock now) (joined a given (told v.lasts acts v.table.clocks))) (calls now call_register new v) (acts ++ new ∷ [])
started_law now a v acts kept given new sound is = spawned_told now a given new v.lasts acts v.table.clocks kept sound is

pub made_law : (now a : ℕ) (v : ClocksValue) (acts : List (List Registration)) → IsKept v.lasts acts v.table.clocks → a < length acts
    → AreToldAs (map (settled_clock now) (told v.lasts acts v.table.clocks ++ new_clock (length acts) a ∷ []))
    (made_clocks v) (set acts a (held acts a ++ record { clock = length v.table.clocks; resumed = None } ∷ []))
made_law now a v acts kept inside = made_told now a v.lasts acts v.table.clocks kept inside
