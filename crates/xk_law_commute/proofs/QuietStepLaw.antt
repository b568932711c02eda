-- A quiet step goes first, and worlds that are the same but for step numbers and phases go on alike.
use Rattle.std.proofs.Common.{◌≡◌, ℕ, Bool, true, false, true≢false, not, ◌&&◌, List, [], ◌∷◌, map, Some, None, Option, refl, sym, ap, ◌∙◌}
use Rattle.std.specs.Prelude.{option_and_then}
use Rattle.std.specs.List.{list_all}
use Rattle.std.specs.Option.{option_map_or}
use Rattle.std.proofs.lemmas.Bool.{and_parts}
use Rattle.xk_types.specs.declared.instr.Instr.{Instr}
use Rattle.xk_types.specs.declared.instr.Instr.TheVariants as instr
use Rattle.xk_types.specs.declared.world.Event.{Event}
use Rattle.xk_types.specs.Acceptance.{IsAccepted}
use Rattle.xk_types.specs.Code.{ModuleValue, IsWithinLimits}
use Rattle.xk_types.specs.World.{Activity, World, instruction_at, is_ended}
use Rattle.xk_types.specs.Step.{Outcome, Blocked, Wrong, Stepped, step}
use Rattle.xk_types.specs.Schedule.{IsReached, is_step, is_enabled, all_ended, number_printed}
use Rattle.xk_law_commute.specs.PlainWorlds.{plain_activity, plain, plain_outcome}
use Rattle.xk_law_commute.specs.Conflicts.{reads, puts, stores, next_instruction, AreConflictFree}
use Rattle.xk_law_commute.specs.QuietSteps.{is_loud, has_quiet_step, QuietStepsGoFirst, AlikeWorldsGoAlike}
use Rattle.xk_law_commute.proofs.StepEffect.{enacted, begins, prints, begins_next}
use Rattle.xk_law_commute.proofs.PlainStepLaw.{plain_steps}
use Rattle.xk_law_commute.proofs.ViewLemmas.{Sees, Acts, goes, sees_itself}
use Rattle.xk_law_commute.proofs.ChangeSquareLemmas.{same_step, found_of, only_acts}
use Rattle.xk_law_commute.proofs.StartSquareLemmas.{reached_square, reached_sees}

-- ---- what isn't loud

loud_stores : (i : Instr) (c : ℕ) → is_loud i ≡ false → stores i c ≡ true → ⊥
loud_stores (instr.Put s x) c h g = true≢false h
loud_stores (instr.AddTo s x) c h g = true≢false h
loud_stores _ c h g = true≢false (sym g)

loud_reads : (i : Instr) (c : ℕ) → is_loud i ≡ false → reads i c ≡ true → ⊥
loud_reads (instr.Get d s) c h g = true≢false h
loud_reads _ c h g = true≢false (sym g)

loud_puts : (i : Instr) (c : ℕ) → is_loud i ≡ false → puts i c ≡ true → ⊥
loud_puts (instr.Put s x) c h g = true≢false h
loud_puts _ c h g = true≢false (sym g)

loud_begins : (i : Instr) → is_loud i ≡ false → begins i ≡ false
loud_begins (instr.Make k) h = h
loud_begins (instr.Spawn t args) h = h
loud_begins _ h = refl

loud_prints : (i : Instr) → is_loud i ≡ false → prints i ≡ false
loud_prints (instr.Print x) h = h
loud_prints _ h = refl

-- of the next instruction
of_next : (o : Option Instr) (test : Instr → Bool) → ((i : Instr) → is_loud i ≡ false → test i ≡ true → ⊥) → option_map_or is_loud o false ≡ false → option_map_or test o false ≡ true → ⊥
of_next None test h g k = true≢false (sym k)
of_next (Some i) test h g k = h i g k

begins_not : (o : Option Instr) → option_map_or is_loud o false ≡ false → option_map_or begins o false ≡ false
begins_not None g = refl
begins_not (Some i) g = loud_begins i g

prints_not : (o : Option Instr) → option_map_or is_loud o false ≡ false → option_map_or prints o false ≡ false
prints_not None g = refl
prints_not (Some i) g = loud_prints i g

not_of : (p : Bool) → not p ≡ true → p ≡ false
not_of true h = sym h
not_of false h = refl

not_loud : (m : ModuleValue) (w : World) (a : ℕ) → has_quiet_step m w a ≡ true → option_map_or is_loud (next_instruction m w a) false ≡ false
not_loud m w a h = not_of (option_map_or is_loud (next_instruction m w a) false) (and_parts (is_enabled m w a) (not (option_map_or is_loud (next_instruction m w a) false)) h).1

quiet_apart : (m : ModuleValue) (w : World) (a b : ℕ) → has_quiet_step m w a ≡ true → AreConflictFree m w a b
quiet_apart m w a b h = record {
  second_reads = λ c s t. of_next (next_instruction m w a) (λ i. stores i c) (λ i. loud_stores i c) (not_loud m w a h) s;
  first_reads = λ c s t. of_next (next_instruction m w a) (λ i. reads i c) (λ i. loud_reads i c) (not_loud m w a h) t;
  first_puts = λ c s t. of_next (next_instruction m w a) (λ i. puts i c) (λ i. loud_puts i c) (not_loud m w a h) s;
  second_puts = λ c s t. of_next (next_instruction m w a) (λ i. stores i c) (λ i. loud_stores i c) (not_loud m w a h) t;
}

quiet_begins : (m : ModuleValue) (w : World) (a : ℕ) → has_quiet_step m w a ≡ true → begins_next m w a ≡ false
quiet_begins m w a h = begins_not (next_instruction m w a) (not_loud m w a h)

-- ---- goes first

pub enabled_step : (o : Outcome) → is_step o ≡ true → (u : World) × (e : Event) × (o ≡ Stepped u e)
enabled_step Blocked h = absurd (true≢false (sym h))
enabled_step (Wrong c) h = absurd (true≢false (sym h))
enabled_step (Stepped u e) h = (u, e, refl)

pub quiet_enabled : (m : ModuleValue) (w : World) (a : ℕ) → has_quiet_step m w a ≡ true → is_enabled m w a ≡ true
quiet_enabled m w a h = (and_parts (is_enabled m w a) (not (option_map_or is_loud (next_instruction m w a) false)) h).0

quiet_silent : (m : ModuleValue) (w u : World) (a : ℕ) (e : Event) → has_quiet_step m w a ≡ true → step m w a ≡ Stepped u e → number_printed e ≡ None
quiet_silent m w u a e quiet h =
    let x = found_of m w a u e h in
    let A : Acts m w w a x.0 (step m w a) (step m w a) =
    only_acts m w w a x.0 x.0.since (step m w a) (step m w a) u e x.1 (quiet_begins m w a quiet) h (goes m w w a x.0 x.0.since (sees_itself m w a x.0 x.1)) in
    ap number_printed (same_step u (enacted w a A.next A.move A.writes) e A.e (sym h ∙ A.here)).1
    ∙ A.silent (prints_not (instruction_at m x.0.frame)
    (sym (ap (λ o. option_map_or is_loud o false) (ap (option_and_then (λ (act : Activity). instruction_at m act.frame)) x.1)) ∙ not_loud m w a quiet))

quiet_stays : (m : ModuleValue) → IsWithinLimits m → IsAccepted m → (w v : World) (a b : ℕ) (f : Event) → IsReached m w → has_quiet_step m w a ≡ true → (b ≡ a → ⊥) → step m w b ≡ Stepped v f
    → has_quiet_step m v a ≡ true
quiet_stays m limits ok w v a b f reached quiet differs hv =
    let u = enabled_step (step m w a) (and_parts (is_enabled m w a) (not (option_map_or is_loud (next_instruction m w a) false)) quiet).0 in
    let x = found_of m w a u.0 u.1 u.2 in
    let apart = quiet_apart m w a b quiet in
    let sees : Sees m w v a x.0 x.0.since = reached_sees m w limits ok reached a b differs apart x.0 x.1 v f hv in
    let both = reached_square m w limits ok reached a b differs apart (quiet_begins m w a quiet) u.0 v u.1 f u.2 hv in
    let same : next_instruction m v a ≡ next_instruction m w a = ap (option_and_then (λ (act : Activity). instruction_at m act.frame)) (sees.then ∙ sym x.1) in
    rw (same, not_loud m w a quiet, both.2) refl

pub quiet_steps_go_first : (m : ModuleValue) → IsWithinLimits m → IsAccepted m → QuietStepsGoFirst m
quiet_steps_go_first m limits ok = record {
  silent = quiet_silent m;
  stays = quiet_stays m limits ok;
  square = λ w a b reached quiet differs. reached_square m w limits ok reached a b differs (quiet_apart m w a b quiet) (quiet_begins m w a quiet);
}

-- ---- go on alike

alike_steps : (m : ModuleValue) (w v u : World) (a : ℕ) (e : Event) → plain w ≡ plain v → step m w a ≡ Stepped u e → (z : World) × (step m v a ≡ Stepped z e) × (plain u ≡ plain z)
alike_steps m w v u a e same h =
    by (step m v a) refl (sym (plain_steps m v a) ∙ ap (λ z. plain_outcome (step m z a)) (sym same) ∙ plain_steps m w a ∙ ap plain_outcome h)
  where
    by : (o : Outcome) → step m v a ≡ o → plain_outcome (step m v a) ≡ Stepped (plain u) e → (z : World) × (step m v a ≡ Stepped z e) × (plain u ≡ plain z)
    by Blocked q g = absurd (true≢false (sym (ap is_step (sym (ap plain_outcome q) ∙ g))))
    by (Wrong c) q g = absurd (true≢false (sym (ap is_step (sym (ap plain_outcome q) ∙ g))))
    by (Stepped z d) q g =
        let s = same_step (plain z) (plain u) d e (sym (ap plain_outcome q) ∙ g) in
        (z, q ∙ ap (λ k. Stepped z k) s.1, sym s.0)

ended_plain : (xs : List Activity) → list_all (λ (act : Activity). is_ended act.status) (map plain_activity xs) ≡ list_all (λ (act : Activity). is_ended act.status) xs
ended_plain [] = refl
ended_plain (x ∷ xs) = ap (λ p. is_ended x.status && p) (ended_plain xs)

pub alike_worlds_go_alike : (m : ModuleValue) → AlikeWorldsGoAlike m
alike_worlds_go_alike m = record {
  steps = alike_steps m;
  ends = λ w v same. sym (ended_plain w.activities) ∙ ap all_ended same ∙ ended_plain v.activities;
}
