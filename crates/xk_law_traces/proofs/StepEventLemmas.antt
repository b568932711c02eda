-- A start brings one activity more, and no other step does; a step leaves all other activities as they are; and who prints stands at an
-- instruction that prints.
use Rattle.std.proofs.Common.{◌≡◌, ℕ, ◌+◌, ◌≤◌, Bool, true, false, true≢false, cond, [], ◌∷◌, List, set, Some, None, length, refl, sym, ap, ◌∙◌, subst, arith, length-set}
use Rattle.std.specs.Prelude.{slice_get, option_and_then}
use Rattle.std.specs.Option.{option_map_or}
use Rattle.std.proofs.lemmas.List.{length_push}
use Rattle.std.proofs.lemmas.Option.{none-some}
use Rattle.xk_types.specs.declared.world.Event.{Event}
use Rattle.xk_types.specs.declared.world.Event.TheVariants as event
use Rattle.xk_types.specs.Code.{ModuleValue}
use Rattle.xk_types.specs.World.{Activity, World, instruction_at}
use Rattle.xk_types.specs.Step.{child, onward, left, ended, arrived, Outcome, Blocked, Wrong, Stepped, step}
use Rattle.xk_types.specs.Schedule.{Through, run, number_printed}
use Rattle.xk_types.proofs.ListLemmas.{get-set_other, get-append_left}
use Rattle.xk_law_schedules.proofs.ReachabilityLemmas.{same_through, first_step}
use Rattle.xk_law_schedules.proofs.StepFormLemmas.{step_kind, starts_or_arrives}
use Rattle.xk_law_commute.specs.Conflicts.{next_instruction}
use Rattle.xk_law_commute.proofs.StepEffect.{enacted}
use Rattle.xk_law_commute.proofs.ChangeSquareLemmas.{same_step, not_none, found_of}
use Rattle.xk_law_commute.proofs.StartSquareLemmas.{made_world, started_world, maker}
use Rattle.xk_law_commute.proofs.ViewLemmas.{Goes, IsNone, DoesAct, DoesMake, DoesStart, goes, sees_itself}
use Rattle.xk_law_traces.specs.Moments.{is_print, is_start}
use Rattle.xk_law_traces.specs.Edges.{prints}

-- ---- starts

pub start_is : (e : Event) → is_start e ≡ true → e ≡ event.Spawned
start_is event.Spawned h = refl
start_is _ h = absurd (true≢false (sym h))

pub not_start : (e : Event) → starts_or_arrives e ≡ false → is_start e ≡ false
not_start event.Spawned h = h
not_start _ h = refl

abbrev Grows : World → Outcome → Type 0
Grows w Blocked = Unit {0}
Grows w (Wrong c) = Unit {0}
Grows w (Stepped u e) = length u.activities ≡ length w.activities + cond (is_start e) 1 0

pub grown : (m : ModuleValue) (w u : World) (a : ℕ) (e : Event) → step m w a ≡ Stepped u e
    → length u.activities ≡ length w.activities + cond (is_start e) 1 0
grown m w u a e h = subst (Grows w) h (step_kind (Grows w) m w a tt (λ c. tt) (λ act found lives. record {
  closed = λ n some nobody runs. kept (left act n);
  over = λ here none. kept (ended act);
  arrives = kept (arrived act);
  done = λ next change f goes quiet rests. kept next ∙ ap (λ q. length w.activities + cond q 1 0) (sym (not_start f quiet));
  made = λ next goes. kept next;
  stored = λ s n f goes quiet. kept (onward act) ∙ ap (λ q. length w.activities + cond q 1 0) (sym (not_start f quiet));
  spawned = λ t args values at goes.
      (let p = length_push (set w.activities a (onward act)) (child m a act t values) in
      let q = length-set w.activities a (onward act) in omega arith);
}))
  where
    kept : (next : Activity) → length (set w.activities a next) ≡ length w.activities + 0
    kept next = let p = length-set w.activities a next in omega arith

-- there are no fewer after a step, and after a run
pub wider : (m : ModuleValue) (w u : World) (a : ℕ) (e : Event) → step m w a ≡ Stepped u e → length w.activities ≤ length u.activities
wider m w u a e h = let g = grown m w u a e h in omega arith

pub run_wider : (m : ModuleValue) (list : List ℕ) (w v : World) → run m list w ≡ Through v → length w.activities ≤ length v.activities
run_wider m [] w v h = let e = ap (λ (z : World). length z.activities) (same_through w v h) in omega arith
run_wider m (d ∷ list) w v h =
    let x = first_step w v (step m w d) (run m list) h in
    let p = wider m w x.0 d x.1 x.2 in
    let q = run_wider m list x.0 v x.3 in
    omega arith

-- ---- others

pub others_stay : (m : ModuleValue) (w u : World) (a b : ℕ) (e : Event) (act : Activity) → step m w a ≡ Stepped u e → (b ≡ a → ⊥)
    → slice_get w.activities b ≡ Some act
    → slice_get u.activities b ≡ Some act
others_stay m w u a b e act h differs at = by (goes m w w a x.0 x.0.since (sees_itself m w a x.0 x.1))
  where
    x : (z : Activity) × (slice_get w.activities a ≡ Some z)
    x = found_of m w a u e h

    by : Goes m w w a x.0 x.0.since (step m w a) (step m w a) → slice_get u.activities b ≡ Some act
    by (IsNone g) = absurd (not_none (step m w a) u e h g)
    by (DoesAct A) =
        ap (λ (z : World). slice_get z.activities b) (same_step u (enacted w a A.next A.move A.writes) e A.e (sym h ∙ A.here)).0
        ∙ get-set_other w.activities a b A.next differs ∙ at
    by (DoesMake M) =
        ap (λ (z : World). slice_get z.activities b)
        (same_step u (made_world w a (maker x.0 M.d (length w.clocks))) e event.Made (sym h ∙ M.here)).0
        ∙ get-set_other w.activities a b (maker x.0 M.d (length w.clocks)) differs ∙ at
    by (DoesStart S) =
        ap (λ (z : World). slice_get z.activities b)
        (same_step u (started_world m w a x.0 S.unit S.values) e event.Spawned (sym h ∙ S.here)).0
        ∙ get-append_left (set w.activities a (onward x.0)) (child m a x.0 S.unit S.values ∷ []) b act
        (get-set_other w.activities a b (onward x.0) differs ∙ at)

-- ---- prints

pub print_says : (m : ModuleValue) (w u : World) (a : ℕ) (e : Event) → step m w a ≡ Stepped u e → is_print e ≡ true
    → option_map_or prints (next_instruction m w a) false ≡ true
print_says m w u a e h is =
    by (option_map_or prints (next_instruction m w a) false) refl (goes m w w a x.0 x.0.since (sees_itself m w a x.0 x.1))
  where
    x : (z : Activity) × (slice_get w.activities a ≡ Some z)
    x = found_of m w a u e h

    here : next_instruction m w a ≡ instruction_at m x.0.frame
    here = ap (option_and_then (λ (z : Activity). instruction_at m z.frame)) x.1

    silent : (f : Event) → is_print f ≡ true → number_printed f ≡ None → ⊥
    silent (event.Printed n) g q = none-some n (sym q)
    silent _ g q = true≢false (sym g)

    by : (b : Bool) → option_map_or prints (next_instruction m w a) false ≡ b
        → Goes m w w a x.0 x.0.since (step m w a) (step m w a) → b ≡ true
    by true g G = refl
    by false g (IsNone n) = absurd (not_none (step m w a) u e h n)
    by false g (DoesAct A) =
        absurd (silent e is (ap number_printed (same_step u (enacted w a A.next A.move A.writes) e A.e (sym h ∙ A.here)).1
        ∙ A.silent (sym (ap (λ o. option_map_or prints o false) here) ∙ g)))
    by false g (DoesMake M) = absurd
        (true≢false (sym is ∙ ap is_print (same_step u (made_world w a (maker x.0 M.d (length w.clocks))) e event.Made (sym h ∙ M.here)).1))
    by false g (DoesStart S) = absurd
        (true≢false (sym is ∙ ap is_print (same_step u (started_world m w a x.0 S.unit S.values) e event.Spawned (sym h ∙ S.here)).1))
