-- Steps of some activities, one after another.
use Rattle.std.proofs.Common.{◌≡◌, ◌∙◌, ℕ, zero, suc, ◌+◌, ◌<◌, ◌≤◌, false, true≢false, List, [], ◌∷◌, ◌++◌}
use Rattle.std.proofs.Common.{append-nil, append_assoc, add-one, length, map, take, get_or, Option, Some, None, Result, Ok, Err}
use Rattle.std.proofs.Common.{slice_get, refl, sym, ap, subst, arith}
use Rattle.std.specs.Prelude.{OnOk}
use Rattle.std.proofs.lemmas.List.{map-append}
use Rattle.std.proofs.lemmas.Option.{none-some, slice_get-get_or}
use Rattle.xk_types.specs.declared.world.Entry.{Entry}
use Rattle.xk_types.specs.declared.world.Event.{Event}
use Rattle.xk_types.specs.Code.{ModuleValue}
use Rattle.xk_types.specs.World.{World}
use Rattle.xk_types.specs.Bound.{steps_bound}
use Rattle.xk_types.specs.Step.{Stepped, step}
use Rattle.xk_types.specs.Schedule.{all_ended}
use Rattle.xk_types.specs.Logs.{one_step_of}
use Rattle.xk_collections.specs.NumberSets.{IsRising}
use Rattle.xk_collections.proofs.RisingListLemmas.{rising_far}
use Rattle.xk_core.specs.Core.{CoreValue, IsCore}
use Rattle.xk_scheduler.specs.Choosers.{enabled_in}
use Rattle.xk_scheduler.proofs.EnabledSetLemmas.{listed_enabled, listed_over, listed_rises}
use Rattle.xk_scheduler.proofs.ScheduleLemmas.{leads_more}
use Rattle.xk_greedy.specs.Rounds.{AreSome, chosen}
use Rattle.xk_greedy.specs.Steps.{AreEnabled, IsOn, IsRoundOn}
use Rattle.xk_greedy.proofs.StillLemmas.{still}

-- before the first of them
pub on_start : (c : CoreValue) (log : List Entry) (acts : List ℕ) → IsOn c log (take 0 acts) c log
on_start c log acts = record {
  same_module = refl;
  leads = refl;
  logged = sym (append-nil log);
  counted = omega arith;
  bound = λ some. absurd (omega (arith, some));
}

take_next : (xs : List ℕ) (i : ℕ) → i < length xs → take (suc i) xs ≡ take i xs ++ get_or xs i 0 ∷ []
take_next [] i lt = absurd (omega arith)
take_next (x ∷ xs) zero lt = refl
take_next (x ∷ xs) (suc i) lt = ap (λ l. x ∷ l) (take_next xs i (omega arith))

take_more : (xs : List ℕ) (i : ℕ) → i < length xs → take (i + 1) xs ≡ take i xs ++ get_or xs i 0 ∷ []
take_more xs i lt = ap (λ k. take k xs) (add-one i) ∙ take_next xs i lt

length_push : (xs : List ℕ) (x : ℕ) → length (xs ++ x ∷ []) ≡ length xs + 1
length_push [] x = refl
length_push (y ∷ xs) x = let rest = length_push xs x in omega (arith, rest)

-- one of them more
pub on_more : (c d x : CoreValue) (log mid more : List Entry) (acts : List ℕ) (i : ℕ) (e : Event) → i < length acts
    → IsOn c log (take i acts) d mid → step d.module_run d.world (get_or acts i 0) ≡ Stepped x.world e
    → x.module_run ≡ d.module_run
    → more ≡ mid ++ one_step_of (get_or acts i 0) ∷ [] → x.world.steps ≡ d.world.steps + 1
    → x.world.steps ≤ steps_bound x.module_run
    → IsOn c log (take (i + 1) acts) x more
on_more c d x log mid more acts i e lt on stepped same is counted bound = record {
  same_module = same ∙ on.same_module;
  leads = leads_more c.module_run acts c.world d.world x.world i 0 e lt on.leads
      (subst (λ m. step m d.world (get_or acts i 0) ≡ Stepped x.world e) on.same_module stepped);
  logged = is ∙ ap (λ l. l ++ one_step_of (get_or acts i 0) ∷ []) on.logged
      ∙ append_assoc log (map one_step_of (take i acts)) (one_step_of (get_or acts i 0) ∷ [])
      ∙ ap (λ l. log ++ l)
      (sym (ap (map one_step_of) (take_more acts i lt) ∙ map-append one_step_of (take i acts) (get_or acts i 0 ∷ [])));
  counted = omega (arith, counted, on.counted, ap length (take_more acts i lt), length_push (take i acts) (get_or acts i 0));
  bound = λ some. subst (λ m. x.world.steps ≤ steps_bound m) (same ∙ on.same_module) bound;
}

-- and those behind it still can take a step
pub still_enabled : (m : ModuleValue) (w v : World) (acts : List ℕ) (i : ℕ) (e : Event) → IsCore m w
    → IsRising acts → i < length acts → step m w (get_or acts i 0) ≡ Stepped v e → AreEnabled m w i acts → AreEnabled m v (i + 1) acts
still_enabled m w v acts i e core rising lt stepped able = λ j behind inside.
    still m w v (get_or acts i 0) (get_or acts j 0) e core stepped
    (rising_far acts rising i j (omega (arith, behind)) inside) (able j (omega (arith, behind)) inside)

-- ---- those who are chosen

take_get : (n : ℕ) (xs : List ℕ) (i x : ℕ) → slice_get (take n xs) i ≡ Some x → slice_get xs i ≡ Some x
take_get zero [] i x e = e
take_get zero (y ∷ xs) i x e = absurd (none-some x e)
take_get (suc n) [] i x e = e
take_get (suc n) (y ∷ xs) zero x e = e
take_get (suc n) (y ∷ xs) (suc i) x e = take_get n xs i x e

pub chosen_get : (p : Option ℕ) (xs : List ℕ) (i x : ℕ) → slice_get (chosen p xs) i ≡ Some x → slice_get xs i ≡ Some x
chosen_get None xs i x e = e
chosen_get (Some n) xs i x e = take_get n xs i x e

pub chosen_rise : (p : Option ℕ) (m : ModuleValue) (w : World) → IsRising (chosen p (enabled_in m w))
chosen_rise p m w i x y e f = listed_rises m w i x y (chosen_get p (enabled_in m w) i x e) (chosen_get p (enabled_in m w) (suc i) y f)

pub chosen_enabled : (p : Option ℕ) (m : ModuleValue) (w : World) → AreEnabled m w 0 (chosen p (enabled_in m w))
chosen_enabled p m w = λ j from inside.
    let acts = chosen p (enabled_in m w) in
    listed_enabled m w j (get_or acts j 0) (chosen_get p (enabled_in m w) j (get_or acts j 0) (slice_get-get_or acts j 0 inside))

-- somebody is
pub chosen_some : (p : Option ℕ) (m : ModuleValue) (w : World) → IsCore m w → AreSome p → all_ended w ≡ false
    → 0 < length (chosen p (enabled_in m w))
chosen_some p m w core some goes_on = of p some (enabled_in m w) refl
  where
    of : (q : Option ℕ) → AreSome q → (xs : List ℕ) → enabled_in m w ≡ xs → 0 < length (chosen q xs)
    of q h [] e = absurd (true≢false (sym (listed_over m w core e) ∙ goes_on))
    of None h (x ∷ xs) e = omega arith
    of (Some zero) h (x ∷ xs) e = absurd (omega (arith, h))
    of (Some (suc n)) h (x ∷ xs) e = omega arith

-- so their steps are a round
pub a_round : {A E : Type 0} (p : Option ℕ) (c d : CoreValue) (log more : List Entry) (acts : List ℕ) (r : Result A E)
    → acts ≡ chosen p (enabled_in c.module_run c.world)
    → IsCore c.module_run c.world → AreSome p → all_ended c.world ≡ false
    → OnOk r (IsOn c log acts d more) → OnOk r (IsRoundOn p c log d more)
a_round p c d log more acts (Ok u) is core some goes_on on = record {
  acts = acts;
  on = on;
  round = record {
    chosen_are = is;
    some = subst (λ (l : List ℕ). 0 < length l) (sym is) (chosen_some p c.module_run c.world core some goes_on);
    leads = on.leads;
  };
}
a_round p c d log more acts (Err e) is core some goes_on on = tt
