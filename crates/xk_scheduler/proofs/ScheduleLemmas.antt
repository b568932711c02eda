-- A schedule goes on by a step, or by another schedule, or it stops.
use Rattle.std.proofs.Common.{◌≡◌, ℕ, zero, suc, ◌+◌, ◌<◌, Bool, true, false, not, List, [], ◌∷◌, ◌++◌, length, map, take, filter, get_or, Some, refl, sym, ap, ◌∙◌, add-one, slice_get, arith}
use Rattle.std.proofs.Math.Seq.{take-suc}
use Rattle.std.proofs.lemmas.Bool.{true≢false}
use Rattle.std.proofs.lemmas.List.{map-append, take_all}
use Rattle.std.proofs.lemmas.Option.{none-some, same_Some, slice_get_within}
use Rattle.std.proofs.lemmas.List.Elements.{filter-append}
use Rattle.xk_types.specs.declared.world.Event.{Event}
use Rattle.xk_types.specs.Code.{ModuleValue}
use Rattle.xk_types.specs.World.{World}
use Rattle.xk_types.specs.Step.{Stepped, step}
use Rattle.xk_types.specs.Schedule.{Through, run, is_step, is_enabled, is_local, events, events_on, seen}
use Rattle.xk_law_schedules.proofs.ReachabilityLemmas.{same_through, first_step, run_more}
use Rattle.xk_core.proofs.LocalRunLemmas.{events_more}
use Rattle.xk_scheduler.specs.Schedules.{shown, events_seen, LeadsPart, StopsAt}
use Rattle.xk_scheduler.proofs.RunSequenceLemmas.{run_then}

-- ---- in two parts

pub events_append : (m : ModuleValue) (xs ys : List ℕ) (w v : World) → run m xs w ≡ Through v → events m (xs ++ ys) w ≡ events m xs w ++ events m ys v
events_append m [] ys w v h = ap (events m ys) (same_through w v h)
events_append m (a ∷ xs) ys w v h =
    let f = first_step w v (step m w a) (run m xs) h in
    ap (λ o. events_on a o (events m (xs ++ ys))) f.2
    ∙ ap (λ l. (a, f.1) ∷ l) (events_append m xs ys f.0 v f.3)
    ∙ sym (ap (λ o. events_on a o (events m xs) ++ events m ys v) f.2)

-- ---- by a step

-- what is seen of one step more
shown_one : (a : ℕ) (e : Event) → map (λ (p : ℕ × Event). p.1) (filter (λ (p : ℕ × Event). not (is_local p.1)) ((a, e) ∷ [])) ≡ shown e
shown_one a e = tested (is_local e) refl
  where
    tested : (b : Bool) → is_local e ≡ b → map (λ (p : ℕ × Event). p.1) (filter (λ (p : ℕ × Event). not (is_local p.1)) ((a, e) ∷ [])) ≡ shown e
    tested true h = rw h refl
    tested false h = rw h refl

seen_more : (m : ModuleValue) (list : List ℕ) (w v x : World) (a : ℕ) (e : Event) → run m list w ≡ Through v → step m v a ≡ Stepped x e
    → events_seen m (list ++ a ∷ []) w ≡ events_seen m list w ++ shown e
seen_more m list w v x a e h g =
    ap (λ l. map (λ (p : ℕ × Event). p.1) (filter (λ (p : ℕ × Event). not (is_local p.1)) l)) (events_more m list w v x a e h g)
    ∙ ap (map (λ (p : ℕ × Event). p.1)) (filter-append (λ (p : ℕ × Event). not (is_local p.1)) (events m list w) ((a, e) ∷ []))
    ∙ map-append (λ (p : ℕ × Event). p.1) (seen m list w) (filter (λ (p : ℕ × Event). not (is_local p.1)) ((a, e) ∷ []))
    ∙ ap (λ l. events_seen m list w ++ l) (shown_one a e)

-- one place further in a list
take_more : (list : List ℕ) (i : ℕ) (d : ℕ) → i < length list → take (i + 1) list ≡ take i list ++ get_or list i d ∷ []
take_more list i d lt = rw add-one (take-suc list i d lt)

pub leads_more : (m : ModuleValue) (list : List ℕ) (w v x : World) (i d : ℕ) (e : Event) → i < length list → LeadsPart m list w i v
    → step m v (get_or list i d) ≡ Stepped x e → LeadsPart m list w (i + 1) x
leads_more m list w v x i d e lt h g = ap (λ l. run m l w) (take_more list i d lt) ∙ run_more m (take i list) w v x (get_or list i d) e h g

pub shows_more : (m : ModuleValue) (list : List ℕ) (w v x : World) (i d : ℕ) (e : Event) → i < length list → LeadsPart m list w i v
    → step m v (get_or list i d) ≡ Stepped x e → events_seen m (take (i + 1) list) w ≡ events_seen m (take i list) w ++ shown e
shows_more m list w v x i d e lt h g =
    ap (λ l. events_seen m l w) (take_more list i d lt) ∙ seen_more m (take i list) w v x (get_or list i d) e h g

-- a list that isn't empty has a first
pub first_there : (list : List ℕ) → (length list ≡ 0 → ⊥) → (a : ℕ) × (slice_get list 0 ≡ Some a)
first_there [] h = absurd (h refl)
first_there (a ∷ list) h = (a, refl)

-- ---- where it stops

-- the first j of a list are what stands before place i, the element there, and a rest
pub split_before : {X : Type 0} (xs : List X) (i j : ℕ) (x : X) → slice_get xs i ≡ Some x → i < j → (rest : List X) × (take j xs ≡ take i xs ++ x ∷ rest)
split_before [] i j x h lt = absurd (none-some x h)
split_before (y ∷ xs) i zero x h lt = absurd (omega (arith, lt))
split_before (y ∷ xs) zero (suc j) x h lt = (take j xs, ap (λ z. z ∷ take j xs) (same_Some y x h))
split_before (y ∷ xs) (suc i) (suc j) x h lt =
    let s = split_before xs i j x h (omega (arith, lt)) in
    (s.0, ap (λ l. y ∷ l) s.1)

-- who isn't enabled takes no step of a legal list
pub barred : (m : ModuleValue) (front more : List ℕ) (a : ℕ) (w v x : World) → run m front w ≡ Through v → is_enabled m v a ≡ false → run m (front ++ a ∷ more) w ≡ Through x → ⊥
barred m front more a w v x leads blocked through =
    let f = first_step v x (step m v a) (run m more) (sym (run_then m front (a ∷ more) w v leads) ∙ through) in
    true≢false (sym (ap is_step f.2) ∙ blocked)

-- a schedule that stops is not legal
pub stop_not_legal : (m : ModuleValue) (list : List ℕ) (at : ℕ) (w v x : World) → StopsAt m list w at v → run m list w ≡ Through x → ⊥
stop_not_legal m list at w v x stops through =
    let within = slice_get_within list at stops.1 stops.2 in
    let split = split_before list at (length list) stops.1 stops.2 within in
    let all : list ≡ take at list ++ stops.1 ∷ split.0 = sym (take_all (length list) list (omega arith)) ∙ split.1 in
    barred m (take at list) split.0 stops.1 w v x stops.0 stops.3 (ap (λ l. run m l w) (sym all) ∙ through)
