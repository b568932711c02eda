-- How a schedule that follows a chooser goes on by a step.
use Rattle.std.proofs.Common.{◌≡◌, ℕ, ℤ, Bool, not, List, [], ◌∷◌, ◌++◌, Option, filter, refl, sym, ap, subst, ◌∙◌}
use Rattle.std.specs.List.{filter_map}
use Rattle.std.specs.Option.{option_to_list}
use Rattle.std.proofs.lemmas.List.{append-nil}
use Rattle.std.proofs.lemmas.List.Elements.{filter-append, filter_map-append}
use Rattle.xk_types.specs.declared.world.Event.{Event}
use Rattle.xk_types.specs.declared.world.Event.TheVariants as event
use Rattle.xk_types.specs.Code.{ModuleValue}
use Rattle.xk_types.specs.World.{World}
use Rattle.xk_types.specs.Step.{Stepped, step}
use Rattle.xk_types.specs.Schedule.{Through, run, events, is_local, seen, number_printed, printed}
use Rattle.xk_law_schedules.proofs.ReachabilityLemmas.{same_through, first_step}
use Rattle.xk_core.proofs.LocalRunLemmas.{events_more}
use Rattle.xk_scheduler.proofs.ScheduleLemmas.{events_append}
use Rattle.xk_scheduler.specs.Choosers.{enabled_in, Names, Follows, goes_on, state_after, state_on}

-- ---- choosers

-- a list that follows a chooser still does with the step that the chooser names next
pub follows_more : {S : Type 0} (answer : S → List ℕ → ℕ) (after : S → List ℕ → S) (m : ModuleValue) (list : List ℕ) (s : S) (w v x : World) (a : ℕ) (e : Event)
    → run m list w ≡ Through v → Follows answer after m s w list → Names answer m (state_after after m s w list) v a → step m v a ≡ Stepped x e
    → Follows answer after m s w (list ++ a ∷ [])
follows_more answer after m [] s w v x a e h f n g =
    let same = sym (same_through w v h) in
    (subst (λ z. Names answer m s z a) same n, subst (λ o. goes_on o (λ z. Unit {0})) (sym (ap (λ z. step m z a) (sym same) ∙ g)) tt)
follows_more answer after m (b ∷ list) s w v x a e h f n g =
    let t = first_step w v (step m w b) (run m list) h in
    let next = after s (enabled_in m w) in
    let rest = subst (λ o. goes_on o (λ z. Follows answer after m next z list)) t.2 f.1 in
    let named = subst (λ o. Names answer m (state_on o s (λ z. state_after after m next z list)) v a) t.2 n in
    (f.0, subst (λ o. goes_on o (λ z. Follows answer after m next z (list ++ a ∷ []))) (sym t.2) (follows_more answer after m list next t.0 v x a e t.3 rest named g))

-- and the chooser's state is the one that it comes to by that choice
pub state_more : {S : Type 0} (after : S → List ℕ → S) (m : ModuleValue) (list : List ℕ) (s : S) (w v x : World) (a : ℕ) (e : Event)
    → run m list w ≡ Through v → step m v a ≡ Stepped x e
    → state_after after m s w (list ++ a ∷ []) ≡ after (state_after after m s w list) (enabled_in m v)
state_more after m [] s w v x a e h g =
    let same = same_through w v h in
    ap (λ o. state_on o s (λ z. after s (enabled_in m w))) (ap (λ z. step m z a) same ∙ g) ∙ ap (λ z. after s (enabled_in m z)) same
state_more after m (b ∷ list) s w v x a e h g =
    let t = first_step w v (step m w b) (run m list) h in
    let next = after s (enabled_in m w) in
    ap (λ o. state_on o s (λ z. state_after after m next z (list ++ a ∷ []))) t.2
    ∙ state_more after m list next t.0 v x a e t.3 g
    ∙ sym (ap (λ o. after (state_on o s (λ z. state_after after m next z list)) (enabled_in m v)) t.2)

-- ---- what is printed

abbrev number_in : ℕ × Event → Option ℤ
number_in p = number_printed p.1

abbrev is_seen : ℕ × Event → Bool
is_seen p = not (is_local p.1)

-- what one event prints
printed_by : (a : ℕ) (e : Event) → filter_map number_in (filter is_seen ((a, e) ∷ [])) ≡ option_to_list (number_printed e)
printed_by a event.Local = refl
printed_by a (event.Printed n) = refl
printed_by a event.Made = refl
printed_by a event.Got = refl
printed_by a event.Put = refl
printed_by a event.Added = refl
printed_by a event.Opened = refl
printed_by a event.Closed = refl
printed_by a event.Spawned = refl
printed_by a event.Resumed = refl
printed_by a event.Dropped = refl
printed_by a event.Arrived = refl
printed_by a event.Passed = refl
printed_by a event.Ended = refl

-- the numbers of one step more
pub printed_more : (m : ModuleValue) (list : List ℕ) (w v x : World) (a : ℕ) (e : Event) → run m list w ≡ Through v → step m v a ≡ Stepped x e
    → printed m (list ++ a ∷ []) w ≡ printed m list w ++ option_to_list (number_printed e)
printed_more m list w v x a e h g =
    ap (λ es. filter_map number_in (filter is_seen es)) (events_more m list w v x a e h g)
    ∙ ap (filter_map number_in) (filter-append is_seen (events m list w) ((a, e) ∷ []))
    ∙ filter_map-append number_in (seen m list w) (filter is_seen ((a, e) ∷ []))
    ∙ ap (λ ns. printed m list w ++ ns) (printed_by a e)

-- those of a schedule more of which nothing is seen
pub printed_unseen : (m : ModuleValue) (xs ys : List ℕ) (w v : World) → run m xs w ≡ Through v → seen m ys v ≡ [] → printed m (xs ++ ys) w ≡ printed m xs w
printed_unseen m xs ys w v h hidden =
    ap (λ es. filter_map number_in (filter is_seen es)) (events_append m xs ys w v h)
    ∙ ap (filter_map number_in) (filter-append is_seen (events m xs w) (events m ys v) ∙ ap (λ es. seen m xs w ++ es) hidden ∙ append-nil (seen m xs w))
