-- What a deed of a step says of that step.
use Rattle.std.proofs.Common.{◌≡◌, ℕ, zero, suc, ◌+◌, ◌<◌, ◌≤◌, Bool, true, false, true≢false, List, [], ◌∷◌, ◌++◌, length, Some, refl, sym}
use Rattle.std.proofs.Common.{ap, ◌∙◌, subst, ◌⊎◌, inl, inr, arith}
use Rattle.std.specs.Prelude.{slice_get, flat_map, filter, if◌then◌else◌}
use Rattle.std.proofs.lemmas.Option.{none-some, same_Some, slice_get_within, get_or_from_slice_get}
use Rattle.xk_types.specs.declared.world.Event.{Event}
use Rattle.xk_types.specs.declared.world.Event.TheVariants as event
use Rattle.xk_types.specs.Code.{ModuleValue}
use Rattle.xk_types.specs.World.{World}
use Rattle.xk_types.proofs.ListLemmas.{Each}
use Rattle.xk_collections.specs.NumberSets.{IsRising}
use Rattle.xk_collections.proofs.RisingListLemmas.{rising_far, filter_rises}
use Rattle.xk_core.specs.Core.{advanced_now, has_advanced}
use Rattle.xk_show_events.specs.declared.steps.RunStep.{RunStep}
use Rattle.xk_show_events.specs.Steps.{run_step}
use Rattle.xk_races.specs.declared.deeds.Deed.{Deed}
use Rattle.xk_races.specs.declared.deeds.Part.{Part}
use Rattle.xk_races.specs.declared.deeds.Part.TheVariants as part
use Rattle.xk_show_events.specs.Worlds.{each_below}
use Rattle.xk_races.specs.Deeds.{awaits, awaiting, gives_way, has_resumed, resumed_by, has_left, deed, cell_at, signal, leave, advance}
use Rattle.xk_races.specs.Deeds.{pass, plain, signals, leaves, at_clocks, tell_deeds}
use Rattle.xk_law_races.proofs.TurnLemmas.{Turn, IsToldOf, get_split}

-- ---- lists

-- it holds of each
abbrev pub Every : {X : Type 0} → (X → Type 0) → List X → Type 0
Every P xs = Each (λ i x. P x) xs

every_none : {X : Type 0} (P : X → Type 0) → Every P []
every_none P i x h = absurd (none-some x h)

each_one : {X : Type 0} (P : ℕ → X → Type 0) (x : X) → P 0 x → Each P (x ∷ [])
each_one P x p zero y h = subst (P 0) (same_Some x y h) p
each_one P x p (suc i) y h = absurd (none-some y h)

pub every_one : {X : Type 0} (P : X → Type 0) (x : X) → P x → Every P (x ∷ [])
every_one P x p = each_one (λ i y. P y) x p

every_append : {X : Type 0} (P : X → Type 0) (xs ys : List X) → Every P xs → Every P ys → Every P (xs ++ ys)
every_append P xs ys p q i x h = by (get_split xs ys i x h)
  where
    by : ((i < length xs) × (slice_get xs i ≡ Some x)) ⊎ ((j : ℕ) × (i ≡ length xs + j) × (slice_get ys j ≡ Some x)) → P x
    by (inl a) = p i x a.1
    by (inr a) = q a.0 x a.2

pub every_flat : {X Y : Type 0} (Q : X → Type 0) (P : Y → Type 0) (f : X → List Y) (xs : List X) → Every Q xs → ((x : X) → Q x → Every P (f x))
    → Every P (flat_map f xs)
every_flat Q P f [] q p = every_none P
every_flat Q P f (x ∷ xs) q p = every_append P (f x) (flat_map f xs) (p x (q 0 x refl)) (every_flat Q P f xs (λ i y at. q (suc i) y at) p)

pub every_if : {X : Type 0} (P : X → Type 0) (b : Bool) (x : X) → (b ≡ true → P x) → Every P (if b then x ∷ [] else [])
every_if P true x p = every_one P x (p refl)
every_if P false x p = every_none P

every_below : {X : Type 0} (P : X → Type 0) (told : ℕ → List X) (n : ℕ) → ((k : ℕ) → Every P (told k)) → Every P (each_below told n)
every_below P told zero p = every_none P
every_below P told (suc n) p = every_append P (each_below told n) (told n) (every_below P told n p) (p n)

every_filter : (test : ℕ → Bool) (xs : List ℕ) → Every (λ x. test x ≡ true) (filter test xs)
every_filter test [] = every_none (λ x. test x ≡ true)
every_filter test (x ∷ xs) = by (test x) refl (every_filter test xs)
  where
    by : (b : Bool) → test x ≡ b → Every (λ y. test y ≡ true) (filter test xs)
        → Every (λ y. test y ≡ true) (if b then x ∷ filter test xs else filter test xs)
    by true e rest zero y h = ap test (sym (same_Some x y h)) ∙ e
    by true e rest (suc i) y h = rest i y h
    by false e rest i y h = rest i y h

-- ---- parts

-- it passes a clock
abbrev pub is_pass : Event → Bool
is_pass event.Passed = true
is_pass _ = false

-- a clock advances
abbrev pub is_advance : Part → Bool
is_advance (part.Advance c) = true
is_advance _ = false

-- What a part says of the step of activity a from world w to world v with this event, of which it is number i: a start is of the next
-- activity; who signals or passes a clock was awaited there, and who leaves one had resumed it; a clock that advances was seen to; and an
-- end, a close or an access stands first.
abbrev pub Says : ModuleValue → RunStep → World → World → Event → ℕ → Part → Type 0
Says m s w v e i (part.Start b) = (e ≡ event.Spawned) × (b ≡ length w.activities)
Says m s w v e i (part.Signal c) = awaits w s.act c ≡ true
Says m s w v e i (part.Leave c) = has_resumed w s.act c ≡ true
Says m s w v e i (part.Advance c) = (has_advanced v c ≡ true) × (is_pass e ≡ false)
Says m s w v e i (part.Pass c) = (e ≡ event.Passed) × (awaits w s.act c ≡ true)
Says m s w v e i part.Close = (e ≡ event.Closed) × (i ≡ 0)
Says m s w v e i part.End = (e ≡ event.Ended) × (i ≡ 0)
Says m s w v e i _ = Unit {0}

-- it is a part of the step, and says so
abbrev IsPart : ModuleValue → RunStep → World → World → Event → ℕ → Deed → Type 0
IsPart m s w v e i d = (d.step ≡ s) × Says m s w v e i d.part

-- the part is of a clock
abbrev pub at_clock : Part → Bool
at_clock (part.Signal c) = true
at_clock (part.Leave c) = true
at_clock (part.Advance c) = true
at_clock (part.Pass c) = true
at_clock _ = false

-- ---- advances among deeds

-- no clock advances by this deed
abbrev pub IsNoAdvance : Deed → Type 0
IsNoAdvance d = is_advance d.part ≡ false

-- clock c advances by one of these deeds at most
abbrev AdvancesOnce : ℕ → List Deed → Type 0
AdvancesOnce c ds = (i j : ℕ) (d e : Deed) → i < j → slice_get ds i ≡ Some d → slice_get ds j ≡ Some e → d.part ≡ part.Advance c
    → e.part ≡ part.Advance c
    → ⊥

no_advance : (c : ℕ) (d : Deed) → IsNoAdvance d → d.part ≡ part.Advance c → ⊥
no_advance c d none is = true≢false (sym (ap is_advance is) ∙ none)

once_none : (c : ℕ) (ds : List Deed) → Every IsNoAdvance ds → AdvancesOnce c ds
once_none c ds none i j d e less at bt p q = no_advance c d (none i d at) p

once_few : (c : ℕ) (ds : List Deed) → length ds ≤ 1 → AdvancesOnce c ds
once_few c ds few i j d e less at bt p q = absurd (let k = slice_get_within ds j e bt in omega (arith, few, less, k))

-- those behind others that are no advances
once_behind : (c : ℕ) (xs ys : List Deed) → Every IsNoAdvance xs → AdvancesOnce c ys → AdvancesOnce c (xs ++ ys)
once_behind c xs ys none once i j d e less at bt p q = by (get_split xs ys i d at) (get_split xs ys j e bt)
  where
    by : ((i < length xs) × (slice_get xs i ≡ Some d)) ⊎ ((k : ℕ) × (i ≡ length xs + k) × (slice_get ys k ≡ Some d))
        → ((j < length xs) × (slice_get xs j ≡ Some e)) ⊎ ((k : ℕ) × (j ≡ length xs + k) × (slice_get ys k ≡ Some e))
        → ⊥
    by (inl f) g = no_advance c d (none i d f.1) p
    by (inr f) (inl g) = no_advance c e (none j e g.1) q
    by (inr f) (inr g) = once f.0 g.0 d e (let k = f.1 in let l = g.1 in omega (arith, less, k, l)) f.2 g.2 p q

-- each of these advances is that of the clock at its place
advance_at : (s : RunStep) (xs : List ℕ) (i c : ℕ) (d : Deed) → slice_get (flat_map (advance s) xs) i ≡ Some d → d.part ≡ part.Advance c
    → slice_get xs i ≡ Some c
advance_at s [] i c d at is = absurd (none-some d at)
advance_at s (x ∷ xs) zero c d at is = ap Some (same_clock x c (ap (λ (e : Deed). e.part) (same_Some (deed s (part.Advance x)) d at) ∙ is))
  where
    same_clock : (x c : ℕ) → part.Advance x ≡ part.Advance c → x ≡ c
    same_clock x c h = cc
advance_at s (x ∷ xs) (suc i) c d at is = advance_at s xs i c d at is

-- the advances of clocks that rise
rising_once : (c : ℕ) (s : RunStep) (xs : List ℕ) → IsRising xs → AdvancesOnce c (flat_map (advance s) xs)
rising_once c s xs rises i j d e less at bt p q =
    let f = advance_at s xs i c d at p in
    let g = advance_at s xs j c e bt q in
    let x = get_or_from_slice_get xs i c 0 f in
    let y = get_or_from_slice_get xs j c 0 g in
    let up = rising_far xs rises i j less (slice_get_within xs j c g) in
    absurd (omega (arith, up, x, y))

module _ (m : ModuleValue) (a : ℕ) (w v : World) where
  -- the step, as deeds tell of it
  abbrev of_step : Event → RunStep
  of_step e = run_step a w v e

  -- one at a clock, whatever its number
  abbrev IsClockPart : Event → Deed → Type 0
  IsClockPart e d = (d.step ≡ of_step e) × (at_clock d.part ≡ true) × Says m (of_step e) w v e 0 d.part

  awaited : Every (λ c. awaits w a c ≡ true) (awaiting w a)
  awaited = every_below (λ c. awaits w a c ≡ true) (λ c. if awaits w a c then c ∷ [] else []) (length w.clocks)
      (λ k. every_if (λ c. awaits w a c ≡ true) (awaits w a k) k (λ e. e))

  resumed : Every (λ c. has_resumed w a c ≡ true) (resumed_by w a)
  resumed = every_below (λ c. has_resumed w a c ≡ true) (λ c. if has_resumed w a c then c ∷ [] else []) (length w.clocks)
      (λ k. every_if (λ c. has_resumed w a c ≡ true) (has_resumed w a k) k (λ e. e))

  signals_parts : (e : Event) → is_pass e ≡ false → Every (IsClockPart e) (signals v (of_step e) (awaiting w a))
  signals_parts e not_pass =
      every_append (IsClockPart e) (flat_map (signal v (of_step e)) (awaiting w a)) (flat_map (advance (of_step e)) (advanced_now v))
      (every_flat (λ c. awaits w a c ≡ true) (IsClockPart e) (signal v (of_step e)) (awaiting w a) awaited
      (λ c is. every_if (IsClockPart e) (gives_way v a c) (deed (of_step e) (part.Signal c)) (λ h. (refl, refl, is))))
      (every_flat (λ c. has_advanced v c ≡ true) (IsClockPart e) (advance (of_step e)) (advanced_now v) (every_filter (has_advanced v) _)
      (λ c is. every_one (IsClockPart e) (deed (of_step e) (part.Advance c)) (refl, refl, (is, not_pass))))

  leaves_parts : (e : Event) → is_pass e ≡ false → Every (IsClockPart e) (leaves v (of_step e) (resumed_by w a) (awaiting w a))
  leaves_parts e not_pass =
      every_append (IsClockPart e) (flat_map (leave v (of_step e)) (resumed_by w a)) (signals v (of_step e) (awaiting w a))
      (every_flat (λ c. has_resumed w a c ≡ true) (IsClockPart e) (leave v (of_step e)) (resumed_by w a) resumed
      (λ c is. every_if (IsClockPart e) (has_left v a c) (deed (of_step e) (part.Leave c)) (λ h. (refl, refl, is))))
      (signals_parts e not_pass)

  -- each deed at a clock is one
  pub clock_parts : (e : Event) → Every (IsClockPart e) (at_clocks v (of_step e) (resumed_by w a) (awaiting w a) e)
  clock_parts event.Resumed = signals_parts event.Resumed refl
  clock_parts event.Dropped = leaves_parts event.Dropped refl
  clock_parts event.Arrived = signals_parts event.Arrived refl
  clock_parts event.Passed =
      every_flat (λ c. awaits w a c ≡ true) (IsClockPart event.Passed) (pass (of_step event.Passed)) (awaiting w a) awaited
      (λ c is. every_one (IsClockPart event.Passed) (deed (of_step event.Passed) (part.Pass c)) (refl, refl, (refl, is)))
  clock_parts event.Ended = leaves_parts event.Ended refl
  clock_parts event.Local = every_none (IsClockPart event.Local)
  clock_parts (event.Printed n) = every_none (IsClockPart (event.Printed n))
  clock_parts event.Made = every_none (IsClockPart event.Made)
  clock_parts event.Got = every_none (IsClockPart event.Got)
  clock_parts event.Put = every_none (IsClockPart event.Put)
  clock_parts event.Added = every_none (IsClockPart event.Added)
  clock_parts event.Opened = every_none (IsClockPart event.Opened)
  clock_parts event.Closed = every_none (IsClockPart event.Closed)
  clock_parts event.Spawned = every_none (IsClockPart event.Spawned)

  none_parts : (e : Event) → Each (IsPart m (of_step e) w v e) []
  none_parts e i d h = absurd (none-some d h)

  one_part : (e : Event) (p : Part) → Says m (of_step e) w v e 0 p → Each (IsPart m (of_step e) w v e) (deed (of_step e) p ∷ [])
  one_part e p says = each_one (IsPart m (of_step e) w v e) (deed (of_step e) p) (refl, says)

  plain_parts : (e : Event) → Each (IsPart m (of_step e) w v e) (plain m (of_step e))
  plain_parts event.Local = none_parts event.Local
  plain_parts (event.Printed n) = one_part (event.Printed n) part.Print tt
  plain_parts event.Made = none_parts event.Made
  plain_parts event.Got = one_part event.Got (part.Access (cell_at m (of_step event.Got))) tt
  plain_parts event.Put = one_part event.Put (part.Access (cell_at m (of_step event.Put))) tt
  plain_parts event.Added = one_part event.Added (part.Access (cell_at m (of_step event.Added))) tt
  plain_parts event.Opened = one_part event.Opened part.Open tt
  plain_parts event.Closed = one_part event.Closed part.Close (refl, refl)
  plain_parts event.Spawned = one_part event.Spawned (part.Start (length w.activities)) (refl, refl)
  plain_parts event.Resumed = none_parts event.Resumed
  plain_parts event.Dropped = none_parts event.Dropped
  plain_parts event.Arrived = none_parts event.Arrived
  plain_parts event.Passed = none_parts event.Passed
  plain_parts event.Ended = one_part event.Ended part.End (refl, refl)

  -- at a clock the number doesn't count
  any_number : (e : Event) (i : ℕ) (p : Part) → at_clock p ≡ true → Says m (of_step e) w v e 0 p → Says m (of_step e) w v e i p
  any_number e i (part.Signal c) h says = says
  any_number e i (part.Leave c) h says = says
  any_number e i (part.Advance c) h says = says
  any_number e i (part.Pass c) h says = says
  any_number e i (part.Start b) h says = absurd (true≢false (sym h))
  any_number e i part.Open h says = absurd (true≢false (sym h))
  any_number e i part.Close h says = absurd (true≢false (sym h))
  any_number e i part.End h says = absurd (true≢false (sym h))
  any_number e i (part.Access x) h says = absurd (true≢false (sym h))
  any_number e i part.Print h says = absurd (true≢false (sym h))

  -- each deed of a step
  parts_of : (e : Event) → Each (IsPart m (of_step e) w v e) (tell_deeds m a w v e)
  parts_of e i d h = by (get_split (plain m (of_step e)) (at_clocks v (of_step e) (resumed_by w a) (awaiting w a) e) i d h)
    where
      by : ((i < length (plain m (of_step e))) × (slice_get (plain m (of_step e)) i ≡ Some d))
          ⊎ ((j : ℕ) × (i ≡ length (plain m (of_step e)) + j) × (slice_get (at_clocks v (of_step e) (resumed_by w a) (awaiting w a) e) j ≡ Some d))
          → IsPart m (of_step e) w v e i d
      by (inl p) = plain_parts e i d p.1
      by (inr p) = let q = clock_parts e p.0 d p.2 in (q.0, any_number e i d.part q.1 q.2)

  -- ---- one advance

  signals_once : (e : Event) (c : ℕ) → AdvancesOnce c (signals v (of_step e) (awaiting w a))
  signals_once e c =
      once_behind c (flat_map (signal v (of_step e)) (awaiting w a)) (flat_map (advance (of_step e)) (advanced_now v))
      (every_flat (λ k. Unit {0}) IsNoAdvance (signal v (of_step e)) (awaiting w a) (λ i k at. tt)
      (λ k u. every_if IsNoAdvance (gives_way v a k) (deed (of_step e) (part.Signal k)) (λ h. refl)))
      (rising_once c (of_step e) (advanced_now v) (filter_rises (has_advanced v) (length v.clocks)))

  leaves_once : (e : Event) (c : ℕ) → AdvancesOnce c (leaves v (of_step e) (resumed_by w a) (awaiting w a))
  leaves_once e c =
      once_behind c (flat_map (leave v (of_step e)) (resumed_by w a)) (signals v (of_step e) (awaiting w a))
      (every_flat (λ k. Unit {0}) IsNoAdvance (leave v (of_step e)) (resumed_by w a) (λ i k at. tt)
      (λ k u. every_if IsNoAdvance (has_left v a k) (deed (of_step e) (part.Leave k)) (λ h. refl)))
      (signals_once e c)

  -- in a step a clock advances once
  pub advances_once : (e : Event) (c : ℕ) → AdvancesOnce c (tell_deeds m a w v e)
  advances_once event.Resumed c = signals_once event.Resumed c
  advances_once event.Arrived c = signals_once event.Arrived c
  advances_once event.Dropped c = leaves_once event.Dropped c
  advances_once event.Ended c =
      once_behind c (deed (of_step event.Ended) part.End ∷ []) (leaves v (of_step event.Ended) (resumed_by w a) (awaiting w a))
      (every_one IsNoAdvance (deed (of_step event.Ended) part.End) refl) (leaves_once event.Ended c)
  advances_once event.Passed c =
      once_none c (flat_map (pass (of_step event.Passed)) (awaiting w a))
      (every_flat (λ k. Unit {0}) IsNoAdvance (pass (of_step event.Passed)) (awaiting w a) (λ i k at. tt)
      (λ k u. every_one IsNoAdvance (deed (of_step event.Passed) (part.Pass k)) refl))
  advances_once event.Local c = once_few c (tell_deeds m a w v event.Local) (omega arith)
  advances_once (event.Printed n) c = once_few c (tell_deeds m a w v (event.Printed n)) (omega arith)
  advances_once event.Made c = once_few c (tell_deeds m a w v event.Made) (omega arith)
  advances_once event.Got c = once_few c (tell_deeds m a w v event.Got) (omega arith)
  advances_once event.Put c = once_few c (tell_deeds m a w v event.Put) (omega arith)
  advances_once event.Added c = once_few c (tell_deeds m a w v event.Added) (omega arith)
  advances_once event.Opened c = once_few c (tell_deeds m a w v event.Opened) (omega arith)
  advances_once event.Closed c = once_few c (tell_deeds m a w v event.Closed) (omega arith)
  advances_once event.Spawned c = once_few c (tell_deeds m a w v event.Spawned) (omega arith)

-- ---- a turn

-- a deed that is told of it is one of its step
pub part_is : (m : ModuleValue) (w : World) (s : List ℕ) (t : Turn m w s) (k : ℕ) (d : Deed) (r : IsToldOf m w s t k d)
    → IsPart m (run_step t.act t.here t.there t.e) t.here t.there t.e r.offset d
part_is m w s t k d r = parts_of m t.act t.here t.there t.e r.offset d r.among
