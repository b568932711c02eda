-- Which deeds are told of a step at clocks: of each clock that gave way, or was left behind a resume, and behind those of each that advanced;
-- and of each clock that is passed.
use Rattle.std.proofs.Common.{◌≡◌, ℕ, zero, suc, ◌+◌, ◌<◌, ◌≤◌, ◌==◌, ◌⊎◌, inl, inr, Bool, true, false, true≢false, List, [], ◌∷◌, ◌++◌}
use Rattle.std.proofs.Common.{length, Some, None, Option, refl, sym, ap, ◌∙◌, subst, arith}
use Rattle.std.specs.Prelude.{slice_get, flat_map, filter, nat_lt, ◌&&◌, if◌then◌else◌}
use Rattle.std.specs.Option.{option_map_or}
use Rattle.std.proofs.lemmas.Bool.{and_parts, cases_eq}
use Rattle.std.proofs.lemmas.Option.{none-some, same_Some, slice_get_within}
use Rattle.xk_types.specs.declared.world.Standing.{Standing}
use Rattle.xk_types.specs.declared.world.Event.{Event}
use Rattle.xk_types.specs.declared.world.Event.TheVariants as event
use Rattle.xk_types.specs.Code.{ModuleValue}
use Rattle.xk_types.specs.World.{Clock, World, standing_of}
use Rattle.xk_types.specs.Step.{is_pending, is_signalled}
use Rattle.xk_types.proofs.ListLemmas.{get-append_left}
use Rattle.xk_collections.specs.NumberSets.{numbers_from}
use Rattle.xk_core.specs.Core.{advanced_now, has_advanced}
use Rattle.xk_show_events.specs.declared.steps.RunStep.{RunStep}
use Rattle.xk_show_events.specs.Worlds.{those_below}
use Rattle.xk_show_events.specs.Steps.{run_step}
use Rattle.xk_races.specs.declared.deeds.Deed.{Deed}
use Rattle.xk_races.specs.declared.deeds.Part.{Part}
use Rattle.xk_races.specs.declared.deeds.Part.TheVariants as part
use Rattle.xk_races.specs.Deeds.{awaits, awaiting, gives_way, has_resumed, resumed_by, has_left, deed, signal, leave, advance, pass}
use Rattle.xk_races.specs.Deeds.{signals, leaves, tell_deeds}
use Rattle.xk_law_races.proofs.TurnLemmas.{get_split, get_right}
use Rattle.xk_closed.proofs.ClockStepLemmas.{lets_go, leaves_clocks}
use Rattle.xk_law_races.proofs.DeedPartLemmas.{Every, every_one, every_flat, every_if, is_advance, IsNoAdvance}

-- ---- lists

-- the list has it
abbrev IsIn : {X : Type 0} → List X → X → Type 0
IsIn xs x = (i : ℕ) × (slice_get xs i ≡ Some x)

in_left : {X : Type 0} (xs ys : List X) (x : X) → IsIn xs x → IsIn (xs ++ ys) x
in_left xs ys x h = (h.0, get-append_left xs ys h.0 x h.1)

in_right : {X : Type 0} (xs ys : List X) (x : X) → IsIn ys x → IsIn (xs ++ ys) x
in_right xs ys x h = (length xs + h.0, get_right xs ys h.0 ∙ h.1)

in_one : {X : Type 0} (x : X) → IsIn (x ∷ []) x
in_one x = (0, refl)

in_if : {X : Type 0} (b : Bool) (x : X) → b ≡ true → IsIn (if b then x ∷ [] else []) x
in_if true x h = in_one x
in_if false x h = absurd (true≢false (sym h))

in_flat : {X Y : Type 0} (f : X → List Y) (xs : List X) (x : X) (y : Y) → IsIn xs x → IsIn (f x) y → IsIn (flat_map f xs) y
in_flat f [] x y h g = absurd (none-some x h.1)
in_flat f (z ∷ xs) x y (zero, at) g = in_left (f z) (flat_map f xs) y (subst (λ v. IsIn (f v) y) (sym (same_Some z x at)) g)
in_flat f (z ∷ xs) x y (suc i, at) g = in_right (f z) (flat_map f xs) y (in_flat f xs x y (i, at) g)

in_below : (test : ℕ → Bool) (n c : ℕ) → c < n → test c ≡ true → IsIn (those_below test n) c
in_below test zero c less h = absurd (omega (arith, less))
in_below test (suc n) c less h = by (cases_eq c n) (λ fewer. in_below test n c fewer h)
  where
    by : (c ≡ n) ⊎ (c ≡ n → ⊥) → (c < n → IsIn (those_below test n) c) → IsIn (those_below test (suc n)) c
    by (inl is) rest =
        in_right (those_below test n) (if test n then n ∷ [] else []) c
        (subst (λ k. IsIn (if test n then n ∷ [] else []) k) (sym is) (in_if (test n) n (ap test (sym is) ∙ h)))
    by (inr differs) rest = in_left (those_below test n) (if test n then n ∷ [] else []) c (rest (omega (arith, less, differs)))

in_filter : (test : ℕ → Bool) (xs : List ℕ) (c : ℕ) → IsIn xs c → test c ≡ true → IsIn (filter test xs) c
in_filter test [] c h passes = absurd (none-some c h.1)
in_filter test (x ∷ xs) c (zero, at) passes = by (test x) (ap test (same_Some x c at) ∙ passes)
  where
    by : (b : Bool) → b ≡ true → IsIn (if b then x ∷ filter test xs else filter test xs) c
    by true h = (0, at)
    by false h = absurd (true≢false (sym h))
in_filter test (x ∷ xs) c (suc i, at) passes = by (test x) (in_filter test xs c (i, at) passes)
  where
    by : (b : Bool) → IsIn (filter test xs) c → IsIn (if b then x ∷ filter test xs else filter test xs) c
    by true h = (suc h.0, h.1)
    by false h = h

in_numbers : (a n c : ℕ) → a ≤ c → c < a + n → IsIn (numbers_from a n) c
in_numbers a zero c from below = absurd (omega (arith, from, below))
in_numbers a (suc n) c from below = by (cases_eq a c) (λ more. in_numbers (suc a) n c more (omega (arith, below)))
  where
    by : (a ≡ c) ⊎ (a ≡ c → ⊥) → (a < c → IsIn (numbers_from (suc a) n) c) → IsIn (numbers_from a (suc n)) c
    by (inl is) rest = (0, ap Some is)
    by (inr differs) rest = let h = rest (omega (arith, from, differs)) in (suc h.0, h.1)

-- ---- clocks

-- where one stands so on a clock, there is one of that number
there_is : (test : Standing → Bool) (w : World) (a c : ℕ)
    → (nat_lt a (length w.activities) && option_map_or (λ (k : Clock). test (standing_of k a)) (slice_get w.clocks c) false) ≡ true
    → c < length w.clocks
there_is test w a c h =
    by (slice_get w.clocks c) refl
    (and_parts (nat_lt a (length w.activities)) (option_map_or (λ (k : Clock). test (standing_of k a)) (slice_get w.clocks c) false) h).1
  where
    by : (o : Option Clock) → slice_get w.clocks c ≡ o → option_map_or (λ (k : Clock). test (standing_of k a)) o false ≡ true
        → c < length w.clocks
    by None at g = absurd (true≢false (sym g))
    by (Some k) at g = slice_get_within w.clocks c k at

advanced_there : (v : World) (c : ℕ) → has_advanced v c ≡ true → IsIn (advanced_now v) c
advanced_there v c h =
    in_filter (has_advanced v) (numbers_from 0 (length v.clocks)) c
    (in_numbers 0 (length v.clocks) c (omega arith) (by (slice_get v.clocks c) refl h)) h
  where
    by : (o : Option Clock) → slice_get v.clocks c ≡ o → option_map_or (λ (k : Clock). k.last == v.steps) o false ≡ true
        → c < 0 + length v.clocks
    by None at g = absurd (true≢false (sym g))
    by (Some k) at g = let less = slice_get_within v.clocks c k at in omega (arith, less)

-- ---- an advance stands behind what led to it

-- among these deeds each advance stands behind all that are none
abbrev AdvancesLast : List Deed → Type 0
AdvancesLast ds = (i j : ℕ) (d e : Deed) → slice_get ds i ≡ Some d → slice_get ds j ≡ Some e → is_advance d.part ≡ false
    → is_advance e.part ≡ true
    → i < j

last_all : (ds : List Deed) → Every (λ d. is_advance d.part ≡ true) ds → AdvancesLast ds
last_all ds every i j d e at bt p q = absurd (true≢false (sym (every i d at) ∙ p))

last_behind : (xs ys : List Deed) → Every IsNoAdvance xs → AdvancesLast ys → AdvancesLast (xs ++ ys)
last_behind xs ys none last i j d e at bt p q = by (get_split xs ys i d at) (get_split xs ys j e bt)
  where
    by : ((i < length xs) × (slice_get xs i ≡ Some d)) ⊎ ((k : ℕ) × (i ≡ length xs + k) × (slice_get ys k ≡ Some d))
        → ((j < length xs) × (slice_get xs j ≡ Some e)) ⊎ ((k : ℕ) × (j ≡ length xs + k) × (slice_get ys k ≡ Some e))
        → i < j
    by f (inl g) = absurd (true≢false (sym q ∙ none j e g.1))
    by (inl f) (inr g) = let less = f.0 in let k = g.1 in omega (arith, less, k)
    by (inr f) (inr g) = let less = last f.0 g.0 d e f.2 g.2 p q in let k = f.1 in let l = g.1 in omega (arith, less, k, l)

-- ---- a step

module _ (m : ModuleValue) (a : ℕ) (w v : World) where
  abbrev of_step : Event → RunStep
  of_step e = run_step a w v e

  -- a deed with this part is told of it
  abbrev pub IsTold : Event → Part → Type 0
  IsTold e p = IsIn (tell_deeds m a w v e) (deed (of_step e) p)

  in_signals : (e : Event) (c : ℕ) → awaits w a c ≡ true → gives_way v a c ≡ true
      → IsIn (signals v (of_step e) (awaiting w a)) (deed (of_step e) (part.Signal c))
  in_signals e c waits gives =
      in_left (flat_map (signal v (of_step e)) (awaiting w a)) (flat_map (advance (of_step e)) (advanced_now v))
      (deed (of_step e) (part.Signal c))
      (in_flat (signal v (of_step e)) (awaiting w a) c (deed (of_step e) (part.Signal c))
      (in_below (awaits w a) (length w.clocks) c (there_is is_pending w a c waits) waits)
      (in_if (gives_way v a c) (deed (of_step e) (part.Signal c)) gives))

  in_advances : (e : Event) (c : ℕ) → has_advanced v c ≡ true
      → IsIn (signals v (of_step e) (awaiting w a)) (deed (of_step e) (part.Advance c))
  in_advances e c advances =
      in_right (flat_map (signal v (of_step e)) (awaiting w a)) (flat_map (advance (of_step e)) (advanced_now v))
      (deed (of_step e) (part.Advance c))
      (in_flat (advance (of_step e)) (advanced_now v) c (deed (of_step e) (part.Advance c)) (advanced_there v c advances)
      (in_one (deed (of_step e) (part.Advance c))))

  in_leaves : (e : Event) (c : ℕ) → has_resumed w a c ≡ true → has_left v a c ≡ true
      → IsIn (leaves v (of_step e) (resumed_by w a) (awaiting w a)) (deed (of_step e) (part.Leave c))
  in_leaves e c resumes left =
      in_left (flat_map (leave v (of_step e)) (resumed_by w a)) (signals v (of_step e) (awaiting w a)) (deed (of_step e) (part.Leave c))
      (in_flat (leave v (of_step e)) (resumed_by w a) c (deed (of_step e) (part.Leave c))
      (in_below (has_resumed w a) (length w.clocks) c (there_is is_signalled w a c resumes) resumes)
      (in_if (has_left v a c) (deed (of_step e) (part.Leave c)) left))

  -- what is told of signals and advances is told
  signals_told : (e : Event) (p : Part) → lets_go e ≡ true → IsIn (signals v (of_step e) (awaiting w a)) (deed (of_step e) p) → IsTold e p
  signals_told event.Resumed p goes h = h
  signals_told event.Arrived p goes h = h
  signals_told event.Dropped p goes h =
      in_right (flat_map (leave v (of_step event.Dropped)) (resumed_by w a)) (signals v (of_step event.Dropped) (awaiting w a))
      (deed (of_step event.Dropped) p) h
  signals_told event.Ended p goes h =
      in_right (deed (of_step event.Ended) part.End ∷ []) (leaves v (of_step event.Ended) (resumed_by w a) (awaiting w a))
      (deed (of_step event.Ended) p)
      (in_right (flat_map (leave v (of_step event.Ended)) (resumed_by w a)) (signals v (of_step event.Ended) (awaiting w a))
      (deed (of_step event.Ended) p) h)
  signals_told _ p goes h = absurd (true≢false (sym goes))

  pub signal_told : (e : Event) (c : ℕ) → lets_go e ≡ true → awaits w a c ≡ true → gives_way v a c ≡ true → IsTold e (part.Signal c)
  signal_told e c goes waits gives = signals_told e (part.Signal c) goes (in_signals e c waits gives)

  pub advance_told : (e : Event) (c : ℕ) → lets_go e ≡ true → has_advanced v c ≡ true → IsTold e (part.Advance c)
  advance_told e c goes advances = signals_told e (part.Advance c) goes (in_advances e c advances)

  pub leave_told : (e : Event) (c : ℕ) → leaves_clocks e ≡ true → has_resumed w a c ≡ true → has_left v a c ≡ true → IsTold e (part.Leave c)
  leave_told event.Dropped c goes resumes left = in_leaves event.Dropped c resumes left
  leave_told event.Ended c goes resumes left =
      in_right (deed (of_step event.Ended) part.End ∷ []) (leaves v (of_step event.Ended) (resumed_by w a) (awaiting w a))
      (deed (of_step event.Ended) (part.Leave c)) (in_leaves event.Ended c resumes left)
  leave_told _ c goes resumes left = absurd (true≢false (sym goes))

  pub pass_told : (c : ℕ) → awaits w a c ≡ true → IsTold event.Passed (part.Pass c)
  pass_told c waits =
      in_flat (pass (of_step event.Passed)) (awaiting w a) c (deed (of_step event.Passed) (part.Pass c))
      (in_below (awaits w a) (length w.clocks) c (there_is is_pending w a c waits) waits)
      (in_one (deed (of_step event.Passed) (part.Pass c)))

  -- ---- their order

  signals_last : (e : Event) → AdvancesLast (signals v (of_step e) (awaiting w a))
  signals_last e =
      last_behind (flat_map (signal v (of_step e)) (awaiting w a)) (flat_map (advance (of_step e)) (advanced_now v))
      (every_flat (λ k. Unit {0}) IsNoAdvance (signal v (of_step e)) (awaiting w a) (λ i k at. tt)
      (λ k u. every_if IsNoAdvance (gives_way v a k) (deed (of_step e) (part.Signal k)) (λ h. refl)))
      (last_all (flat_map (advance (of_step e)) (advanced_now v))
      (every_flat (λ k. Unit {0}) (λ d. is_advance d.part ≡ true) (advance (of_step e)) (advanced_now v) (λ i k at. tt)
      (λ k u. every_one (λ d. is_advance d.part ≡ true) (deed (of_step e) (part.Advance k)) refl)))

  leaves_last : (e : Event) → AdvancesLast (leaves v (of_step e) (resumed_by w a) (awaiting w a))
  leaves_last e =
      last_behind (flat_map (leave v (of_step e)) (resumed_by w a)) (signals v (of_step e) (awaiting w a))
      (every_flat (λ k. Unit {0}) IsNoAdvance (leave v (of_step e)) (resumed_by w a) (λ i k at. tt)
      (λ k u. every_if IsNoAdvance (has_left v a k) (deed (of_step e) (part.Leave k)) (λ h. refl)))
      (signals_last e)

  -- in a step by which clocks are let go, advances come last
  pub advances_last : (e : Event) → lets_go e ≡ true → AdvancesLast (tell_deeds m a w v e)
  advances_last event.Resumed goes = signals_last event.Resumed
  advances_last event.Arrived goes = signals_last event.Arrived
  advances_last event.Dropped goes = leaves_last event.Dropped
  advances_last event.Ended goes =
      last_behind (deed (of_step event.Ended) part.End ∷ []) (leaves v (of_step event.Ended) (resumed_by w a) (awaiting w a))
      (every_one IsNoAdvance (deed (of_step event.Ended) part.End) refl) (leaves_last event.Ended)
  advances_last _ goes = absurd (true≢false (sym goes))
