-- Where one run has no race, each run has its span.
use Rattle.std.proofs.Common.{◌≡◌, ◌∙◌, ℕ, ℤ, zero, suc, ◌<◌, ◌⊎◌, inl, inr, List, [], ◌∷◌, length, map, refl, ap, sym, subst, arith}
use Rattle.std.proofs.lemmas.Bool.{cases_lt}
use Rattle.std.proofs.lemmas.List.{length-map}
use Rattle.std.proofs.lemmas.Option.{same_Some, slice_get_within}
use Rattle.xk_types.specs.declared.world.Event.TheVariants as event
use Rattle.xk_types.specs.Acceptance.{IsAccepted}
use Rattle.xk_types.specs.Code.{ModuleValue, IsWithinLimits}
use Rattle.xk_types.specs.World.{World, AreArguments, opening}
use Rattle.xk_types.specs.Schedule.{IsReached}
use Rattle.xk_law_schedules.proofs.ReachabilityLemmas.{opening_reached}
use Rattle.xk_law_commute.proofs.ChangeSquareLemmas.{found_of}
use Rattle.xk_law_traces.specs.Classes.{AreOneClass, name_in}
use Rattle.xk_law_traces.specs.Edges.{StepName, IsCause, IsStart, IsTaken, turns_of}
use Rattle.xk_law_traces.specs.OneRun.{IsWholeRun}
use Rattle.xk_law_traces.specs.RaceFreedom.{HasNoRace}
use Rattle.xk_law_traces.proofs.ClassLemmas.{class_as_well, main_stays, met_by}
use Rattle.xk_law_traces.proofs.SwapLemmas.{Deed, deed_of}
use Rattle.xk_law_rounds.specs.Rounds.{AreGreedy, HasChainBy, HasNoLongerBy, HaveSameRounds, IsChainBy, IsSpan, steps_in}
use Rattle.xk_law_rounds.proofs.ClassCauseLaw.{cause_there, deed_at, start_there, start_turn}
use Rattle.xk_law_rounds.proofs.CompleteLaw.{inside_before}
use Rattle.xk_law_rounds.proofs.IdleLemmas.{IsStartedOn, started_on}
use Rattle.xk_law_rounds.proofs.RoundLaw.{same_turns, whole_member}
use Rattle.xk_law_rounds.proofs.SpanLaw.{greedy_itself}

-- ---- a chain in another schedule of the class

module _ (m : ModuleValue) (args : List ℤ) (limits : IsWithinLimits m) (ok : IsAccepted m) (taken : AreArguments m args)
    (s : List ℕ) (z : World) (one : IsWholeRun m args s z) (t : List ℕ) (member : AreOneClass m (opening m args) s t) where
  abbrev w : World
  w = opening m args

  -- a step by its name there
  abbrev there : StepName → StepName
  there x = (name_in member x.0, x.1)

  taken_there : (x : StepName) → IsTaken s x → IsTaken t (there x)
  taken_there x h = let n = same_turns m args limits ok taken s t z one member x.0 in omega (arith, n, h)

  chain_there : (y : StepName) (xs : List StepName) → IsChainBy (IsCause m w s) y xs → IsChainBy (IsCause m w t) (there y) (map there xs)
  chain_there y [] h = refl
  chain_there y (x ∷ xs) h = (by h.0, chain_there x xs h.1)
    where
      by : IsCause m w s x y ⊎ ((x.0 ≡ y.0) × (x.1 < y.1))
          → IsCause m w t (there x) (there y) ⊎ ((name_in member x.0 ≡ name_in member y.0) × (x.1 < y.1))
      by (inl cause) = inl (cause_there m args limits ok taken s z one t member x y cause)
      by (inr own) = inr (ap (name_in member) own.0, own.1)

-- ---- spans

-- a span is that of another schedule of the class, which has this one in its class, too
span_there : (m : ModuleValue) (args : List ℤ) → IsWithinLimits m → IsAccepted m → AreArguments m args
    → (s t : List ℕ) (z y : World) → IsWholeRun m args s z → IsWholeRun m args t y
    → AreOneClass m (opening m args) s t → AreOneClass m (opening m args) t s
    → (n : ℕ) → IsSpan m (opening m args) s n → IsSpan m (opening m args) t n
span_there m args limits ok taken s t z y one other member back n span = record { reached = by span.reached; most = most }
  where
    by : HasChainBy (IsCause m (opening m args) s) s n → HasChainBy (IsCause m (opening m args) t) t n
    by (inl none) = inl none
    by (inr c) = inr (
      (name_in member c.0.0, c.0.1),
      map (λ (x : StepName). (name_in member x.0, x.1)) c.1,
      chain_there m args limits ok taken s z one t member c.0 c.1 c.2,
      taken_there m args limits ok taken s z one t member c.0 c.3,
      ap suc (length-map {B = StepName} c.1 (λ (x : StepName). (name_in member x.0, x.1))) ∙ c.4,
    )

    most : HasNoLongerBy (IsCause m (opening m args) t) t n
    most x xs chain here =
        let a = span.most (name_in back x.0, x.1) (map (λ (x : StepName). (name_in back x.0, x.1)) xs)
        (chain_there m args limits ok taken t y other s back x xs chain) (taken_there m args limits ok taken t y other s back x here) in
        let l = length-map {B = StepName} xs (λ (x : StepName). (name_in back x.0, x.1)) in
        omega (arith, a, l)

-- ---- numbers there and back

module _ (m : ModuleValue) (args : List ℤ) (limits : IsWithinLimits m) (ok : IsAccepted m) (taken : AreArguments m args)
    (s t : List ℕ) (z y : World) (one : IsWholeRun m args s z) (other : IsWholeRun m args t y)
    (member : AreOneClass m (opening m args) s t) (back : AreOneClass m (opening m args) t s) where
  abbrev start : World
  start = opening m args

  reached : IsReached m start
  reached = opening_reached m args taken

  -- a step starts one activity
  one_child : (x : StepName) (a b : ℕ) → IsStart m start s x (a, 0) → IsStart m start s x (b, 0) → a ≡ b
  one_child x a b f g =
      let p = deed_at m start s x.0 x.1 (start_turn m start s x (a, 0) f) in
      let q = deed_at m start s x.0 x.1 (start_turn m start s x (b, 0) g) in
      let same = same_Some (deed_of f.here x.0 event.Spawned) (deed_of g.here x.0 event.Spawned) (sym p ∙ q) in
      f.child
      ∙ same_Some (length f.here.activities) (length g.here.activities) (ap (λ (d : Deed). d.2) same)
      ∙ sym g.child

  main_there : name_in member 0 ≡ 0
  main_there = main_stays m limits ok start reached s t z member one.legal

  -- whoever is there has its own number, there and back
  same_number : (n c : ℕ) → c < n → c < length z.activities → name_in back (name_in member c) ≡ c
  same_number zero c less inside = absurd (omega (arith, less))
  same_number (suc n) zero less inside =
      ap (name_in back) main_there ∙ main_stays m limits ok start reached t s y back other.legal
  same_number (suc n) (suc j) less inside =
      by (started_on m s start z (suc j) one.legal (omega arith) inside) (λ a below there. same_number n a below there)
    where
      by : IsStartedOn m s start (suc j)
          → ((a : ℕ) → a < n → a < length z.activities → name_in back (name_in member a) ≡ a)
          → name_in back (name_in member (suc j)) ≡ suc j
      by r smaller =
          let k : ℕ = turns_of r.who r.front in
          let f : IsStart m start s (r.who, k) (suc j, 0) = record {
            before = r.front;
            after = r.back;
            here = r.here;
            there = r.there;
            whole = r.whole;
            leads = r.leads;
            turn = refl;
            starts = r.starts;
            child = r.wide;
            first = refl;
          } in
          let g = start_there m args limits ok taken s z one t member (r.who, k) (suc j, 0) f in
          let h = start_there m args limits ok taken t y other s back (name_in member r.who, k) (name_in member (suc j), 0) g in
          let x = found_of m r.here r.who r.there event.Spawned r.starts in
          let lower = slice_get_within r.here.activities r.who x.0 x.1 in
          let wide = r.wide in
          let same = smaller r.who (omega (arith, lower, wide, less)) (omega (arith, lower, wide, inside)) in
          one_child (r.who, k) (name_in back (name_in member (suc j))) (suc j)
          (subst (λ a. IsStart m start s (a, k) (name_in back (name_in member (suc j)), 0)) same h) f

  once : (x : StepName) → IsTaken s x → name_in back (name_in member x.0) ≡ x.0
  once x h = same_number (suc x.0) x.0 (omega arith) (elim (cases_lt x.0 (length z.activities)) [
    | inl less ↦ less
    | inr above ↦ absurd (let none = inside_before m s start z x.0 one.legal above in omega (arith, none, h))
  ])

  -- each step comes in the same round
  rounds_there : HaveSameRounds m start s t
  rounds_there = record {
    names = name_in member;
    back = name_in back;
    once = once;
    main = main_there;
    starts = (class_as_well m limits ok start z reached s t member one.legal).starts;
    rounds = λ x n r. record {
      taken = taken_there m args limits ok taken s z one t member x r.taken;
      chain = map (λ (u : StepName). (name_in member u.0, u.1)) r.chain;
      caused = chain_there m args limits ok taken s z one t member x r.chain r.caused;
      long = ap suc (length-map {B = StepName} r.chain (λ (u : StepName). (name_in member u.0, u.1))) ∙ r.long;
      most = λ xs chain.
          (let c = chain_there m args limits ok taken t y other s back (name_in member x.0, x.1) xs chain in
          let a = r.most (map (λ (u : StepName). (name_in back u.0, u.1)) xs)
          (subst (λ b. IsChainBy (IsCause m start s) (b, x.1) (map (λ (u : StepName). (name_in back u.0, u.1)) xs)) (once x r.taken) c) in
          let l = length-map {B = StepName} xs (λ (u : StepName). (name_in back u.0, u.1)) in
          omega (arith, a, l));
    };
  }

-- ---- the laws

-- two whole runs, one of which has no race, are each in the class of the other
module _ (m : ModuleValue) (args : List ℤ) (limits : IsWithinLimits m) (ok : IsAccepted m) (taken : AreArguments m args)
    (s t : List ℕ) (z y : World) (one : IsWholeRun m args s z) (free : HasNoRace m (opening m args) s) (other : IsWholeRun m args t y) where
  member : AreOneClass m (opening m args) s t
  member = whole_member m args limits ok taken s t z y one free other

  back : AreOneClass m (opening m args) t s
  back = whole_member m args limits ok taken t s y z other
      (λ v met. free v (met_by m (opening m args) v s t member met)) one

pub same_rounds : (m : ModuleValue) (args : List ℤ) (s t : List ℕ) (z y : World)
    → IsWithinLimits m → IsAccepted m → AreArguments m args
    → IsWholeRun m args s z → IsWholeRun m args t y → HasNoRace m (opening m args) s
    → HaveSameRounds m (opening m args) s t
same_rounds m args s t z y limits ok taken one other free =
    rounds_there m args limits ok taken s t z y one other (member m args limits ok taken s t z y one free other)
    (back m args limits ok taken s t z y one free other)

-- and there and back each step has its own name again
pub both_rounds : (m : ModuleValue) (args : List ℤ) (s t : List ℕ) (z y : World)
    → IsWithinLimits m → IsAccepted m → AreArguments m args
    → IsWholeRun m args s z → IsWholeRun m args t y → HasNoRace m (opening m args) s
    → (there : HaveSameRounds m (opening m args) s t) × (back : HaveSameRounds m (opening m args) t s)
    × (back.back ≡ there.names) × (there.back ≡ back.names)
unfolding rounds_there
both_rounds m args s t z y limits ok taken one other free =
    let a = member m args limits ok taken s t z y one free other in
    let b = back m args limits ok taken s t z y one free other in
    (rounds_there m args limits ok taken s t z y one other a b, rounds_there m args limits ok taken t s y z other one b a, refl, refl)

pub every_span : (m : ModuleValue) (args : List ℤ) (s t : List ℕ) (z y : World) (n : ℕ)
    → IsWithinLimits m → IsAccepted m → AreArguments m args
    → IsWholeRun m args s z → HasNoRace m (opening m args) s → IsWholeRun m args t y
    → IsSpan m (opening m args) s n → IsSpan m (opening m args) t n
every_span m args s t z y n limits ok taken one free other span =
    span_there m args limits ok taken s t z y one other (member m args limits ok taken s t z y one free other)
    (back m args limits ok taken s t z y one free other) n span

pub greedy : (m : ModuleValue) (args : List ℤ) (s : List ℕ) (z y : World) (rounds : List (List ℕ))
    → IsWithinLimits m → IsAccepted m → AreArguments m args
    → IsWholeRun m args s z → HasNoRace m (opening m args) s
    → AreGreedy m (opening m args) rounds y → IsWholeRun m args (steps_in rounds) y
    → IsSpan m (opening m args) s (length rounds)
greedy m args s z y rounds limits ok taken one free all other =
    span_there m args limits ok taken (steps_in rounds) s y z other one
    (back m args limits ok taken s (steps_in rounds) z y one free other)
    (member m args limits ok taken s (steps_in rounds) z y one free other)
    (length rounds) (greedy_itself m args y rounds limits ok taken all other)
