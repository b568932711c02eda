-- How many rounds a run takes at least.
use Rattle.std.proofs.Common.{◌≡◌, ◌∙◌, ℕ, ℤ, suc, ◌+◌, ◌<◌, ◌≤◌, ◌⊎◌, inl, inr, true, List, [], ◌∷◌, ◌++◌, length, map, refl}
use Rattle.std.proofs.Common.{sym, ap, subst, arith, append_assoc, length-append}
use Rattle.std.proofs.lemmas.Bool.{cases_lt}
use Rattle.std.proofs.lemmas.List.{append-nil, length-map}
use Rattle.xk_types.specs.Acceptance.{IsAccepted}
use Rattle.xk_types.specs.Code.{ModuleValue, IsWithinLimits}
use Rattle.xk_types.specs.World.{World, AreArguments, opening}
use Rattle.xk_types.specs.Step.{step}
use Rattle.xk_types.specs.Schedule.{Through, run, all_ended, is_enabled}
use Rattle.xk_types.proofs.RunLemmas.{run_then}
use Rattle.xk_law_schedules.proofs.ReachabilityLemmas.{first_step, opening_reached}
use Rattle.xk_law_commute.proofs.ExplorationLaw.{nobody_steps}
use Rattle.xk_law_names.specs.Names.{all_named}
use Rattle.xk_law_traces.specs.Classes.{Turn, AreSwapped, AreJoined, AreOneClass, names_along, name_in}
use Rattle.xk_law_traces.specs.RaceFreedom.{HasNoRace}
use Rattle.xk_law_traces.specs.Edges.{StepName, turns_of, IsEdge, IsTaken, AreSound}
use Rattle.xk_law_traces.specs.OneRun.{GoesAsWell, IsBegun, IsWholeRun}
use Rattle.xk_law_traces.proofs.ClassLemmas.{deeds, same_deeds}
use Rattle.xk_law_traces.proofs.SwapLemmas.{deed_named}
use Rattle.xk_law_traces.proofs.EdgeLaw.{turns_on, turns_done}
use Rattle.xk_law_traces.proofs.OneRunLaw.{same, begun}
use Rattle.xk_law_rounds.specs.Rounds.{IsRound, AreRounds, steps_in, IsChainBy, HasNoLonger, HasNoLongerBy}

-- ---- a whole run is of the class

-- nothing follows where all have ended
nothing_more : (m : ModuleValue) (rest : List ℕ) (y z : World) → all_ended y ≡ true → run m rest y ≡ Through z → rest ≡ []
nothing_more m [] y z ended g = refl
nothing_more m (a ∷ rest) y z ended g =
    let x = first_step y z (step m y a) (run m rest) g in absurd (nobody_steps m y x.0 a x.1 x.2 ended)

pub whole_member : (m : ModuleValue) (args : List ℤ) (limits : IsWithinLimits m) (ok : IsAccepted m) (taken : AreArguments m args)
    (s t : List ℕ) (z y : World) → IsWholeRun m args s z → HasNoRace m (opening m args) s → IsWholeRun m args t y
    → AreOneClass m (opening m args) s t
whole_member m args limits ok taken s t z y one free other =
    let b : IsBegun m (opening m args) s t = begun m args limits ok taken s t z y one free other.legal in
    let g : GoesAsWell m (opening m args) s (t ++ b.rest) b.member z = same m args limits ok taken s (t ++ b.rest) z one.legal b.member in
    let none : b.rest ≡ [] =
    nothing_more m b.rest y g.last other.ended (sym (run_then m t b.rest (opening m args) y other.legal) ∙ g.legal) in
    subst (AreOneClass m (opening m args) s) (ap (λ l. t ++ l) none ∙ append-nil t) b.member

-- ---- as many steps

swapped_length : (m : ModuleValue) (w : World) (s t : List ℕ) (u : Turn) → AreSwapped m w s u.0 t → length t ≡ length s
swapped_length m w s t u k =
    let names = map (all_named u.0) k.after in
    let a = ap length k.this in
    let b = ap length k.other in
    let this = length-append k.before (k.first ∷ k.second ∷ k.after) in
    let other = length-append k.before (k.second ∷ k.first ∷ names) in
    omega (arith, a, b, this, other, length-map k.after (all_named u.0))

joined_length : (m : ModuleValue) (w : World) (us : List Turn) (s t : List ℕ) → AreJoined m w s us t → length t ≡ length s
joined_length m w [] s t h = ap length (sym h)
joined_length m w (u ∷ us) s t h = joined_length m w us u.1 t h.1 ∙ swapped_length m w s u.1 u h.0

pub same_work : (m : ModuleValue) (args : List ℤ) (s t : List ℕ) (z y : World) → IsWithinLimits m → IsAccepted m
    → AreArguments m args
    → IsWholeRun m args s z → HasNoRace m (opening m args) s → IsWholeRun m args t y → length t ≡ length s
same_work m args s t z y limits ok taken one free other =
    let member = whole_member m args limits ok taken s t z y one free other in
    joined_length m (opening m args) member.between s t member.joined

-- each activity takes as many steps in both
pub same_turns : (m : ModuleValue) (args : List ℤ) → IsWithinLimits m → IsAccepted m → AreArguments m args
    → (s t : List ℕ) (z : World) → IsWholeRun m args s z → (whole : AreOneClass m (opening m args) s t) (a : ℕ)
    → turns_of (name_in whole a) t ≡ turns_of a s
same_turns m args limits ok taken s t z one whole a =
    let w = opening m args in
    let g : GoesAsWell m w s t whole z = same m args limits ok taken s t z one.legal whole in
    sym (turns_done m t w g.last (name_in whole a) g.legal)
    ∙ ap length (same_deeds m limits ok w z (opening_reached m args taken) s t whole one.legal a)
    ∙ length-map (deeds m s w a) (deed_named (names_along whole.between))
    ∙ turns_done m s w z a one.legal

-- ---- rounds

module _ (m : ModuleValue) (args : List ℤ) (limits : IsWithinLimits m) (ok : IsAccepted m) (taken : AreArguments m args)
    (s : List ℕ) (z y : World) (Leads : StepName → StepName → Type 0) (t : List ℕ)
    (one : IsWholeRun m args s z) (whole : AreOneClass m (opening m args) s t)
    (sound : (x k : StepName) → Leads x k → (before after : List ℕ) (v : World) → t ≡ before ++ after
    → run m before (opening m args) ≡ Through v
    → turns_of (name_in whole k.0) before ≡ k.1 → is_enabled m v (name_in whole k.0) ≡ true
    → IsTaken before (name_in whole x.0, x.1)) where
  abbrev w : World
  w = opening m args

  -- what leads to a step that can be taken
  pub link_taken : (before after : List ℕ) (v : World) → t ≡ before ++ after → run m before w ≡ Through v
      → (x k : StepName) → Leads x k ⊎ ((x.0 ≡ k.0) × (x.1 < k.1))
      → turns_of (name_in whole k.0) before ≡ k.1 → is_enabled m v (name_in whole k.0) ≡ true
      → IsTaken before (name_in whole x.0, x.1)
  link_taken before after v is leads x k (inl cause) turn enabled = sound x k cause before after v is leads turn enabled
  link_taken before after v is leads x k (inr own) turn enabled =
      let lower : x.1 < k.1 = own.1 in
      let less : x.1 < turns_of (name_in whole k.0) before = omega (arith, lower, turn) in
      subst (λ a. x.1 < turns_of (name_in whole a) before) (sym own.0) less

  -- no chain up to a step that is taken by then has more steps
  abbrev NoLonger : List ℕ → ℕ → Type 0
  NoLonger before n = (k : StepName) (xs : List StepName) → IsChainBy Leads k xs → IsTaken before (name_in whole k.0, k.1)
      → suc (length xs) ≤ n

  -- after one more round
  one_more : (before r after : List ℕ) (v u : World) (n : ℕ) → t ≡ before ++ (r ++ after) → run m before w ≡ Through v
      → IsRound m v r u
      → NoLonger before n → NoLonger (before ++ r) (suc n)
  one_more before r after v u n is leads round none k xs chain taken = by (cases_lt k.1 (turns_of (name_in whole k.0) before))
    where
      some : k.1 < turns_of (name_in whole k.0) before + turns_of (name_in whole k.0) r
      some = subst (λ i. k.1 < i) (turns_on (name_in whole k.0) before r) taken

      of : (xs : List StepName) → IsChainBy Leads k xs → turns_of (name_in whole k.0) before ≤ k.1 → suc (length xs) ≤ suc n
      of [] c ge = omega arith
      of (x ∷ xs) c ge =
          let most = round.once (name_in whole k.0) in
          let turn : turns_of (name_in whole k.0) before ≡ k.1 = omega (arith, ge, some, most) in
          let enabled = round.enabled (name_in whole k.0) (omega (arith, ge, some)) in
          let a = none x xs c.1 (link_taken before (r ++ after) v is leads x k c.0 turn enabled) in
          omega (arith, a)

      by : (k.1 < turns_of (name_in whole k.0) before) ⊎ (turns_of (name_in whole k.0) before ≤ k.1) → suc (length xs) ≤ suc n
      by (inl less) = let a = none k xs chain less in omega (arith, a)
      by (inr ge) = of xs chain ge

  all_rounds : (rest : List (List ℕ)) (before : List ℕ) (v : World) (n : ℕ) → t ≡ before ++ steps_in rest
      → run m before w ≡ Through v
      → AreRounds m v rest y → NoLonger before n → NoLonger t (n + length rest)
  all_rounds [] before v n is leads rounds none k xs chain taken =
      let a = none k xs chain (subst (λ l. IsTaken l (name_in whole k.0, k.1)) (is ∙ append-nil before) taken) in
      omega (arith, a)
  all_rounds (r ∷ rest) before v n is leads rounds none k xs chain taken =
      let a = all_rounds rest (before ++ r) rounds.0 (suc n) (is ∙ sym (append_assoc before r (steps_in rest)))
      (run_then m before r w v leads ∙ rounds.1.leads) rounds.2
      (one_more before r (steps_in rest) v rounds.0 n is leads rounds.1 none) k xs chain taken in
      omega (arith, a)

  -- up to a round, no chain has more steps than there are rounds
  pub by_round : (ps : List (List ℕ)) (r : List ℕ) (after : List (List ℕ)) (before : List ℕ) (v : World) (n : ℕ)
      → t ≡ before ++ steps_in (ps ++ r ∷ after) → run m before w ≡ Through v → AreRounds m v (ps ++ r ∷ after) y → NoLonger before n
      → NoLonger ((before ++ steps_in ps) ++ r) (suc (n + length ps))
  by_round [] r after before v n is leads rounds none =
      let e : suc n ≡ suc (n + 0) = omega arith in
      subst (λ l. NoLonger (l ++ r) (suc (n + 0))) (sym (append-nil before))
      (subst (NoLonger (before ++ r)) e (one_more before r (steps_in after) v rounds.0 n is leads rounds.1 none))
  by_round (p ∷ ps) r after before v n is leads rounds none =
      let e : suc (suc n + length ps) ≡ suc (n + suc (length ps)) = omega arith in
      subst (λ l. NoLonger (l ++ r) (suc (n + suc (length ps)))) (append_assoc before p (steps_in ps))
      (subst (NoLonger (((before ++ p) ++ steps_in ps) ++ r)) e
      (by_round ps r after (before ++ p) rounds.0 (suc n) (is ∙ sym (append_assoc before p (steps_in (ps ++ r ∷ after))))
      (run_then m before p w v leads ∙ rounds.1.leads) rounds.2
      (one_more before p (steps_in (ps ++ r ∷ after)) v rounds.0 n is leads rounds.1 none)))

  -- a step of the one run is taken in the other
  taken_there : (k : StepName) → IsTaken s k → IsTaken t (name_in whole k.0, k.1)
  taken_there k h = subst (λ i. k.1 < i) (sym (same_turns m args limits ok taken s t z one whole k.0)) h

  pub first : NoLonger [] 0
  first k xs chain taken = absurd (omega (arith, taken))

  pub no_longer : (rounds : List (List ℕ)) → t ≡ steps_in rounds → AreRounds m w rounds y → HasNoLongerBy Leads s (length rounds)
  no_longer rounds is all k xs chain here =
      let a = all_rounds rounds [] w 0 is refl all first k xs chain (taken_there k here) in omega (arith, a)

-- where edges are sound, what they lead from is taken before in each schedule of the class
pub sound_there : (m : ModuleValue) (w : World) (s t : List ℕ) (edges : List (StepName × StepName)) (whole : AreOneClass m w s t)
    → AreSound m w s edges
    → (x k : StepName) → IsEdge edges x k → (before after : List ℕ) (v : World) → t ≡ before ++ after → run m before w ≡ Through v
    → turns_of (name_in whole k.0) before ≡ k.1 → is_enabled m v (name_in whole k.0) ≡ true → IsTaken before (name_in whole x.0, x.1)
sound_there m w s t edges whole sound x k edge before after v is leads turn enabled =
    let member : AreOneClass m w s (before ++ after) =
    record { between = whole.between; joined = subst (AreJoined m w s whole.between) is whole.joined } in
    sound x k edge before after v member leads turn enabled

pub at_least : (m : ModuleValue) (args : List ℤ) (s : List ℕ) (z y : World) (edges : List (StepName × StepName)) (rounds : List (List ℕ))
    → IsWithinLimits m → IsAccepted m → AreArguments m args
    → IsWholeRun m args s z → HasNoRace m (opening m args) s → AreSound m (opening m args) s edges
    → AreRounds m (opening m args) rounds y → IsWholeRun m args (steps_in rounds) y
    → HasNoLonger edges s (length rounds)
at_least m args s z y edges rounds limits ok taken one free sound all other =
    let whole = whole_member m args limits ok taken s (steps_in rounds) z y one free other in
    no_longer m args limits ok taken s z y (IsEdge edges) (steps_in rounds) one whole
    (sound_there m (opening m args) s (steps_in rounds) edges whole sound) rounds refl all
