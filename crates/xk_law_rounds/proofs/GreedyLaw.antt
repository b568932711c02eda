-- A greedy run has as many rounds as the longest chain has steps.
use Rattle.std.proofs.Common.{◌≡◌, ◌∙◌, ℕ, ℤ, zero, suc, ◌+◌, ◌<◌, ◌≤◌, ◌⊎◌, inl, inr, Bool, true, false, List, [], ◌∷◌, ◌++◌}
use Rattle.std.proofs.Common.{length, refl, sym, ap, subst, arith, append_assoc, eq-eqb}
use Rattle.std.proofs.lemmas.Bool.{cases_eq, cases_lt}
use Rattle.std.proofs.lemmas.List.{append-nil}
use Rattle.xk_types.specs.Acceptance.{IsAccepted}
use Rattle.xk_types.specs.Code.{ModuleValue, IsWithinLimits}
use Rattle.xk_types.specs.World.{World, AreArguments, opening}
use Rattle.xk_types.specs.Schedule.{Through, run, is_enabled}
use Rattle.xk_types.proofs.RunLemmas.{run_then}
use Rattle.xk_law_names.proofs.NameLaw.{all_unnamed, named_unnamed}
use Rattle.xk_law_traces.specs.Classes.{AreOneClass, names_along, name_in}
use Rattle.xk_law_traces.specs.Edges.{StepName, turns_of, IsTaken}
use Rattle.xk_law_traces.specs.OneRun.{IsWholeRun}
use Rattle.xk_law_traces.proofs.EdgeLaw.{turns_on, turns_same}
use Rattle.xk_law_rounds.specs.Rounds.{IsRound, IsFull, AreGreedy, steps_in, IsChainBy, HasChainBy}
use Rattle.xk_law_rounds.proofs.RoundLaw.{link_taken, same_turns}

-- who stands first in a list has a turn in it
pub first_of : (r : List ℕ) → 0 < length r → (a : ℕ) × (0 < turns_of a r)
first_of [] some = absurd (omega (arith, some))
first_of (a ∷ r) some = (a, let e = turns_same a a r (eq-eqb a a refl) in omega (arith, e))

module _ (m : ModuleValue) (args : List ℤ) (limits : IsWithinLimits m) (ok : IsAccepted m) (taken : AreArguments m args)
    (s : List ℕ) (z y : World) (Leads : StepName → StepName → Type 0) (t : List ℕ)
    (one : IsWholeRun m args s z) (whole : AreOneClass m (opening m args) s t)
    (sound : (x k : StepName) → Leads x k → (before after : List ℕ) (v : World) → t ≡ before ++ after
    → run m before (opening m args) ≡ Through v
    → turns_of (name_in whole k.0) before ≡ k.1 → is_enabled m v (name_in whole k.0) ≡ true
    → IsTaken before (name_in whole x.0, x.1))
    (complete : (k : StepName) → IsTaken s k → (before after : List ℕ) (v : World) → t ≡ before ++ after
    → run m before (opening m args) ≡ Through v
    → turns_of (name_in whole k.0) before ≡ k.1 → is_enabled m v (name_in whole k.0) ≡ false
    → (x : StepName) × Leads x k × (IsTaken before (name_in whole x.0, x.1) → ⊥)) where
  abbrev w : World
  w = opening m args

  -- by a round behind some steps: a chain of n steps leads up to each that is taken in it
  abbrev NewHere : List ℕ → List ℕ → ℕ → Type 0
  NewHere before r n = (k : StepName) → turns_of (name_in whole k.0) before ≤ k.1
      → IsTaken (before ++ r) (name_in whole k.0, k.1)
      → (xs : List StepName) × IsChainBy Leads k xs × (suc (length xs) ≡ n)

  -- what is taken in the front of t is a step of s
  taken_here : (before after : List ℕ) (k : StepName) → t ≡ before ++ after → IsTaken before (name_in whole k.0, k.1)
      → IsTaken s k
  taken_here before after k is h =
      let a = turns_on (name_in whole k.0) before after in
      let b = ap (turns_of (name_in whole k.0)) is in
      let c = same_turns m args limits ok taken s t z one whole k.0 in
      omega (arith, a, b, c, h)

  -- the step of an activity of t that comes behind some steps
  next_step : (before : List ℕ) (b : ℕ) → (k : StepName) × (name_in whole k.0 ≡ b) × (k.1 ≡ turns_of b before)
  next_step before b = ((all_unnamed (names_along whole.between) b, turns_of b before), named_unnamed (names_along whole.between) b, refl)

  -- one more round, r behind q
  one_more : (before q r after : List ℕ) (u v x : World) (n : ℕ) → t ≡ before ++ (q ++ (r ++ after))
      → run m before w ≡ Through u
      → IsRound m u q v → IsFull m u q → IsRound m v r x → NewHere before q n → NewHere (before ++ q) r (suc n)
  one_more before q r after u v x n is leads round full next new k ge here = by (cases_eq (turns_of (name_in whole k.0) before) k.1)
    where
      b : ℕ
      b = name_in whole k.0

      front : turns_of b (before ++ q) ≡ turns_of b before + turns_of b q
      front = turns_on b before q

      both : turns_of b ((before ++ q) ++ r) ≡ turns_of b (before ++ q) + turns_of b r
      both = turns_on b (before ++ q) r

      turn : turns_of b (before ++ q) ≡ k.1
      turn = let a = next.once b in omega (arith, ge, here, both, a)

      able : is_enabled m v b ≡ true
      able = next.enabled b (omega (arith, ge, here, both))

      there : run m (before ++ q) w ≡ Through v
      there = run_then m before q w u leads ∙ round.leads

      split : t ≡ (before ++ q) ++ (r ++ after)
      split = is ∙ sym (append_assoc before q (r ++ after))

      mine : IsTaken s k
      mine = taken_here ((before ++ q) ++ r) after k (split ∙ sym (append_assoc (before ++ q) r after)) here

      -- by a link from one that was taken in the round before
      by_link : (x : StepName) → Leads x k ⊎ ((x.0 ≡ k.0) × (x.1 < k.1)) → turns_of (name_in whole x.0) before ≤ x.1
          → IsTaken (before ++ q) (name_in whole x.0, x.1)
          → (xs : List StepName) × IsChainBy Leads k xs × (suc (length xs) ≡ suc n)
      by_link x link lower h = let c = new x lower h in (x ∷ c.0, (link, c.1), ap suc c.2)

      -- its own step before it
      own : (turns_of b before ≡ k.1 → ⊥) → (xs : List StepName) × IsChainBy Leads k xs × (suc (length xs) ≡ suc n)
      own ne =
          let a = round.once b in
          let some : turns_of b q ≡ 1 = of a (cases_eq (turns_of b q) 0) in
          by_link (k.0, turns_of b before) (inr (refl, omega (arith, front, turn, some))) (omega arith) (omega (arith, front, some))
        where
          of : turns_of b q ≤ 1 → (turns_of b q ≡ 0) ⊎ (turns_of b q ≡ 0 → ⊥) → turns_of b q ≡ 1
          of a (inl none) = absurd (ne (omega (arith, front, turn, none)))
          of a (inr some) = exactly (turns_of b q) a some
            where
              exactly : (i : ℕ) → i ≤ 1 → (i ≡ 0 → ⊥) → i ≡ 1
              exactly zero le not = absurd (not refl)
              exactly (suc i) le not = omega (arith, le)

      -- who had that turn already and didn't take it couldn't
      edge : turns_of b before ≡ k.1 → (o : Bool) → is_enabled m u b ≡ o
          → (xs : List StepName) × IsChainBy Leads k xs × (suc (length xs) ≡ suc n)
      edge same true e = absurd (let a = full b e in omega (arith, a, front, turn, same))
      edge same false e =
          let f = complete k mine before (q ++ (r ++ after)) u is leads same e in
          by_link f.0 (inl f.1) (lower f.0 f.2 (cases_lt f.0.1 (turns_of (name_in whole f.0.0) before)))
          (link_taken m args limits ok taken s z y Leads t one whole sound (before ++ q) (r ++ after) v split there
          f.0 k (inl f.1) turn able)
        where
          lower : (x : StepName) → (IsTaken before (name_in whole x.0, x.1) → ⊥)
              → (x.1 < turns_of (name_in whole x.0) before) ⊎ (turns_of (name_in whole x.0) before ≤ x.1)
              → turns_of (name_in whole x.0) before ≤ x.1
          lower x not (inl less) = absurd (not less)
          lower x not (inr le) = le

      by : (turns_of b before ≡ k.1) ⊎ (turns_of b before ≡ k.1 → ⊥)
          → (xs : List StepName) × IsChainBy Leads k xs × (suc (length xs) ≡ suc n)
      by (inl same) = edge same (is_enabled m u b) refl
      by (inr ne) = own ne

  -- the first round
  first : (r : List ℕ) → NewHere [] r 1
  first r k ge here = ([], refl, refl)

  -- some step is taken in a round that isn't empty
  ending : (before q : List ℕ) (n : ℕ) → t ≡ before ++ q → 0 < length q → NewHere before q n → HasChainBy Leads s n
  ending before q n is some new =
      let a = first_of q some in
      let k = next_step before a.0 in
      let front = turns_on a.0 before q in
      let taken : IsTaken (before ++ q) (name_in whole k.0.0, k.0.1) =
      subst (λ b. k.0.1 < turns_of b (before ++ q)) (sym k.1) (omega (arith, front, a.1, k.2)) in
      let lower : turns_of (name_in whole k.0.0) before ≤ k.0.1 =
      subst (λ b. turns_of b before ≤ k.0.1) (sym k.1) (omega (arith, k.2)) in
      let c = new k.0 lower taken in
      inr (k.0, c.0, c.1, taken_here (before ++ q) [] k.0 (is ∙ sym (append-nil (before ++ q))) taken, c.2)

  all_rounds : (rest : List (List ℕ)) (before q : List ℕ) (u v : World) (n : ℕ) → t ≡ before ++ (q ++ steps_in rest)
      → run m before w ≡ Through u
      → IsRound m u q v → IsFull m u q → 0 < length q → AreGreedy m v rest y → NewHere before q n
      → HasChainBy Leads s (n + length rest)
  all_rounds [] before q u v n is leads round full some rounds new =
      let e : n ≡ n + 0 = omega arith in
      subst (HasChainBy Leads s) e (ending before q n (is ∙ ap (λ l. before ++ l) (append-nil q)) some new)
  all_rounds (r ∷ rest) before q u v n is leads round full some rounds new =
      let e : suc n + length rest ≡ n + suc (length rest) = omega arith in
      subst (HasChainBy Leads s) e
      (all_rounds rest (before ++ q) r v rounds.0 (suc n) (is ∙ sym (append_assoc before q (r ++ steps_in rest)))
      (run_then m before q w u leads ∙ round.leads) rounds.1 rounds.2 rounds.3 rounds.4
      (one_more before q r (steps_in rest) u v rounds.0 n is leads round full rounds.1 new))

  -- in round r behind some more: the chain has one more step for each
  later : (ps : List (List ℕ)) (r : List ℕ) (after : List (List ℕ)) (before q : List ℕ) (u v : World) (n : ℕ)
      → t ≡ before ++ (q ++ steps_in (ps ++ r ∷ after)) → run m before w ≡ Through u
      → IsRound m u q v → IsFull m u q → AreGreedy m v (ps ++ r ∷ after) y → NewHere before q n
      → NewHere ((before ++ q) ++ steps_in ps) r (suc n + length ps)
  later [] r after before q u v n is leads round full rounds new =
      let e : suc n ≡ suc n + 0 = omega arith in
      subst (λ l. NewHere l r (suc n + 0)) (sym (append-nil (before ++ q)))
      (subst (NewHere (before ++ q) r) e (one_more before q r (steps_in after) u v rounds.0 n is leads round full rounds.1 new))
  later (p ∷ ps) r after before q u v n is leads round full rounds new =
      let e : suc (suc n) + length ps ≡ suc n + suc (length ps) = omega arith in
      subst (λ l. NewHere l r (suc n + suc (length ps))) (append_assoc (before ++ q) p (steps_in ps))
      (subst (NewHere (((before ++ q) ++ p) ++ steps_in ps) r) e
      (later ps r after (before ++ q) p v rounds.0 (suc n) (is ∙ sym (append_assoc before q (p ++ steps_in (ps ++ r ∷ after))))
      (run_then m before q w u leads ∙ round.leads) rounds.1 rounds.2 rounds.4
      (one_more before q p (steps_in (ps ++ r ∷ after)) u v rounds.0 n is leads round full rounds.1 new)))

  -- so a chain up to each step has as many steps as there are rounds up to its own
  pub in_round : (before : List (List ℕ)) (r : List ℕ) (after : List (List ℕ)) → t ≡ steps_in (before ++ r ∷ after)
      → AreGreedy m w (before ++ r ∷ after) y → NewHere (steps_in before) r (suc (length before))
  in_round [] r after is all = first r
  in_round (q ∷ ps) r after is all =
      let e : suc 1 + length ps ≡ suc (suc (length ps)) = omega arith in
      subst (NewHere (q ++ steps_in ps) r) e (later ps r after [] q w all.0 1 is refl all.1 all.2 all.4 (first q))

  pub has_chain : (rounds : List (List ℕ)) → t ≡ steps_in rounds → AreGreedy m w rounds y → HasChainBy Leads s (length rounds)
  has_chain [] is all = inl refl
  has_chain (r ∷ rest) is all =
      let e : 1 + length rest ≡ suc (length rest) = omega arith in
      subst (HasChainBy Leads s) e (all_rounds rest [] r w all.0 1 is refl all.1 all.2 all.3 all.4 (first r))
