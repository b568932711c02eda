-- The table of homes is right: the place that stands for the home of a slot, and the rule on homes at it.
use Rattle.std.proofs.Common.{◌≡◌, ℕ, zero, suc, ◌+◌, ◌<◌, ◌≤◌, nat_lt, Bool, true, false, not, ◌||◌, cond, List, [], ◌∷◌, ◌++◌, length, take, Option, Some, None, slice_get, get_or, inl, inr, refl, sym, ap, ◌∙◌, arith}
use Rattle.std.specs.List.{list_any, list_all, position, position_or_len}
use Rattle.std.specs.Option.{option_map_or}
use Rattle.std.proofs.lemmas.Option.{same_Some, none-some, slice_get-get_or, slice_get_within, get_or_from_slice_get, slice_get_past}
use Rattle.std.proofs.lemmas.List.Quantifiers.{position-Some}
use Rattle.std.proofs.lemmas.List.Sums.{fails_before_first}
use Rattle.std.proofs.lemmas.Bool.{and_parts, or_parts, or_left, or_right, not-true, not-false, ltb-true, ltb-false, lt-ltb, eqb-true, eq-eqb, both_ways, false_from_ne_true, false≢true, cases_lt, cases_order}
use Rattle.std.proofs.Math.Bool.{or-false}
use Rattle.xk_types.specs.declared.instr.Instr.{Instr}
use Rattle.xk_types.specs.declared.instr.Instr.TheVariants as instr
use Rattle.xk_types.specs.Code.{UnitValue}
use Rattle.xk_types.specs.Blocks.{block_at, same_block, takes_clock, makes, made_from, homes}
use Rattle.xk_types.specs.Shape.{slots_named, instr_is, mishandles, moves_home, breaks_home}
use Rattle.xk_shape.specs.Blocks.{IsOrderly, HasBlocks}
use Rattle.xk_shape.specs.Tables.{home_place}
use Rattle.xk_shape.proofs.EnclosingFinishLemmas.{block_first}
use Rattle.xk_types.proofs.MembershipLemmas.{same_test}
use Rattle.xk_shape.proofs.BlockLemmas.{decides_block}

-- ---- the first that makes a clock

makes_is : (s : ℕ) (i : Instr) → makes s i ≡ true → i ≡ instr.Make s
makes_is s (instr.Make d) h = ap instr.Make (eqb-true d s h)
makes_is s _ h = absurd (false≢true h)

makes_own : (s : ℕ) → makes s (instr.Make s) ≡ true
makes_own s = eq-eqb s s refl

-- the instruction at this place makes the clock of slot s
abbrev pub Makes : ℕ → List Instr → ℕ → Type 0
Makes s code k = slice_get code k ≡ Some (instr.Make s)

first_made : (s : ℕ) (code : List Instr) (p : ℕ) → position (makes s) code ≡ Some p → Makes s code p × ((k : ℕ) → k < p → Makes s code k → ⊥)
first_made s code p h =
    let d = instr.Make s in
    let r = position-Some (makes s) code p d h in (
      slice_get-get_or code p d r.0 ∙ ap Some (makes_is s (get_or code p d) r.1),
      λ k lt made. both_ways (makes s (get_or code k d)) (r.2 k lt) (ap (makes s) (get_or_from_slice_get code k d d made) ∙ makes_own s),
    )

never_made : (s : ℕ) (code : List Instr) (k : ℕ) → position (makes s) code ≡ None → Makes s code k → ⊥
never_made s code k h made =
    let n = position_or_len (makes s) code in
    let d = instr.Make s in
    go (nat_lt n (length code)) refl h
  where
    go : (b : Bool) → nat_lt (position_or_len (makes s) code) (length code) ≡ b → cond b (Some (position_or_len (makes s) code)) None ≡ None → ⊥
    go true e g = none-some _ (sym g)
    go false e g =
        let past = ltb-false (position_or_len (makes s) code) (length code) e in
        let inside = slice_get_within code k (instr.Make s) made in
        both_ways (makes s (get_or code k (instr.Make s))) (fails_before_first (makes s) code k (instr.Make s) (omega arith))
        (ap (makes s) (get_or_from_slice_get code k (instr.Make s) (instr.Make s) made) ∙ makes_own s)

-- ---- the blocks that make a clock

-- a block that makes it passes
made_some : (u : UnitValue) (s : ℕ) (test : List ℕ → Bool) (at : ℕ) (is : List Instr) (k : ℕ) → Makes s is k → test (block_at u (at + k)) ≡ true
    → list_any test (made_from u s at is) ≡ true
made_some u s test at [] k made on = absurd (none-some _ made)
made_some u s test at (i ∷ is) zero made on =
    let here : at + 0 ≡ at = omega arith in
    ap (λ b. list_any test (cond b (block_at u at ∷ made_from u s (suc at) is) (made_from u s (suc at) is))) (ap (makes s) (same_Some i (instr.Make s) made) ∙ makes_own s)
    ∙ or_left (test (block_at u at)) (list_any test (made_from u s (suc at) is)) (ap (λ n. test (block_at u n)) (sym here) ∙ on)
made_some u s test at (i ∷ is) (suc k) made on =
    let next : suc at + k ≡ at + suc k = omega arith in
    go (makes s i) (made_some u s test (suc at) is k made (ap (λ n. test (block_at u n)) next ∙ on))
  where
    go : (b : Bool) → list_any test (made_from u s (suc at) is) ≡ true → list_any test (cond b (block_at u at ∷ made_from u s (suc at) is) (made_from u s (suc at) is)) ≡ true
    go true later = or_right (test (block_at u at)) (list_any test (made_from u s (suc at) is)) later
    go false later = later

-- one that passes makes it
record PassesMade (u : UnitValue) (s : ℕ) (test : List ℕ → Bool) (at : ℕ) (is : List Instr) : Type 0 where
  pub k : ℕ
  pub made : Makes s is k
  pub on : test (block_at u (at + k)) ≡ true

made_any : (u : UnitValue) (s : ℕ) (test : List ℕ → Bool) (at : ℕ) (is : List Instr) → list_any test (made_from u s at is) ≡ true → PassesMade u s test at is
made_any u s test at [] h = absurd (false≢true h)
made_any u s test at (i ∷ is) h = go (makes s i) refl (made_any u s test (suc at) is) h
  where
    later_made : PassesMade u s test (suc at) is → PassesMade u s test at (i ∷ is)
    later_made r = let next : suc at + r.k ≡ at + suc r.k = omega arith in record { k = suc r.k; made = r.made; on = ap (λ n. test (block_at u n)) (sym next) ∙ r.on }

    first : (b : Bool) → makes s i ≡ true → test (block_at u at) ≡ b → (list_any test (made_from u s (suc at) is) ≡ true → PassesMade u s test (suc at) is)
        → (b || list_any test (made_from u s (suc at) is)) ≡ true → PassesMade u s test at (i ∷ is)
    first true e on later g = let here : at ≡ at + 0 = omega arith in record { k = 0; made = ap Some (makes_is s i e); on = ap (λ n. test (block_at u n)) (sym here) ∙ on }
    first false e on later g = later_made (later g)

    go : (b : Bool) → makes s i ≡ b → (list_any test (made_from u s (suc at) is) ≡ true → PassesMade u s test (suc at) is)
        → list_any test (cond b (block_at u at ∷ made_from u s (suc at) is) (made_from u s (suc at) is)) ≡ true → PassesMade u s test at (i ∷ is)
    go true e later g = first (test (block_at u at)) e refl later g
    go false e later g = later_made (later g)

-- those before a place
take_get : {X : Type 0} (n : ℕ) (xs : List X) (k : ℕ) → k < n → slice_get (take n xs) k ≡ slice_get xs k
take_get zero xs k lt = absurd (omega arith)
take_get (suc n) [] k lt = refl
take_get (suc n) (x ∷ xs) zero lt = refl
take_get (suc n) (x ∷ xs) (suc k) lt = take_get n xs k (omega arith)

take_within : {X : Type 0} (n : ℕ) (xs : List X) (k : ℕ) (x : X) → slice_get (take n xs) k ≡ Some x → k < n
take_within zero xs k x h = absurd (none-some x h)
take_within (suc n) [] k x h = absurd (none-some x h)
take_within (suc n) (y ∷ xs) zero x h = omega arith
take_within (suc n) (y ∷ xs) (suc k) x h = let r = take_within n xs k x h in omega arith

-- ---- the rule on homes

module _ (u : UnitValue) where
  unhandled : (k : ℕ) (i : Instr) → slice_get u.code k ≡ Some i → breaks_home u k ≡ false → (mishandles u i ≡ false) × (moves_home u k i ≡ false)
  unhandled k i here unbroken = or_parts (mishandles u i) (moves_home u k i) (ap (instr_is (λ x. mishandles u x || moves_home u k x)) (sym here) ∙ unbroken)

  -- where it is kept, two that make one clock stand in one block
  made_alike : (s p k : ℕ) → Makes s u.code p → Makes s u.code k → p < k → breaks_home u k ≡ false → block_at u k ≡ block_at u p
  made_alike s p k at_p at_k lt unbroken =
      let test : List ℕ → Bool = λ h. not (same_block (block_at u k) h) in
      let none = (unhandled k (instr.Make s) at_k unbroken).1 in
      let same : 0 + p ≡ p = omega arith in
      (decides_block (block_at u k) (block_at u p)).0 (not-false _ (false_from_ne_true _ (λ on.
      both_ways (list_any test (made_from u s 0 (take k u.code))) none
      (made_some u s test 0 (take k u.code) p (take_get k u.code p lt ∙ at_p) (ap (λ n. test (block_at u n)) same ∙ on)))))

  first_alike : (s p k : ℕ) → position (makes s) u.code ≡ Some p → Makes s u.code k → breaks_home u k ≡ false → block_at u k ≡ block_at u p
  first_alike s p k found made unbroken =
      let first = first_made s u.code p found in
      elim (cases_order k p) [
        | inl same ↦ ap (block_at u) same
        | inr other ↦ elim other [ inl lt ↦ absurd (first.1 k lt made) | inr gt ↦ made_alike s p k first.0 made gt unbroken ]
      ]

  -- a block is left where the first that makes the clock stands in another one
  pub moved : (s at : ℕ) → Makes s u.code at → ((k : ℕ) → k < at → breaks_home u k ≡ false)
      → option_map_or (λ home. not (same_block (block_at u at) (block_at u home))) (position (makes s) u.code) false ≡ moves_home u at (instr.Make s)
  moved s at here before = go (position (makes s) u.code) refl
    where
      go : (o : Option ℕ) → position (makes s) u.code ≡ o → option_map_or (λ home. not (same_block (block_at u at) (block_at u home))) o false ≡ moves_home u at (instr.Make s)
      go None e = absurd (never_made s u.code at e here)
      go (Some p) e =
          let test : List ℕ → Bool = λ h. not (same_block (block_at u at) h) in
          let first = first_made s u.code p e in
          same_test (test (block_at u p)) (moves_home u at (instr.Make s))
          (λ on. elim (cases_order p at) [
            | inl same ↦ absurd (both_ways (same_block (block_at u at) (block_at u p)) (not-true _ on)
                ((decides_block (block_at u at) (block_at u p)).1 (ap (block_at u) (sym same))))
            | inr other ↦ elim other [
              | inl lt ↦ let zeroth : 0 + p ≡ p = omega arith in made_some u s test 0 (take at u.code) p (take_get at u.code p lt ∙ first.0)
                  (ap (λ n. test (block_at u n)) zeroth ∙ on)
              | inr gt ↦ absurd (first.1 at gt here)
            ]
          ])
          (λ on.
          let r = made_any u s test 0 (take at u.code) on in
          let lt = take_within at u.code r.k (instr.Make s) r.made in
          let zeroth : 0 + r.k ≡ r.k = omega arith in
          ap test (sym (first_alike s p r.k e (sym (take_get at u.code r.k lt) ∙ r.made) (before r.k lt))) ∙ ap (λ n. test (block_at u n)) (sym zeroth) ∙ r.on)

  -- ---- all homes

  takes_inside : (s : ℕ) → takes_clock (slice_get u.params s) ≡ true → s < length u.params
  takes_inside s h = elim (cases_lt s (length u.params)) [
    | inl inside ↦ inside
    | inr past ↦ absurd (both_ways (takes_clock (slice_get u.params s)) (ap takes_clock (slice_get_past u.params s past)) h)
  ]

  -- what is true of some home is true of the block of the place that stands for it
  pub homes_any : HasBlocks u → (s : ℕ) (test : List ℕ → Bool) → list_any test (homes u s) ≡ option_map_or (λ home. test (block_at u home)) (home_place u s) false
  homes_any has s test = go (takes_clock (slice_get u.params s)) refl
    where
      of_first : (o : Option ℕ) → position (makes s) u.code ≡ o → list_any test (made_from u s 0 u.code) ≡ option_map_or (λ home. test (block_at u home)) o false
      of_first None e = false_from_ne_true _ (λ on. let r = made_any u s test 0 u.code on in never_made s u.code r.k e r.made)
      of_first (Some p) e =
          same_test (list_any test (made_from u s 0 u.code)) (test (block_at u p))
          (λ on.
          let r = made_any u s test 0 u.code on in
          let zeroth : 0 + r.k ≡ r.k = omega arith in
          ap test (sym (first_alike s p r.k e r.made (has.homes r.k))) ∙ ap (λ n. test (block_at u n)) (sym zeroth) ∙ r.on)
          (λ on. let zeroth : 0 + p ≡ p = omega arith in made_some u s test 0 u.code p (first_made s u.code p e).0 (ap (λ n. test (block_at u n)) zeroth ∙ on))

      go : (b : Bool) → takes_clock (slice_get u.params s) ≡ b
          → list_any test (cond b ([] ∷ []) [] ++ made_from u s 0 u.code) ≡ option_map_or (λ home. test (block_at u home)) (cond b (Some 0) (position (makes s) u.code)) false
      go true e =
          let none : list_any test (made_from u s 0 u.code) ≡ false = false_from_ne_true _ (λ on.
          let r = made_any u s test 0 u.code on in
          let handled = (unhandled r.k (instr.Make s) r.made (has.homes r.k)).0 in
          both_ways (nat_lt s (length u.params)) handled (lt-ltb s (length u.params) (takes_inside s e)))
          in
          ap (λ b. test [] || b) none ∙ or-false (test []) ∙ ap test (sym (block_first u))
      go false e = of_first (position (makes s) u.code) refl

  -- a slot that the unit doesn't have is at home nowhere
  pub home_past : IsOrderly u → (s : ℕ) → u.slots ≤ s → home_place u s ≡ None
  home_past orderly s past =
      let no_clock : takes_clock (slice_get u.params s) ≡ false = ap takes_clock (slice_get_past u.params s (omega (arith, orderly.limits.params))) in
      ap (λ b. cond b (Some 0) (position (makes s) u.code)) no_clock ∙ go (position (makes s) u.code) refl
    where
      go : (o : Option ℕ) → position (makes s) u.code ≡ o → o ≡ None
      go None e = refl
      go (Some p) e =
          let made = (first_made s u.code p e).0 in
          let named = not-false _ (ap (instr_is (λ i. not (list_all (λ d. nat_lt d u.slots) (slots_named i)))) (sym made) ∙ orderly.slots p) in
          let below = ltb-true s u.slots (and_parts (nat_lt s u.slots) true named).0 in
          absurd (omega arith)
