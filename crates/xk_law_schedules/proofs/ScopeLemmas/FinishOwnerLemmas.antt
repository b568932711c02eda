-- Who is under a finish, by the owners of the finishes that govern; and who is awaited there.
use Rattle.std.proofs.Common.{◌≡◌, ℕ, zero, suc, ◌+◌, ◌<◌, ◌==◌, ◌&&◌, ◌||◌, not, Bool, true, false, List, [], ◌∷◌, length, Option, Some, None, inl, inr, ◌⊎◌, refl, sym, ap, ◌∙◌, subst, arith, eqb-true}
use Rattle.std.specs.Prelude.{slice_get}
use Rattle.std.specs.Option.{option_map_or}
use Rattle.std.proofs.lemmas.Bool.{false≢true, and_parts, and_from, or_cases, eq-eqb, not-true}
use Rattle.std.proofs.lemmas.Option.{slice_get_within}
use Rattle.xk_types.specs.World.{Finish, Activity, is_ended}
use Rattle.xk_types.specs.Step.{same_owner, same_finish, under_within, is_under, awaits_from, awaits}
use Rattle.xk_law_schedules.proofs.Invariant.{Each}
use Rattle.xk_types.proofs.ListLemmas.{get_inside}

-- ---- finishes, one and the same

owner_is : (p q : Option ℕ) → same_owner p q ≡ true → p ≡ q
owner_is None None h = refl
owner_is None (Some b) h = absurd (false≢true h)
owner_is (Some a) None h = absurd (false≢true h)
owner_is (Some a) (Some b) h = ap (λ n. Some n) (eqb-true a b h)

finish_is : (f g : Finish) → same_finish f g ≡ true → f ≡ g
finish_is f g h =
    let p = and_parts (same_owner f.owner g.owner) (f.depth == g.depth) h in
    ap (λ o. record { owner = o; depth = f.depth }) (owner_is f.owner g.owner p.0) ∙ ap (λ d. record { owner = g.owner; depth = d }) (eqb-true f.depth g.depth p.1)

owner_same : (p : Option ℕ) → same_owner p p ≡ true
owner_same None = refl
owner_same (Some a) = eq-eqb a a refl

finish_same : (f : Finish) → same_finish f f ≡ true
finish_same f = and_from (same_owner f.owner f.owner) (f.depth == f.depth) (owner_same f.owner) (eq-eqb f.depth f.depth refl)

-- ---- under

-- each activity is governed by the finish of one of smaller number
abbrev pub AreOwned : List Activity → Type 0
AreOwned acts = Each (λ b act. (o : ℕ) → act.governed.owner ≡ Some o → o < b) acts

module _ (acts : List Activity) (owned : AreOwned acts) (f : Finish) where
  -- what is asked of an activity, with so many owners above it
  abbrev by_owner : ℕ → Activity → Bool
  by_owner n act = same_finish act.governed f || option_map_or (under_within acts f n) act.governed.owner false

  unfolded : (n b : ℕ) (act : Activity) → slice_get acts b ≡ Some act → under_within acts f (suc n) b ≡ by_owner n act
  unfolding under_within
  unfolded n b act found = ap (λ o. option_map_or (by_owner n) o false) found

  unfolded_none : (n b : ℕ) → slice_get acts b ≡ None → under_within acts f (suc n) b ≡ false
  unfolding under_within
  unfolded_none n b none' = ap (λ o. option_map_or (by_owner n) o false) none'

  -- more owners than there are activities don't matter
  enough : (n k b : ℕ) → b < n → b < k → under_within acts f n b ≡ under_within acts f k b
  enough zero k b h g = absurd (omega arith)
  enough (suc n) zero b h g = absurd (omega arith)
  enough (suc n) (suc k) b h g = by (enough n k) (slice_get acts b) refl
    where
      owner : ((c : ℕ) → c < n → c < k → under_within acts f n c ≡ under_within acts f k c) → (act : Activity) → slice_get acts b ≡ Some act
          → (o : Option ℕ) → act.governed.owner ≡ o → option_map_or (under_within acts f n) o false ≡ option_map_or (under_within acts f k) o false
      owner more act found None e = refl
      owner more act found (Some o) e = (let less = owned b act found o e in more o (omega arith) (omega arith))

      by : ((c : ℕ) → c < n → c < k → under_within acts f n c ≡ under_within acts f k c) → (o : Option Activity) → slice_get acts b ≡ o
          → under_within acts f (suc n) b ≡ under_within acts f (suc k) b
      by more None e = unfolded_none n b e ∙ sym (unfolded_none k b e)
      by more (Some act) e = unfolded n b act e ∙ ap (λ x. same_finish act.governed f || x) (owner more act e act.governed.owner refl) ∙ sym (unfolded k b act e)

  -- an activity is under the finish where that governs it, or where the owner of what governs it is
  under_is : (b : ℕ) (act : Activity) → slice_get acts b ≡ Some act
      → is_under acts f b ≡ (same_finish act.governed f || option_map_or (is_under acts f) act.governed.owner false)
  under_is b act found = enough (length acts) (suc b) b (slice_get_within acts b act found) (omega arith) ∙ unfolded b b act found
      ∙ ap (λ x. same_finish act.governed f || x) (owner act.governed.owner refl)
    where
      owner : (o : Option ℕ) → act.governed.owner ≡ o → option_map_or (under_within acts f b) o false ≡ option_map_or (is_under acts f) o false
      owner None e = refl
      owner (Some o) e = (let less = owned b act found o e in let inside = slice_get_within acts b act found in enough b (length acts) o less (omega arith))

  pub under_governed : (b : ℕ) (act : Activity) → slice_get acts b ≡ Some act → act.governed ≡ f → is_under acts f b ≡ true
  under_governed b act found e = under_is b act found
      ∙ ap (λ x. x || option_map_or (is_under acts f) act.governed.owner false) (subst (λ g. same_finish g f ≡ true) (sym e) (finish_same f))

  pub under_owner : (b o : ℕ) (act : Activity) → slice_get acts b ≡ Some act → act.governed.owner ≡ Some o → is_under acts f o ≡ true → is_under acts f b ≡ true
  under_owner b o act found e h = under_is b act found
      ∙ or_second (same_finish act.governed f) (option_map_or (is_under acts f) act.governed.owner false) (ap (λ x. option_map_or (is_under acts f) x false) e ∙ h)
    where
      or_second : (p q : Bool) → q ≡ true → (p || q) ≡ true
      or_second true q h = refl
      or_second false q h = h

  -- where an activity is under the finish, one of the two is so
  pub under_cases : (b : ℕ) (act : Activity) → slice_get acts b ≡ Some act → is_under acts f b ≡ true → (act.governed ≡ f)
      ⊎ ((o : ℕ) × (act.governed.owner ≡ Some o) × (is_under acts f o ≡ true))
  under_cases b act found h = elim (or_cases (same_finish act.governed f) (option_map_or (is_under acts f) act.governed.owner false) (sym (under_is b act found) ∙ h)) [
    | inl e ↦ inl (finish_is act.governed f e)
    | inr g ↦ inr (owner act.governed.owner refl g)
  ]
    where
      owner : (o : Option ℕ) → act.governed.owner ≡ o → option_map_or (is_under acts f) o false ≡ true → (z : ℕ) × (act.governed.owner ≡ Some z) × (is_under acts f z ≡ true)
      owner None e g = absurd (false≢true g)
      owner (Some z) e g = (z, e, g)

  -- who is under a finish that somebody owns has a greater number
  pub under_above : (n b o : ℕ) → b < n → f.owner ≡ Some o → (act : Activity) → slice_get acts b ≡ Some act → is_under acts f b ≡ true → o < b
  under_above zero b o less e act found h = absurd (omega arith)
  under_above (suc n) b o less e act found h = elim (under_cases b act found h) [
    | inl same ↦ owned b act found o (ap (λ g. g.owner) same ∙ e)
    | inr p ↦
        (let below = owned b act found p.0 p.1 in
        let x = get_inside acts p.0 (let inside = slice_get_within acts b act found in omega arith) in
        let above = under_above n p.0 o (omega arith) e x.0 x.1 p.2 in omega arith)
  ]

-- ---- who is awaited

-- somebody under the finish who hasn't ended
pub record IsAwaited (acts : List Activity) (f : Finish) : Type 0 where
  pub b : ℕ
  pub act : Activity
  pub found : slice_get acts b ≡ Some act
  pub under : is_under acts f b ≡ true
  pub alive : is_ended act.status ≡ false

pub awaited : (acts : List Activity) (f : Finish) → awaits acts f ≡ true → IsAwaited acts f
awaited acts f h = from 0 acts (λ j x e. (let same : j ≡ 0 + j = omega arith in ap (slice_get acts) (sym same) ∙ e)) h
  where
    from : (n : ℕ) (xs : List Activity) → ((j : ℕ) (x : Activity) → slice_get xs j ≡ Some x → slice_get acts (n + j) ≡ Some x) → awaits_from acts f n xs ≡ true → IsAwaited acts f
    from n [] at g = absurd (false≢true g)
    from n (x ∷ xs) at g = elim (or_cases (is_under acts f n && not (is_ended x.status)) (awaits_from acts f (suc n) xs) g) [
      | inl here ↦
          (let p = and_parts (is_under acts f n) (not (is_ended x.status)) here in
          let same : n + 0 ≡ n = omega arith in
          record { b = n; act = x; found = ap (slice_get acts) (sym same) ∙ at 0 x refl; under = p.0; alive = not-true (is_ended x.status) p.1 })
      | inr later ↦ from (suc n) xs (λ j y e. (let same : suc n + j ≡ n + suc j = omega arith in ap (slice_get acts) same ∙ at (suc j) y e)) later
    ]
