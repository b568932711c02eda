-- A step of one activity leaves it as it was whether somebody under a finish of another is awaited.
use Rattle.std.proofs.Common.{◌≡◌, ℕ, zero, suc, ◌+◌, ◌<◌, ◌≤◌, ◌==◌, ◌&&◌, not, Bool, true, false, List, [], ◌∷◌, ◌++◌, length, Option, Some, None, inl, inr, ◌⊎◌, refl, sym, ap, ◌∙◌, subst, arith, slice_get, slice_set, option_map, length-set, eqb-true}
use Rattle.std.proofs.lemmas.Bool.{eqb-false, or_left, or_right, and_from}
use Rattle.std.proofs.lemmas.Option.{none-some, same_Some, slice_get_within}
use Rattle.xk_types.specs.World.{Finish, Activity, is_ended}
use Rattle.xk_types.specs.Step.{is_under, awaits, awaits_from}
use Rattle.xk_types.proofs.ListLemmas.{Each, each_set, get_inside, get-set_same, get-set_other, get_push, get-push_other, get-append_left}
use Rattle.xk_types.proofs.MembershipLemmas.{same_test}
use Rattle.xk_law_schedules.proofs.ScopeLemmas.Invariant.{finish_at}
use Rattle.xk_law_schedules.proofs.ScopeLemmas.FinishOwnerLemmas.{AreOwned, under_governed, under_owner, under_cases, IsAwaited, awaited}

-- two numbers are one, or they aren't
pub same_or_not : (x y : ℕ) → (x ≡ y) ⊎ (x ≡ y → ⊥)
same_or_not x y = cases (x == y) refl
  where
    cases : (b : Bool) → (x == y) ≡ b → (x ≡ y) ⊎ (x ≡ y → ⊥)
    cases true e = inl (eqb-true x y e)
    cases false e = inr (eqb-false x y e)

-- whoever is under the finish and hasn't ended is awaited
pub awaits_given : (acts : List Activity) (f : Finish) → IsAwaited acts f → awaits acts f ≡ true
awaits_given acts f i = (let same : i.b ≡ 0 + i.b = omega arith in from 0 acts i.b i.act i.found (subst (λ z. is_under acts f z ≡ true) same i.under) i.alive)
  where
    from : (n : ℕ) (xs : List Activity) (k : ℕ) (x : Activity) → slice_get xs k ≡ Some x → is_under acts f (n + k) ≡ true → is_ended x.status ≡ false
        → awaits_from acts f n xs ≡ true
    from n [] k x found under alive = absurd (none-some x found)
    from n (y ∷ ys) zero x found under alive =
        let same : n + 0 ≡ n = omega arith in
        or_left (is_under acts f n && not (is_ended y.status)) (awaits_from acts f (suc n) ys)
        (and_from (is_under acts f n) (not (is_ended y.status)) (subst (λ z. is_under acts f z ≡ true) same under)
        (ap (λ (z : Activity). not (is_ended z.status)) (same_Some y x found) ∙ ap not alive))
    from n (y ∷ ys) (suc k) x found under alive =
        let same : n + suc k ≡ suc n + k = omega arith in
        or_right (is_under acts f n && not (is_ended y.status)) (awaits_from acts f (suc n) ys)
        (from (suc n) ys k x found (subst (λ z. is_under acts f z ≡ true) same under) alive)

-- ---- finishes that are open

-- activity o hasn't ended, and has a finish open at this depth
pub record HasOpen (acts : List Activity) (o depth : ℕ) : Type 0 where
  pub x : Activity
  pub found : slice_get acts o ≡ Some x
  pub alive : is_ended x.status ≡ false
  pub some : 0 < depth
  pub within : depth ≤ x.opened

-- an activity that hasn't ended is governed by a finish that its owner has open
abbrev pub IsOpen : List Activity → Activity → Type 0
IsOpen acts act = is_ended act.status ≡ false → (o : ℕ) → act.governed.owner ≡ Some o → HasOpen acts o act.governed.depth

abbrev pub AreOpen : List Activity → Type 0
AreOpen acts = Each (λ b act. IsOpen acts act) acts

-- ---- under the finish

-- the finish that governs
abbrev governs : Option Activity → Option Finish
governs o = option_map (λ (x : Activity). x.governed) o

governed_is : (o : Option Activity) (g : Finish) → governs o ≡ Some g → (y : Activity) × (o ≡ Some y) × (y.governed ≡ g)
governed_is None g h = absurd (none-some g h)
governed_is (Some y) g h = (y, refl, same_Some y.governed g h)

-- the first k of both are governed by the same
abbrev AreAlike : ℕ → List Activity → List Activity → Type 0
AreAlike k acts others = (b : ℕ) → b < k → governs (slice_get others b) ≡ governs (slice_get acts b)

-- who is under the finish here is so there
under_kept : (acts others : List Activity) → AreOwned acts → AreOwned others → (f : Finish) (n k : ℕ) → AreAlike k acts others → (b : ℕ) → b < n → n ≤ k → b < length acts
    → is_under acts f b ≡ true → is_under others f b ≡ true
under_kept acts others owned theirs f zero k alike b less within inside under = absurd (omega arith)
under_kept acts others owned theirs f (suc n) k alike b less within inside under = by (under_kept acts others owned theirs f n k alike)
  where
    x : (act : Activity) × (slice_get acts b ≡ Some act)
    x = get_inside acts b inside

    y : (act : Activity) × (slice_get others b ≡ Some act) × (act.governed ≡ x.0.governed)
    y = governed_is (slice_get others b) x.0.governed (alike b (omega arith) ∙ ap governs x.1)

    by : ((o : ℕ) → o < n → n ≤ k → o < length acts → is_under acts f o ≡ true → is_under others f o ≡ true) → is_under others f b ≡ true
    by smaller = elim (under_cases acts owned f b x.0 x.1 under) [
      | inl g ↦ under_governed others theirs f b y.0 y.1 (y.2 ∙ g)
      | inr p ↦
          (let before = owned b x.0 x.1 p.0 p.1 in
          under_owner others theirs f b p.0 y.0 y.1 (ap (λ (g : Finish). g.owner) y.2 ∙ p.1) (smaller p.0 (omega arith) (omega arith) (omega arith) p.2))
    ]

-- ---- one activity changes

module _ (acts : List Activity) (owned : AreOwned acts) (a : ℕ) (act next : Activity) (found : slice_get acts a ≡ Some act)
    (governed : next.governed ≡ act.governed) (f : Finish) where
  abbrev after : List Activity
  after = slice_set acts a next

  alike_set : (b : ℕ) → governs (slice_get after b) ≡ governs (slice_get acts b)
  alike_set b = elim (same_or_not b a) [
    | inl same ↦
        ap (λ n. governs (slice_get after n)) same ∙ ap governs (get-set_same acts a act next found) ∙ ap (λ g. Some g) governed
        ∙ sym (ap (λ n. governs (slice_get acts n)) same ∙ ap governs found)
    | inr differs ↦ ap governs (get-set_other acts a b next differs)
  ]

  -- the same finishes govern, of the same owners
  pub owned_set : AreOwned after
  owned_set = each_set (λ b (x : Activity). (o : ℕ) → x.governed.owner ≡ Some o → o < b) acts a act next found
      (λ o own. owned a act found o (ap (λ (g : Finish). g.owner) (sym governed) ∙ own)) (λ b x differs at. owned b x at)

  under_after : (b : ℕ) → b < length acts → is_under acts f b ≡ true → is_under after f b ≡ true
  under_after b inside = under_kept acts after owned owned_set f (length acts) (length acts) (λ n less. alike_set n) b inside (omega arith) inside

  under_before : (b : ℕ) → b < length acts → is_under after f b ≡ true → is_under acts f b ≡ true
  under_before b inside = under_kept after acts owned_set owned f (length acts) (length acts) (λ n less. sym (alike_set n)) b inside (omega arith)
      (omega (arith, length-set acts a next))

  -- who is awaited after the change was so before it
  awaited_before : is_ended act.status ≡ false → IsAwaited after f → IsAwaited acts f
  awaited_before alive i = elim (same_or_not i.b a) [
    | inl same ↦ record {
      b = a;
      act = act;
      found = found;
      under = under_before a (slice_get_within acts a act found) (subst (λ n. is_under after f n ≡ true) same i.under);
      alive = alive;
    }
    | inr differs ↦
        (let at = sym (get-set_other acts a i.b next differs) ∙ i.found in
        record { b = i.b; act = i.act; found = at; under = under_before i.b (slice_get_within acts i.b i.act at) i.under; alive = i.alive })
  ]

  -- and the reverse, if it is so of the one that changes
  awaited_after : (is_under acts f a ≡ true → IsAwaited after f) → IsAwaited acts f → IsAwaited after f
  awaited_after here i = elim (same_or_not i.b a) [
    | inl same ↦ here (subst (λ n. is_under acts f n ≡ true) same i.under)
    | inr differs ↦
        record {
          b = i.b;
          act = i.act;
          found = get-set_other acts a i.b next differs ∙ i.found;
          under = under_after i.b (slice_get_within acts i.b i.act i.found) i.under;
          alive = i.alive;
        }
  ]

  -- where it goes on, whoever was awaited is
  pub awaits_on : is_ended act.status ≡ false → is_ended next.status ≡ false → awaits after f ≡ awaits acts f
  awaits_on alive going = same_test (awaits after f) (awaits acts f)
      (λ h. awaits_given acts f (awaited_before alive (awaited after f h)))
      (λ h. awaits_given after f (awaited_after
      (λ under. record {
        b = a;
        act = next;
        found = get-set_same acts a act next found;
        under = under_after a (slice_get_within acts a act found) under;
        alive = going;
      }) (awaited acts f h)))

  -- Where it ends, the owner of what governs it is awaited in its place, if that isn't the finish itself.
  pub awaits_end : is_ended act.status ≡ false → AreOpen acts → (act.governed ≡ f → ⊥) → awaits after f ≡ awaits acts f
  awaits_end alive each another = same_test (awaits after f) (awaits acts f)
      (λ h. awaits_given acts f (awaited_before alive (awaited after f h)))
      (λ h. awaits_given after f (awaited_after owner (awaited acts f h)))
    where
      owner : is_under acts f a ≡ true → IsAwaited after f
      owner under = elim (under_cases acts owned f a act found under) [
        | inl same ↦ absurd (another same)
        | inr p ↦
            (let o = each a act found alive p.0 p.1 in
            let before = owned a act found p.0 p.1 in
            record {
              b = p.0;
              act = o.x;
              found = get-set_other acts a p.0 next (λ e. absurd (omega arith)) ∙ o.found;
              under = under_after p.0 (slice_get_within acts p.0 o.x o.found) p.2;
              alive = o.alive;
            })
      ]

-- ---- one activity more

module _ (acts : List Activity) (owned : AreOwned acts) (a : ℕ) (act : Activity) (found : slice_get acts a ≡ Some act) (alive : is_ended act.status ≡ false) (x : Activity)
    (governed : x.governed ≡ finish_at a act.governed act.opened) (theirs : AreOwned (acts ++ x ∷ [])) (f : Finish) where
  alike_push : AreAlike (length acts) acts (acts ++ x ∷ [])
  alike_push b less = ap governs (get-push_other acts x b (λ e. absurd (omega arith)))

  under_more : (b : ℕ) → b < length acts → is_under acts f b ≡ true → is_under (acts ++ x ∷ []) f b ≡ true
  under_more b inside = under_kept acts (acts ++ x ∷ []) owned theirs f (length acts) (length acts) alike_push b inside (omega arith) inside

  under_less : (b : ℕ) (y : Activity) → b < length acts → slice_get (acts ++ x ∷ []) b ≡ Some y → is_under (acts ++ x ∷ []) f b ≡ true → is_under acts f b ≡ true
  under_less b y inside at = under_kept (acts ++ x ∷ []) acts theirs owned f (length acts) (length acts) (λ n less. sym (alike_push n less)) b inside
      (omega arith) (slice_get_within (acts ++ x ∷ []) b y at)

  -- where the new one is under the finish of another, its starter is
  starter_under : (f.owner ≡ Some a → ⊥) → is_under (acts ++ x ∷ []) f (length acts) ≡ true → is_under acts f a ≡ true
  starter_under another under = by act.opened governed (under_cases (acts ++ x ∷ []) theirs f (length acts) x (get_push acts x) under)
    where
      inside : a < length acts
      inside = slice_get_within acts a act found

      by : (n : ℕ) → x.governed ≡ finish_at a act.governed n → (x.governed ≡ f)
          ⊎ ((o : ℕ) × (x.governed.owner ≡ Some o) × (is_under (acts ++ x ∷ []) f o ≡ true)) → is_under acts f a ≡ true
      by zero e (inl g) = under_governed acts owned f a act found (sym e ∙ g)
      by zero e (inr p) =
          let own : act.governed.owner ≡ Some p.0 = ap (λ (g : Finish). g.owner) (sym e) ∙ p.1 in
          let before = owned a act found p.0 own in
          let y = get_inside acts p.0 (omega (arith, before, inside)) in
          under_owner acts owned f a p.0 act found own (under_less p.0 y.0 (omega (arith, before, inside)) (get-append_left acts (x ∷ []) p.0 y.0 y.1) p.2)
      by (suc n) e (inl g) = absurd (another (ap (λ (g : Finish). g.owner) (sym g ∙ e)))
      by (suc n) e (inr p) =
          let same : a ≡ p.0 = same_Some a p.0 (ap (λ (g : Finish). g.owner) (sym e) ∙ p.1) in
          under_less a act inside (get-append_left acts (x ∷ []) a act found) (subst (λ z. is_under (acts ++ x ∷ []) f z ≡ true) (sym same) p.2)

  -- so whoever was awaited is, and nobody else
  pub awaits_push : (f.owner ≡ Some a → ⊥) → awaits (acts ++ x ∷ []) f ≡ awaits acts f
  awaits_push another = same_test (awaits (acts ++ x ∷ []) f) (awaits acts f) (λ h. awaits_given acts f (before (awaited (acts ++ x ∷ []) f h)))
      (λ h. awaits_given (acts ++ x ∷ []) f (after_push (awaited acts f h)))
    where
      after_push : IsAwaited acts f → IsAwaited (acts ++ x ∷ []) f
      after_push i = record {
        b = i.b;
        act = i.act;
        found = get-append_left acts (x ∷ []) i.b i.act i.found;
        under = under_more i.b (slice_get_within acts i.b i.act i.found) i.under;
        alive = i.alive;
      }

      before : IsAwaited (acts ++ x ∷ []) f → IsAwaited acts f
      before i = elim (same_or_not i.b (length acts)) [
        | inl same ↦ record { b = a; act = act; found = found; under = starter_under another (subst (λ n. is_under (acts ++ x ∷ []) f n ≡ true) same i.under); alive = alive }
        | inr differs ↦
            (let at = sym (get-push_other acts x i.b differs) ∙ i.found in
            record { b = i.b; act = i.act; found = at; under = under_less i.b i.act (slice_get_within acts i.b i.act at) i.found i.under; alive = i.alive })
      ]
