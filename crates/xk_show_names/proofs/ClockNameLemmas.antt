-- Names that were there before.
use Rattle.std.proofs.Common.{◌≡◌, ◌∙◌, ℕ, suc, ◌+◌, ◌<◌, ◌≤◌, Bool, true, false, cond, Bor, List, [], ◌∷◌, ◌++◌, length, map, take}
use Rattle.std.proofs.Common.{count_by, get_or, Some, bytes_eq, refl, sym, ap, subst, arith}
use Rattle.std.specs.Prelude.{unwrap_or, if◌then◌else◌}
use Rattle.std.specs.BTreeMap.{BTreeMap, UpdatesBy, get_by}
use Rattle.std.specs.Cmp.Lexicographic.{bytes_decides, nat_list_eq_equiv, slice_cmp}
use Rattle.std.specs.Ordering.{nat_cmp}
use Rattle.std.proofs.lemmas.List.Sums.{count_by-le-length, sum_by_more}
use Rattle.std.proofs.lemmas.Map.Text.{btree_map_updates_str}
use Rattle.std.proofs.lemmas.List.{get_or-map, length-map, length-take-le}
use Rattle.xk_show_events.specs.Worlds.{each_below}
use Rattle.xk_show_names.specs.ClockNames.{among, is_text, numbered}
use Rattle.xk_show_names.specs.NameCounts.{AreCounted, count_of}

-- a name is there once more
pub count_more : (old new : BTreeMap (Bor (List ℕ)) ℕ) (name : List ℕ) (n : ℕ) → n ≡ count_of old name
    → UpdatesBy (λ x y. slice_cmp nat_cmp x.now y.now) (λ k. slice_cmp nat_cmp name k.now) old new (Some (n + 1))
    → (x : List ℕ) → count_of new x ≡ count_of old x + (if is_text x name then 1 else 0)
count_more old new name n is h x =
    ap (λ o. unwrap_or o 0) (btree_map_updates_str name old new (Some (n + 1)) h x) ∙ of (bytes_eq name x) refl
  where
    of : (b : Bool) → bytes_eq name x ≡ b
        → unwrap_or (cond b (Some (n + 1)) (get_by (λ k. slice_cmp nat_cmp x k.now) old)) 0
        ≡ count_of old x + (if is_text x name then 1 else 0)
    of true e =
        let same : name ≡ x = (bytes_decides name x).0 e in
        let was : n ≡ count_of old x = subst (λ y. n ≡ count_of old y) same is in
        let here : is_text x name ≡ true = nat_list_eq_equiv.symm x name ∙ e in
        omega (arith, was, ap {B = ℕ} (λ b. cond b 1 0) here)
    of false e =
        let differs : is_text x name ≡ false = nat_list_eq_equiv.symm x name ∙ e in
        omega (arith, ap {B = ℕ} (λ b. cond b 1 0) differs)

-- and so it is counted
pub counted_more : (old new : BTreeMap (Bor (List ℕ)) ℕ) (names : List (List ℕ)) (i : ℕ) (z : List ℕ) → i < length names
    → AreCounted old (take i names)
    → ((x : List ℕ) → count_of new x ≡ count_of old x + (if is_text x (get_or names i z) then 1 else 0))
    → AreCounted new (take (i + 1) names)
counted_more old new names i z inside are more x =
    more x ∙ ap (λ k. k + (if is_text x (get_or names i z) then 1 else 0)) (are x)
    ∙ sym (sum_by_more (λ y. cond (is_text x y) 1 0) names i z inside)

-- no name was there more often than names were come to
pub few : (counts : BTreeMap (Bor (List ℕ)) ℕ) (names : List (List ℕ)) (i : ℕ) (x : List ℕ) → i < length names
    → AreCounted counts (take i names) → count_of counts x ≤ i
few counts names i x inside are =
    omega (arith, are x, count_by-le-length (is_text x) (take i names), length-take-le i names (omega (arith, inside)))

-- ---- the next name

-- It has its number, and is counted.
pub next_name : {X : Type 0} (f : X → List ℕ) (xs : List X) (i : ℕ) (z : X) (old new : BTreeMap (Bor (List ℕ)) ℕ)
    (list more : List (List ℕ)) (before : ℕ) → i < length xs
    → (list ≡ each_below (λ k. numbered (map f xs) k ∷ []) i) × AreCounted old (take i (map f xs))
    → before ≡ count_of old (f (get_or xs i z))
    → ((x : List ℕ) → count_of new x ≡ count_of old x + (if is_text x (f (get_or xs i z)) then 1 else 0))
    → more ≡ list ++ (f (get_or xs i z) ++ among before) ∷ []
    → (more ≡ each_below (λ k. numbered (map f xs) k ∷ []) (i + 1)) × AreCounted new (take (i + 1) (map f xs))
next_name f xs i z old new list more before inside so_far is once grown =
    let names = map f xs in
    let here : get_or names i [] ≡ f (get_or xs i z) = get_or-map f xs i z [] inside in
    let within : i < length names = omega (arith, inside, length-map xs f) in
    let next : suc i ≡ i + 1 = omega arith in
    let counted : before ≡ count_by (is_text (get_or names i [])) (take i names) =
    subst (λ x. before ≡ count_of old x) (sym here) is ∙ so_far.1 (get_or names i []) in (
      grown ∙ ap (λ x. list ++ (x ++ among before) ∷ []) (sym here)
          ∙ ap (λ k. list ++ (get_or names i [] ++ among k) ∷ []) counted
          ∙ ap (λ l. l ++ numbered names i ∷ []) so_far.0
          ∙ ap (λ k. each_below (λ j. numbered names j ∷ []) k) next,
      counted_more old new names i [] within so_far.1
          (λ x. subst (λ y. count_of new x ≡ count_of old x + (if is_text x y then 1 else 0)) (sym here) (once x)),
    )
