-- One digest more behind those that are linked.
use Rattle.std.proofs.Common.{◌≡◌, ◌⊎◌, inl, inr, ◌∙◌, ℕ, suc, ◌+◌, ◌<◌, ◌≤◌, Bool, true, false, cond}
use Rattle.std.proofs.Common.{nat_eq, List, [], ◌∷◌, ◌++◌, length, Option, Some, slice_get, refl, sym, ap, subst, arith}
use Rattle.std.specs.Prelude.{unwrap_or}
use Rattle.std.proofs.lemmas.Bool.{true≢false}
use Rattle.std.proofs.lemmas.Bool.Decides.{Decides-eqb}
use Rattle.std.proofs.lemmas.List.{length_push}
use Rattle.std.proofs.lemmas.Option.{slice_get_within}
use Rattle.indexmap.specs.IndexMap.{IndexMap, Updates, get}
use Rattle.xk_digests.specs.Digests.{AreLinked, IsLast, place_in}
use Rattle.xk_types.proofs.ListLemmas.{get-append_left as stays, get_push as at_end}
use Rattle.xk_readings.proofs.ListLemmas.{place}

-- what is last of some is so of more
more_behind : (all : List ℕ) (d e n p : ℕ) → n ≤ length all → IsLast all e n p → IsLast (all ++ d ∷ []) e n p
more_behind all d e n p some is = record {
  within = is.within;
  there = λ k at. stays all (d ∷ []) k e (is.there k at);
  none = λ j from to at. by j from to (place all d j e at);
}
  where
    by : (j : ℕ) → p ≤ j → j < n → (slice_get all j ≡ Some e) ⊎ ((j ≡ length all) × (d ≡ e)) → ⊥
    by j from to (inl at) = is.none j from to at
    by j from to (inr at) = let end = at.0 in omega (arith, some, to, end)

module _ (all before : List ℕ) (d p : ℕ) (last new : ℕ → ℕ) (are : AreLinked all before last) (is : IsLast all d (length all) p)
    (says : (q : ℕ) → new q ≡ cond (nat_eq d q) (suc (length all)) (last q)) where
  each_more : (k e q : ℕ) → (slice_get all k ≡ Some e) ⊎ ((k ≡ length all) × (d ≡ e))
      → (slice_get before k ≡ Some q) ⊎ ((k ≡ length before) × (p ≡ q))
      → IsLast (all ++ d ∷ []) e k q
  each_more k e q (inl a) (inl b) =
      let inside = slice_get_within all k e a in
      let some : k ≤ length all = omega (arith, inside) in
      more_behind all d e k q some (are.each k e q a b)
  each_more k e q (inl a) (inr b) =
      let inside = slice_get_within all k e a in
      let end = b.0 in
      let many = are.many in
      absurd (omega (arith, inside, end, many))
  each_more k e q (inr a) (inl b) =
      let inside = slice_get_within before k q b in
      let end = a.0 in
      let many = are.many in
      absurd (omega (arith, inside, end, many))
  each_more k e q (inr a) (inr b) =
      let all_of : length all ≤ length all = omega arith in
      subst (λ n. IsLast (all ++ d ∷ []) e n q) (sym a.0)
      (subst (λ x. IsLast (all ++ d ∷ []) x (length all) q) a.1
      (subst (IsLast (all ++ d ∷ []) d (length all)) b.1 (more_behind all d d (length all) p all_of is)))

  here : (q : ℕ) → d ≡ q → IsLast (all ++ d ∷ []) q (length (all ++ d ∷ [])) (suc (length all))
  here q same =
      let count : length (all ++ d ∷ []) ≡ length all + 1 = length_push all d in
      record {
        within = omega (arith, count);
        there = λ k at. (let end : k ≡ length all = omega (arith, at) in ap (slice_get (all ++ d ∷ [])) end ∙ at_end all d ∙ ap Some same);
        none = λ j from to at. omega (arith, from, to, count);
      }

  elsewhere : (q : ℕ) → (d ≡ q → ⊥) → IsLast (all ++ d ∷ []) q (length (all ++ d ∷ [])) (last q)
  elsewhere q other =
      let count : length (all ++ d ∷ []) ≡ length all + 1 = length_push all d in
      let old = are.latest q in
      let most = old.within in
      record {
        within = omega (arith, count, most);
        there = λ k at. stays all (d ∷ []) k q (old.there k at);
        none = λ j from to at. none j from (place all d j q at);
      }
    where
      none : (j : ℕ) → last q ≤ j → (slice_get all j ≡ Some q) ⊎ ((j ≡ length all) × (d ≡ q)) → ⊥
      none j from (inl at) = (are.latest q).none j from (slice_get_within all j q at) at
      none j from (inr at) = other at.1

  latest_more : (q : ℕ) → IsLast (all ++ d ∷ []) q (length (all ++ d ∷ [])) (new q)
  latest_more q = subst (IsLast (all ++ d ∷ []) q (length (all ++ d ∷ []))) (sym (says q)) (by (nat_eq d q) refl)
    where
      by : (b : Bool) → nat_eq d q ≡ b → IsLast (all ++ d ∷ []) q (length (all ++ d ∷ [])) (cond b (suc (length all)) (last q))
      by true e = here q ((Decides-eqb d q).0 e)
      by false e = elsewhere q (λ same. true≢false (sym ((Decides-eqb d q).1 same) ∙ e))

  linked_more : AreLinked (all ++ d ∷ []) (before ++ p ∷ []) new
  linked_more =
      let digests : length (all ++ d ∷ []) ≡ length all + 1 = length_push all d in
      let places : length (before ++ p ∷ []) ≡ length before + 1 = length_push before p in
      let many = are.many in
      record {
        many = omega (arith, digests, places, many);
        each = λ k e q a b. each_more k e q (place all d k e a) (place before p k q b);
        latest = latest_more;
      }

open_cond : (b : Bool) (n : ℕ) (o : Option ℕ) → unwrap_or (cond b (Some n) o) 0 ≡ cond b n (unwrap_or o 0)
open_cond true n o = refl
open_cond false n o = refl

-- what a push leaves
pub linked_pushed : {S : Type 0} (all before more places : List ℕ) (d p n : ℕ) (old new : IndexMap ℕ ℕ S)
    → AreLinked all before (place_in old)
    → IsLast all d (length all) p → n ≡ length all + 1 → Updates nat_eq old new d (Some n)
    → more ≡ all ++ d ∷ [] → places ≡ before ++ p ∷ [] → AreLinked more places (place_in new)
linked_pushed all before more places d p n old new are is next updates put set =
    let one : n ≡ suc (length all) = omega (arith, next) in
    let linked = linked_more all before d p (place_in old) (place_in new) are is
    (λ q. ap (λ o. unwrap_or o 0) (updates.0 q)
    ∙ open_cond (nat_eq d q) n (get nat_eq old q)
    ∙ ap (λ m. cond (nat_eq d q) m (place_in old q)) one) in
    subst (λ l. AreLinked l places (place_in new)) (sym put) (subst (λ l. AreLinked (all ++ d ∷ []) l (place_in new)) (sym set) linked)
