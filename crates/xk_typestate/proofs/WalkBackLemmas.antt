-- The walk of a refusal, from its end back to its beginning, by the stop that each was come to from.
use Rattle.std.proofs.Common.{◌≡◌, ℕ, ◌+◌, ◌<◌, List, [], ◌∷◌, ◌++◌, length, get_or, reverse, inl, inr, arith, Option, Some, None, sym, ap, ◌∙◌, subst}
use Rattle.std.proofs.lemmas.List.{reverse-append}
use Rattle.std.proofs.lemmas.Option.{same_Some, slice_get-get_or}
use Rattle.std.proofs.lemmas.Bool.{cases_lt}
use Rattle.xk_types.specs.declared.rules.Visit.{Visit}
use Rattle.xk_types.specs.Code.{UnitValue, ModuleValue}
use Rattle.xk_types.specs.Walk.{IsEdge, IsWalk, Continues, last_of, EndsAt}
use Rattle.xk_typestate.specs.Search.{IsFound, Came}
use Rattle.xk_typestate.specs.SearchStops.{IsPlaceOf, HasCome}
use Rattle.xk_typestate.specs.declared.fixed_point.Found.{Found}

pub same_found : (found : List Found) (n : ℕ) (f g : Found) → IsFound found n f → IsFound found n g → f ≡ g
same_found found n f g h k = same_Some f g (sym h ∙ k)

-- the stop stands nowhere below a place, and not there
pub nowhere_more : (found : List Found) (q : Visit) (i : ℕ) (d : Found) → i < length found → ((get_or found i d).stop ≡ q → ⊥)
    → ((n : ℕ) → n < i → IsPlaceOf found q n → ⊥) → (n : ℕ) → n < i + 1 → IsPlaceOf found q n → ⊥
nowhere_more found q i d inside other below n lt h =
    elim (cases_lt n i) [
      | inl before ↦ below n before h
      | inr last ↦
          let same : n ≡ i = omega arith in
          let f = h.0 in
          let there : IsFound found i f = subst (λ k. IsFound found k f) same h.1 in
          other (ap (λ (x : Found). x.stop) (same_found found i (get_or found i d) f (slice_get-get_or found i d inside) there) ∙ h.2)
    ]

module _ (m : ModuleValue) (u : UnitValue) (s : ℕ) (found : List Found) (place : ℕ) where
  -- the stops so far, last first, go on from the stop at the next place to the end
  abbrev pub IsBack : List Visit → Option ℕ → Type 0
  IsBack back None = IsWalk m u s (reverse back) × ((q : Visit) → IsPlaceOf found q place → EndsAt (reverse back) q)
  IsBack back (Some n) = (f : Found) → IsFound found n f → Continues m u s f.stop (reverse back) × ((q : Visit) → IsPlaceOf found q place → last_of f.stop (reverse back) ≡ q)

  back_before : (rest : List Visit) (f : Found) (n : ℕ) (from : Option ℕ) → Came m u s found n f.stop from
      → Continues m u s f.stop rest → ((q : Visit) → IsPlaceOf found q place → last_of f.stop rest ≡ q)
      → (back : List Visit) → reverse back ≡ f.stop ∷ rest → IsBack back from
  back_before rest f n None came goes ends back is =
      subst (λ x. IsWalk m u s x × ((q : Visit) → IsPlaceOf found q place → EndsAt x q)) (sym is) ((came.0, came.1, goes), ends)
  back_before rest f n (Some j) came goes ends back is = λ g h.
      let edge = subst (λ (x : Found). IsEdge m u s x.stop f.stop) (same_found found j came.1.0 g came.1.1 h) came.1.2 in
      subst (λ x. Continues m u s g.stop x × ((q : Visit) → IsPlaceOf found q place → last_of g.stop x ≡ q)) (sym is) ((edge, goes), ends)

  pub back_more : (back new : List Visit) (n : ℕ) (f : Found) → HasCome m u s found → IsBack back (Some n) → IsFound found n f → new ≡ back ++ f.stop ∷ [] → IsBack new f.from
  back_more back new n f come so_far h is =
      let goes = so_far f h in
      back_before (reverse back) f n f.from (come n f h) goes.0 goes.1 new (ap reverse is ∙ reverse-append back (f.stop ∷ []))
