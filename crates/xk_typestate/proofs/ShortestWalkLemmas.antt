-- The walk that a search finds to a stop is a shortest one: stops are come to from earlier ones first.
use Rattle.std.proofs.Common.{◌≡◌, ℕ, zero, suc, ◌+◌, ◌<◌, ◌≤◌, List, [], ◌∷◌, length, Option, Some, None, inl, inr, refl, sym, ◌∙◌, subst, arith}
use Rattle.std.proofs.lemmas.Option.{slice_get_within}
use Rattle.std.proofs.lemmas.Bool.{cases_lt}
use Rattle.xk_types.specs.declared.rules.Visit.{Visit}
use Rattle.xk_types.specs.Code.{UnitValue, ModuleValue}
use Rattle.xk_types.specs.Order.{Has}
use Rattle.xk_types.specs.Walk.{IsEdge, IsWalk, Continues, last_of, EndsAt, entry_kinds}
use Rattle.xk_typestate.specs.Place.{visit}
use Rattle.xk_typestate.specs.Search.{IsFound, Came, NotBehind, IsComplete}
use Rattle.xk_typestate.specs.SearchStops.{StopsBack, IsFirstPlaceOf}
use Rattle.xk_typestate.specs.LeastRefusal.{IsShortest}
use Rattle.xk_typestate.specs.declared.fixed_point.Found.{Found}
use Rattle.xk_typestate.specs.declared.fixed_point.Search.{Search}
use Rattle.xk_typestate.proofs.EdgeLemmas.{same_visit}
use Rattle.xk_typestate.proofs.WalkBackLemmas.{same_found}

-- a stop is found, and it takes no more stops than that to go back to where a walk begins
record IsReached (found : List Found) (most : ℕ) (q : Visit) : Type 0 where
  pub place : ℕ
  pub f : Found
  pub found_there : IsFound found place f
  pub stop : f.stop ≡ q
  pub stops : ℕ
  pub back : StopsBack found (Some place) stops
  pub few : stops ≤ most

module _ (m : ModuleValue) (u : UnitValue) (s : ℕ) (r : Search) (whole : IsComplete m u s r) where
  abbrev all : List Found
  all = r.found.items

  -- from a later place it takes no fewer
  takes_more : (a b : ℕ) (o p : Option ℕ) → NotBehind o p → StopsBack all o a → StopsBack all p b → a ≤ b
  takes_more a b None p h none back = omega (arith, none)
  takes_more a b (Some n) None h x y = absurd h
  takes_more zero b (Some n) (Some k) h x y = absurd x
  takes_more (suc a) zero (Some n) (Some k) h x y = absurd y
  takes_more (suc a) (suc b) (Some n) (Some k) h x y =
      let le = takes_more a b x.0.from y.0.from (whole.searched.rising n k x.0 y.0 h x.1 y.1) x.2 y.2 in omega arith

  -- from each place one comes back
  goes_back : (bound n : ℕ) (f : Found) → n < bound → IsFound all n f → (stops : ℕ) × StopsBack all (Some n) stops
  goes_back zero n f lt at = absurd (omega arith)
  goes_back (suc bound) n f lt at = go f.from refl (λ j g less there. goes_back bound j g (omega arith) there) (whole.searched.came n f at)
    where
      go : (from : Option ℕ) → f.from ≡ from → ((j : ℕ) (g : Found) → j < n → IsFound all j g → (stops : ℕ) × StopsBack all (Some j) stops)
          → Came m u s all n f.stop from → (stops : ℕ) × StopsBack all (Some n) stops
      go None e before c = (1, (f, at, subst (λ o. StopsBack all o 0) (sym e) refl))
      go (Some j) e before c = let d = before j c.1.0 c.0 c.1.1 in (suc d.0, (f, at, subst (λ o. StopsBack all o d.0) (sym e) d.1))

  reached_first : (q : Visit) → q.at ≡ 0 → Has (entry_kinds u s) q.kind → IsReached all 1 q
  reached_first q at_first has =
      let at = whole.begun q.kind has in
      record {
        place = at.0;
        f = at.1;
        found_there = at.2;
        stop = at.3 ∙ same_visit (visit 0 q.kind) q (sym at_first) refl;
        stops = 1;
        back = (at.1, at.2, subst (λ o. StopsBack all o 0) (sym at.4) refl);
        few = omega arith;
      }

  reached_next : (most : ℕ) (p q : Visit) → IsReached all most p → IsEdge m u s p q → IsReached all (suc most) q
  reached_next most p q at edge =
      let next = whole.searched.prompt at.place at.f q at.found_there (slice_get_within all at.place at.f at.found_there) (subst (λ x. IsEdge m u s x q) (sym at.stop) edge) in
      let d = goes_back (suc next.place) next.place next.f (omega arith) next.found_there in
      record {
        place = next.place;
        f = next.f;
        found_there = next.found_there;
        stop = next.stop;
        stops = d.0;
        back = d.1;
        few = few d.0 next.place next.f next.found_there next.from d.1;
      }
    where
      few : (stops place : ℕ) (f : Found) → IsFound all place f → NotBehind f.from (Some at.place) → StopsBack all (Some place) stops → stops ≤ suc most
      few zero place f there from back = absurd back
      few (suc stops) place f there from back =
          let same = same_found all place f back.0 there back.1 in
          let le = takes_more stops at.stops back.0.from (Some at.place) (subst (λ (x : Found). NotBehind x.from (Some at.place)) same from) back.2 at.back in
          omega (arith, at.few)

  reached_along : (most : ℕ) (p : Visit) (rest : List Visit) → IsReached all most p → Continues m u s p rest → IsReached all (most + length rest) (last_of p rest)
  reached_along most p [] at goes = let same : most ≡ most + 0 = omega arith in subst (λ n. IsReached all n p) same at
  reached_along most p (q ∷ rest) at goes =
      let same : suc most + length rest ≡ most + suc (length rest) = omega arith in
      subst (λ n. IsReached all n (last_of q rest)) same (reached_along (suc most) q rest (reached_next most p q at goes.0) goes.1)

  reached : (walk : List Visit) (q : Visit) → IsWalk m u s walk → EndsAt walk q → IsReached all (length walk) q
  reached [] q walk ends = absurd walk
  reached (p ∷ rest) q walk ends =
      let same : 1 + length rest ≡ suc (length rest) = omega arith in
      subst (λ n. IsReached all n q) same (subst (λ x. IsReached all (1 + length rest) x) ends (reached_along 1 p rest (reached_first p walk.0 walk.1) walk.2))

  pub shortest : (q : Visit) (place : ℕ) (walk : List Visit) → IsFirstPlaceOf all q place → StopsBack all (Some place) (length walk) → IsShortest m u s q walk
  shortest q place walk first back other is ends =
      let at = reached other q is ends in
      elim (cases_lt at.place place) [
        | inl before ↦ absurd (first.1 at.place before (at.f, at.found_there, at.stop))
        | inr not_before ↦ let le = takes_more (length walk) at.stops (Some place) (Some at.place) not_before back at.back in omega (arith, at.few)
      ]
