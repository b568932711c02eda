-- Walks: one begins with an entry kind and goes on over an edge, and a set that has the entry kinds and is closed under edges has all that
-- is visited.
use Rattle.std.proofs.Common.{◌≡◌, ℕ, List, [], ◌∷◌, ◌++◌, refl, sym, subst}
use Rattle.xk_types.specs.declared.rules.Kind.{Kind}
use Rattle.xk_types.specs.declared.rules.Visit.{Visit}
use Rattle.xk_types.specs.Code.{UnitValue, ModuleValue}
use Rattle.xk_types.specs.Order.{Has}
use Rattle.xk_types.specs.Walk.{IsEdge, IsWalk, Continues, last_of, EndsAt, IsVisited, entry_kinds}

-- a list of stops that goes on to one more
continues_on : (m : ModuleValue) (u : UnitValue) (s : ℕ) (p : Visit) (rest : List Visit) (q : Visit)
    → Continues m u s p rest → IsEdge m u s (last_of p rest) q → Continues m u s p (rest ++ q ∷ [])
continues_on m u s p [] q c e = (e, tt)
continues_on m u s p (r ∷ rest) q c e = (c.0, continues_on m u s r rest q c.1 e)

-- its last stop is that one
last_on : (p : Visit) (rest : List Visit) (q : Visit) → last_of p (rest ++ q ∷ []) ≡ q
last_on p [] q = refl
last_on p (r ∷ rest) q = last_on r rest q

-- a walk goes on over an edge
pub visited_on : (m : ModuleValue) (u : UnitValue) (s : ℕ) (p q : Visit) → IsVisited m u s p → IsEdge m u s p q → IsVisited m u s q
visited_on m u s p q v e = go v.0 v.1 v.2
  where
    go : (walk : List Visit) → IsWalk m u s walk → EndsAt walk p → IsVisited m u s q
    go [] w ends = absurd w
    go (r ∷ rest) w ends =
        (r ∷ (rest ++ q ∷ []), (w.0, w.1, continues_on m u s r rest q w.2 (subst (λ x. IsEdge m u s x q) (sym ends) e)), last_on r rest q)

-- a slot is visited at the unit's first instruction with each of its entry kinds
pub visited_start : (m : ModuleValue) (u : UnitValue) (s : ℕ) (q : Visit) → q.at ≡ 0 → Has (entry_kinds u s) q.kind → IsVisited m u s q
visited_start m u s q e h = (q ∷ [], (e, h, tt), refl)

pub visited_entry : (m : ModuleValue) (u : UnitValue) (s : ℕ) (k : Kind) → Has (entry_kinds u s) k → IsVisited m u s (record { at = 0; kind = k })
visited_entry m u s k h = visited_start m u s (record { at = 0; kind = k }) refl h

-- a set closed under edges keeps along a walk
closed_along : (m : ModuleValue) (u : UnitValue) (s : ℕ) (S : Visit → Type 0) → ((p q : Visit) → S p → IsEdge m u s p q → S q)
    → (p : Visit) (rest : List Visit) → S p → Continues m u s p rest → S (last_of p rest)
closed_along m u s S closed p [] h c = h
closed_along m u s S closed p (q ∷ rest) h c = closed_along m u s S closed q rest (closed p q h c.0) c.1

-- a set that has the entry kinds and is closed under edges has all that is visited
pub visited_closed : (m : ModuleValue) (u : UnitValue) (s : ℕ) (S : Visit → Type 0)
    → ((p : Visit) → p.at ≡ 0 → Has (entry_kinds u s) p.kind → S p)
    → ((p q : Visit) → S p → IsEdge m u s p q → S q)
    → (q : Visit) → IsVisited m u s q → S q
visited_closed m u s S entry closed q v = go v.0 v.1 v.2
  where
    go : (walk : List Visit) → IsWalk m u s walk → EndsAt walk q → S q
    go [] w ends = absurd w
    go (p ∷ rest) w ends = subst S ends (closed_along m u s S closed p rest (entry p w.0 w.1) w.2)
