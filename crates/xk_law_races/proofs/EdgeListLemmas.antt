-- Edges with causes, by which one step is before another: for one pair of steps, and for all pairs of a run at once.
use Rattle.std.proofs.Common.{◌≡◌, ℕ, zero, suc, ◌+◌, ◌<◌, ◌≤◌, ◌⊎◌, inl, inr, List, [], ◌∷◌, ◌++◌, length, Some, refl, sym, ◌∙◌, subst}
use Rattle.std.proofs.Common.{arith}
use Rattle.std.specs.Prelude.{slice_get}
use Rattle.std.proofs.lemmas.Bool.{cases_lt}
use Rattle.std.proofs.lemmas.Option.{none-some}
use Rattle.xk_types.specs.Code.{ModuleValue}
use Rattle.xk_types.specs.World.{World}
use Rattle.xk_types.proofs.ListLemmas.{get-append_left}
use Rattle.xk_law_traces.specs.Edges.{StepName, IsEdge, IsLink, IsWay, IsBefore, IsCause}
use Rattle.xk_law_races.proofs.TurnLemmas.{get_split, get_right}

-- edges between steps, each from a step to a later one
abbrev pub Edges : Type 0
Edges = List (StepName × StepName)

-- ---- edges and ways

-- where there are no edges, each has a cause
pub no_cause : (m : ModuleValue) (w : World) (s : List ℕ) (x y : StepName) → IsEdge [] x y → IsCause m w s x y
no_cause m w s x y h = absurd (none-some (x, y) h.1)

-- an edge of one of two lists is one of both, and the other way round
edge_left : (xs ys : Edges) (x y : StepName) → IsEdge xs x y → IsEdge (xs ++ ys) x y
edge_left xs ys x y h = (h.0, get-append_left xs ys h.0 (x, y) h.1)

edge_right : (xs ys : Edges) (x y : StepName) → IsEdge ys x y → IsEdge (xs ++ ys) x y
edge_right xs ys x y h = (length xs + h.0, get_right xs ys h.0 ∙ h.1)

edge_split : (xs ys : Edges) (x y : StepName) → IsEdge (xs ++ ys) x y → IsEdge xs x y ⊎ IsEdge ys x y
edge_split xs ys x y h = by (get_split xs ys h.0 (x, y) h.1)
  where
    by : ((h.0 < length xs) × (slice_get xs h.0 ≡ Some (x, y))) ⊎ ((j : ℕ) × (h.0 ≡ length xs + j) × (slice_get ys j ≡ Some (x, y)))
        → IsEdge xs x y ⊎ IsEdge ys x y
    by (inl p) = inl (h.0, p.1)
    by (inr p) = inr (p.0, p.2)

-- the second list has each edge of the first
abbrev HasAll : Edges → Edges → Type 0
HasAll xs ys = (x y : StepName) → IsEdge xs x y → IsEdge ys x y

link_more : (xs ys : Edges) → HasAll xs ys → (x y : StepName) → IsLink xs x y → IsLink ys x y
link_more xs ys has x y (inl e) = inl (has x y e)
link_more xs ys has x y (inr o) = inr o

way_more : (xs ys : Edges) → HasAll xs ys → (x : StepName) (zs : List StepName) (y : StepName) → IsWay xs x zs y → IsWay ys x zs y
way_more xs ys has x [] y way = link_more xs ys has x y way
way_more xs ys has x (z ∷ zs) y way = (link_more xs ys has x z way.0, way_more xs ys has z zs y way.1)

way_on : (xs : Edges) (x : StepName) (zs : List StepName) (y : StepName) (us : List StepName) (v : StepName) → IsWay xs x zs y
    → IsWay xs y us v
    → IsWay xs x (zs ++ y ∷ us) v
way_on xs x [] y us v way rest = (way, rest)
way_on xs x (z ∷ zs) y us v way rest = (way.0, way_on xs z zs y us v way.1 rest)

-- what is before by some edges is so by more
pub before_more : (xs ys : Edges) → HasAll xs ys → (x y : StepName) → IsBefore xs x y → IsBefore ys x y
before_more xs ys has x y b = record { between = b.between; way = way_more xs ys has x b.between y b.way }

-- ---- what leads from step to step

-- some edges, each of which has a cause, by which x is before y
pub record IsLed (m : ModuleValue) (w : World) (s : List ℕ) (x y : StepName) : Type 0 where
  pub edges : Edges
  pub causes : (u v : StepName) → IsEdge edges u v → IsCause m w s u v
  pub before : IsBefore edges x y

-- or x is y
abbrev pub UpTo : ModuleValue → World → List ℕ → StepName → StepName → Type 0
UpTo m w s x y = (x ≡ y) ⊎ IsLed m w s x y

module _ (m : ModuleValue) (w : World) (s : List ℕ) where
  pub led_cause : (x y : StepName) → IsCause m w s x y → IsLed m w s x y
  led_cause x y c = record { edges = (x, y) ∷ []; causes = λ u v h. of u v h.0 h.1; before = record { between = []; way = inl (0, refl) } }
    where
      one : Edges
      one = (x, y) ∷ []

      same : (p q : StepName × StepName) → Some p ≡ Some q → p ≡ q
      same p q h = cc

      of : (u v : StepName) (k : ℕ) → slice_get one k ≡ Some (u, v) → IsCause m w s u v
      of u v zero h = subst (λ (p : StepName × StepName). IsCause m w s p.0 p.1) (same (x, y) (u, v) h) c
      of u v (suc k) h = absurd (none-some (u, v) h)

  -- an activity's own steps, in their order
  pub led_own : (x y : StepName) → x.0 ≡ y.0 → x.1 < y.1 → IsLed m w s x y
  led_own x y same less = record {
    edges = [];
    causes = no_cause m w s;
    before = record { between = []; way = inr (same, less) };
  }

  -- one leads on to the next
  pub led_through : (x y z : StepName) → IsLed m w s x y → IsLed m w s y z → IsLed m w s x z
  led_through x y z p q = record {
    edges = p.edges ++ q.edges;
    causes = λ u v h. of u v (edge_split p.edges q.edges u v h);
    before = record {
      between = p.before.between ++ y ∷ q.before.between;
      way = way_on (p.edges ++ q.edges) x p.before.between y q.before.between z
          (way_more p.edges (p.edges ++ q.edges) (edge_left p.edges q.edges) x p.before.between y p.before.way)
          (way_more q.edges (p.edges ++ q.edges) (edge_right p.edges q.edges) y q.before.between z q.before.way);
    };
  }
    where
      of : (u v : StepName) → IsEdge p.edges u v ⊎ IsEdge q.edges u v → IsCause m w s u v
      of u v (inl h) = p.causes u v h
      of u v (inr h) = q.causes u v h

  -- and so does what may be one step
  pub up_through : (x y z : StepName) → UpTo m w s x y → UpTo m w s y z → UpTo m w s x z
  up_through x y z (inl p) q = subst (λ a. UpTo m w s a z) (sym p) q
  up_through x y z (inr p) (inl q) = inr (subst (IsLed m w s x) q p)
  up_through x y z (inr p) (inr q) = inr (led_through x y z p q)

-- ---- edges of many

-- some edges, each of which has a cause, of which P holds
pub record Gathered (m : ModuleValue) (w : World) (s : List ℕ) (P : Edges → Type 0) : Type 0 where
  pub edges : Edges
  pub causes : (x y : StepName) → IsEdge edges x y → IsCause m w s x y
  pub holds : P edges

-- what holds of edges holds of more
abbrev pub Grows : (Edges → Type 0) → Type 0
Grows P = (xs ys : Edges) → HasAll xs ys → P xs → P ys

-- edges for two give edges for both
both : (m : ModuleValue) (w : World) (s : List ℕ) (P Q R : Edges → Type 0) → Grows P → Grows Q
    → ((edges : Edges) → P edges → Q edges → R edges)
    → Gathered m w s P → Gathered m w s Q → Gathered m w s R
both m w s P Q R more grows to p q = record {
  edges = p.edges ++ q.edges;
  causes = λ x y h. of x y (edge_split p.edges q.edges x y h);
  holds = to (p.edges ++ q.edges) (more p.edges (p.edges ++ q.edges) (edge_left p.edges q.edges) p.holds)
      (grows q.edges (p.edges ++ q.edges) (edge_right p.edges q.edges) q.holds);
}
  where
    of : (x y : StepName) → IsEdge p.edges x y ⊎ IsEdge q.edges x y → IsCause m w s x y
    of x y (inl h) = p.causes x y h
    of x y (inr h) = q.causes x y h

-- and edges for each number below this one give edges for all
gather : (m : ModuleValue) (w : World) (s : List ℕ) (P : ℕ → Edges → Type 0) → ((k : ℕ) → Grows (P k)) → (n : ℕ)
    → ((k : ℕ) → Gathered m w s (P k))
    → Gathered m w s (λ edges. (k : ℕ) → k < n → P k edges)
gather m w s P grows zero each = record { edges = []; causes = no_cause m w s; holds = λ k less. absurd (omega (arith, less)) }
gather m w s P grows (suc n) each =
    both m w s (λ edges. (k : ℕ) → k < n → P k edges) (P n) (λ edges. (k : ℕ) → k < suc n → P k edges)
    (λ xs ys has h k less. grows k xs ys has (h k less)) (grows n)
    (λ edges h g k less. by edges h g k less (cases_lt k n)) (gather m w s P grows n each) (each n)
  where
    by : (edges : Edges) → ((k : ℕ) → k < n → P k edges) → P n edges → (k : ℕ) → k < suc n → (k < n) ⊎ (n ≤ k) → P k edges
    by edges h g k less (inl lower) = h k lower
    by edges h g k less (inr upper) = let is : n ≡ k = omega (arith, less, upper) in subst (λ j. P j edges) is g

-- so edges for each pair of steps give edges for all pairs of those with such names
pub gather_pairs : (m : ModuleValue) (w : World) (s : List ℕ) (P : StepName → StepName → Edges → Type 0)
    → ((x y : StepName) → Grows (P x y)) → (acts turns : ℕ)
    → ((x y : StepName) → Gathered m w s (P x y))
    → Gathered m w s (λ edges. (a : ℕ) → a < acts → (k : ℕ) → k < turns → (b : ℕ) → b < acts → (l : ℕ) → l < turns → P (a, k) (b, l) edges)
gather_pairs m w s P grows acts turns each =
    gather m w s OfFirst (λ a xs ys has h k lk b lb l ll. grows (a, k) (b, l) xs ys has (h k lk b lb l ll)) acts
    (λ a. gather m w s (OfSecond a) (λ k xs ys has h b lb l ll. grows (a, k) (b, l) xs ys has (h b lb l ll)) turns
    (λ k. gather m w s (OfLast a k) (λ b xs ys has h l ll. grows (a, k) (b, l) xs ys has (h l ll)) acts
    (λ b. gather m w s (λ l. P (a, k) (b, l)) (λ l. grows (a, k) (b, l)) turns
    (λ l. each (a, k) (b, l)))))
  where
    OfLast : ℕ → ℕ → ℕ → Edges → Type 0
    OfLast a k b edges = (l : ℕ) → l < turns → P (a, k) (b, l) edges

    OfSecond : ℕ → ℕ → Edges → Type 0
    OfSecond a k edges = (b : ℕ) → b < acts → OfLast a k b edges

    OfFirst : ℕ → Edges → Type 0
    OfFirst a edges = (k : ℕ) → k < turns → OfSecond a k edges
