-- Ways that lead on to readings.
use Rattle.std.proofs.Common.{◌≡◌, ◌∙◌, ℕ, ℤ, zero, suc, ◌≤◌, ◌⊎◌, inl, inr, true, List, [], ◌∷◌}
use Rattle.std.proofs.Common.{◌++◌, length, Option, Some, None, refl, sym, ap, subst, append_assoc, arith, slice_get, length-append}
use Rattle.std.specs.Option.{option_to_list}
use Rattle.std.proofs.lemmas.List.{append-nil}
use Rattle.xk_readings.specs.declared.edge.Edge.{Edge}
use Rattle.xk_readings.specs.Graphs.{GraphValue, HasEdge}
use Rattle.xk_readings.specs.Readings.{IsLongest, Reads}
use Rattle.xk_readings.specs.Useful.{IsReadable}
use Rattle.xk_readings.specs.Ways.{Standing, along}
use Rattle.xk_readings.specs.Closures.{IsClosed, IsReached, LeadsTo}

-- a way with an edge more is one of the graph
pub reached_along : (g : GraphValue) (e : Edge) (s : Standing) → HasEdge g e → e.from ≡ s.node → IsReadable g e.to → IsReached g s
    → IsReached g (along e s)
reached_along g e s has from readable is = record {
  leads = leads;
  readable = readable;
}
  where
    leads : LeadsTo g e.to (s.acts ++ e.act ∷ []) (s.numbers ++ option_to_list e.printed)
    leads n rest more r =
        let through = is.leads (suc n) (e.act ∷ rest) (option_to_list e.printed ++ more) (e, has, from, rest, more, r, refl, refl) in (
          through.0,
          subst (λ (l : List ℕ). Reads g through.0 0 l ((s.numbers ++ option_to_list e.printed) ++ more))
              (sym (append_assoc s.acts (e.act ∷ []) rest))
              (subst (λ (l : List ℤ). Reads g through.0 0 (s.acts ++ (e.act ∷ rest)) l)
              (sym (append_assoc s.numbers (option_to_list e.printed) more)) through.1),
        )

-- a way that ends where a reading may end is a reading
pub reading_there : (g : GraphValue) (s : Standing) → IsReached g s → slice_get g.ends s.node ≡ Some true
    → (n : ℕ) × Reads g n 0 s.acts s.numbers
reading_there g s is ends =
    let through = is.leads 0 [] [] (ends, refl, refl) in (
      through.0,
      subst (λ (l : List ℕ). Reads g through.0 0 l s.numbers) (append-nil s.acts)
          (subst (λ (l : List ℤ). Reads g through.0 0 (s.acts ++ []) l) (append-nil s.numbers) through.1),
    )

at_most_one : (o : Option ℤ) → length (option_to_list o) ≤ 1
at_most_one None = omega arith
at_most_one (Some x) = omega arith

-- a reading has no more numbers than edges
pub reads_length : (g : GraphValue) (n k : ℕ) (acts : List ℕ) (numbers : List ℤ) → Reads g n k acts numbers → length numbers ≤ n
reads_length g zero k acts numbers r = (let none = ap length r.2 in omega (arith, none))
reads_length g (suc n) k acts numbers r =
    let rest = reads_length g n r.0.to r.3 r.4 r.5 in
    let one = at_most_one r.0.printed in
    let whole = ap length r.7 in
    let parts = length-append (option_to_list r.0.printed) r.4 in
    omega (arith, rest, one, whole, parts)

-- a way prints no more numbers than a reading has edges
pub reached_length : (g : GraphValue) (s : Standing) (most : ℕ) → IsReached g s → IsLongest g most → length s.numbers ≤ most
reached_length g s most is longest =
    let r = is.readable in
    let through = is.leads r.0 r.1 r.2 r.3 in
    let edges = longest through.0 (s.acts ++ r.1) (s.numbers ++ r.2) through.1 in
    let short = reads_length g through.0 0 (s.acts ++ r.1) (s.numbers ++ r.2) through.1 in
    let parts = length-append s.numbers r.2 in
    omega (arith, edges, short, parts)

-- ---- what comes next

-- one from this number on ends where a reading may end
abbrev pub HasEnd : GraphValue → List Standing → ℕ → Type 0
HasEnd g all first = (k : ℕ) × (s : Standing) × (first ≤ k) × (slice_get all k ≡ Some s) × (slice_get g.ends s.node ≡ Some true)

-- an edge that prints the first of the numbers leads from where one of them ends to where the others are read
pub record GoesOn (g : GraphValue) (all : List Standing) (first : ℕ) (more : List ℤ) : Type 0 where
  pub number : ℕ
  pub way : Standing
  pub edge : Edge
  pub x : ℤ
  pub steps : ℕ
  pub rest : List ℕ
  pub left : List ℤ
  pub behind : first ≤ number
  pub there : slice_get all number ≡ Some way
  pub has : HasEdge g edge
  pub from : edge.from ≡ way.node
  pub prints : edge.printed ≡ Some x
  pub reads : Reads g steps edge.to rest left
  pub is : more ≡ x ∷ left

module _ (g : GraphValue) (all : List Standing) (first : ℕ)
    (closed : (k : ℕ) (s : Standing) → first ≤ k → slice_get all k ≡ Some s → IsClosed g all first s) where
  by_edge : (n : ℕ) → ((k : ℕ) (s : Standing) (rest : List ℕ) (more : List ℤ) → first ≤ k → slice_get all k ≡ Some s
      → Reads g n s.node rest more
      → ((more ≡ []) × HasEnd g all first) ⊎ GoesOn g all first more)
      → (k : ℕ) (s : Standing) (rest : List ℕ) (more : List ℤ) → first ≤ k → slice_get all k ≡ Some s
      → (r : Reads g (suc n) s.node rest more)
      → (o : Option ℤ) → r.0.printed ≡ o → ((more ≡ []) × HasEnd g all first) ⊎ GoesOn g all first more
  by_edge n next k s rest more behind there r None silent =
      let t = closed k s behind there r.0 r.1 r.2 silent in
      let same : r.4 ≡ more = sym (r.7 ∙ ap (λ (o : Option ℤ). option_to_list o ++ r.4) silent) in
      next t.0 t.1 r.3 more t.2 t.3
      (subst (λ (l : List ℤ). Reads g n t.1.node r.3 l) same (subst (λ m. Reads g n m r.3 r.4) (sym t.4) r.5))
  by_edge n next k s rest more behind there r (Some x) prints = inr (record {
    number = k;
    way = s;
    edge = r.0;
    x = x;
    steps = n;
    rest = r.3;
    left = r.4;
    behind = behind;
    there = there;
    has = r.1;
    from = r.2;
    prints = prints;
    reads = r.5;
    is = r.7 ∙ ap (λ (o : Option ℤ). option_to_list o ++ r.4) prints;
  })

-- where no number is left to read, one of the ways ends, or else the next number is printed by an edge from one of them
pub progress : (g : GraphValue) (all : List Standing) (first : ℕ)
    (closed : (k : ℕ) (s : Standing) → first ≤ k → slice_get all k ≡ Some s → IsClosed g all first s)
    (n : ℕ) (k : ℕ) (s : Standing) (rest : List ℕ) (more : List ℤ) → first ≤ k → slice_get all k ≡ Some s → Reads g n s.node rest more
    → ((more ≡ []) × HasEnd g all first) ⊎ GoesOn g all first more
progress g all first closed zero k s rest more behind there r = inl (r.2, (k, s, behind, there, r.0))
progress g all first closed (suc n) k s rest more behind there r =
    by_edge g all first closed n (progress g all first closed n) k s rest more behind there r r.0.printed refl
