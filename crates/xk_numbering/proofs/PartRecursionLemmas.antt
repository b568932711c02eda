-- Where each `async` stands at an offset of its own and no call leads back, no part is run again from what it runs.
use Rattle.std.proofs.Common.{◌≡◌, ◌⊎◌, inl, inr, ℕ, zero, suc, ◌<◌, ◌≤◌, ◌+◌, Bool, true, false, cond, List, [], ◌∷◌, ◌++◌, length, Option, Some, slice_get, refl, sym, ap, ◌∙◌, subst, arith, eqb-true}
use Rattle.std.specs.List.{flat_map}
use Rattle.std.specs.Option.{option_map_or}
use Rattle.xk_callgraph.specs.CallGraph.{IsCall, Path, IsRecursive}
use Rattle.xk_tree.specs.declared.fault.FrontRule.TheVariants as rule
use Rattle.xk_tree.specs.declared.fault.FrontFault.{FrontFault}
use Rattle.xk_tree.specs.Tree.{Word, MethodValue, TreeValue}
use Rattle.xk_tree.specs.AsyncOffsets.{asyncs_in, asyncs_of_methods, HasBodiesApart}
use Rattle.xk_names.specs.Scope.{Has, is_text}
use Rattle.xk_names.specs.Faults.{fault}
use Rattle.xk_names.specs.WellScoped.{IsScoped}
use Rattle.xk_callgraph.specs.Recursion.{number_among, HasCall, CallsBy, LeadTo, IsReached, ComesBack, HasRecursion}
use Rattle.xk_callgraph.specs.Callees.{callees_all}
use Rattle.xk_callgraph.proofs.CallPlaceLemmas.{has_at, stands_among}
use Rattle.xk_source_semantics.specs.Parts.{Part, OfMethod, OfBody, Run, Calls, Starts, bodies_all, method_parts, parts, part_runs, place_of, method_among}
use Rattle.xk_source_semantics.specs.PartGraph.{graph}
use Rattle.xk_law_compiler.proofs.UnitLemmas.PartLookupLemmas.{Fits, fits_there}
use Rattle.xk_law_compiler.proofs.UnitLemmas.NestingLemmas.{has_place}
use Rattle.xk_numbering.proofs.UnitOrderLemmas.{is_run_at, known_place}
use Rattle.xk_law_compiler.proofs.UnitLemmas.RisingListLemmas.{is_rising}
use Rattle.xk_numbering.proofs.PartBodyLemmas.{rising_in, same_method, IsInside, body_inside, part_held, depth, part_deeper}

-- ---- the method that a part stands in

-- where the parts behind these are numbered by f
abbrev behind : List Part → (ℕ → ℕ) → ℕ → ℕ
behind [] f i = f i
behind (p ∷ ps) f zero = 0
behind (p ∷ ps) f (suc i) = behind ps f i

-- the number of the method in which part i stands
abbrev owner : List MethodValue → ℕ → ℕ
owner [] i = 0
owner (m ∷ ms) i = behind (method_parts m) (λ j. suc (owner ms j)) i

split : (qs rest : List Part) (f : ℕ → ℕ) (i : ℕ) (p : Part) → slice_get (qs ++ rest) i ≡ Some p
    → (Has qs p × (behind qs f i ≡ 0)) ⊎ ((j : ℕ) × (slice_get rest j ≡ Some p) × (behind qs f i ≡ f j))
split [] rest f i p e = inr (i, e, refl)
split (q ∷ qs) rest f zero p e = inl (inl cc, refl)
split (q ∷ qs) rest f (suc i) p e = elim (split qs rest f i p e) [ inl h ↦ inl (inr h.0, h.1) | inr h ↦ inr h ]

record Owned (ms : List MethodValue) (i : ℕ) (p : Part) : Type 0 where
  method : MethodValue
  is : slice_get ms (owner ms i) ≡ Some method
  has : Has (method_parts method) p

owned : (ms : List MethodValue) (i : ℕ) (p : Part) → slice_get (flat_map method_parts ms) i ≡ Some p → Owned ms i p
owned [] i p e = absurd cc
owned (m ∷ ms) i p e = elim (split (method_parts m) (flat_map method_parts ms) (λ j. suc (owner ms j)) i p e) [
  | inl h ↦ record { method = m; is = ap (slice_get (m ∷ ms)) h.1; has = h.0 }
  | inr h ↦ let o = owned ms h.0 p h.1 in record { method = o.method; is = ap (slice_get (m ∷ ms)) h.2 ∙ o.is; has = o.has }
]

-- ---- the method that a name means

abbrev AreBodies : List Part → Type 0
AreBodies ps = (p : Part) → Has ps p → (gs : List Word) × (xs : List ℕ) × IsInside gs xs p

-- the methods among these are those behind the bodies
record Skipped (qs rest : List Part) (f : ℕ → ℕ) (a j : ℕ) (x : List ℕ) : Type 0 where
  from : ℕ
  count : ℕ
  far : from ≡ a + count
  found : method_among from rest x ≡ Some j
  numbers : (i k : ℕ) → k ≡ count + i → behind qs f k ≡ f i

skipped : (qs rest : List Part) (f : ℕ → ℕ) (a j : ℕ) (x : List ℕ) → AreBodies qs → method_among a (qs ++ rest) x ≡ Some j → Skipped qs rest f a j x
skipped [] rest f a j x are e = record { from = a; count = 0; far = omega arith; found = e; numbers = λ i k is. ap f (let same : k ≡ i = omega arith in same) }
skipped (OfMethod m ∷ qs) rest f a j x are e = absurd (are (OfMethod m) (inl refl)).2
skipped (OfBody at cs s ∷ qs) rest f a j x are e =
    let h = skipped qs rest f (suc a) j x (λ p there. are p (inr there)) e in
    record { from = h.from; count = suc h.count; far = (let far = h.far in omega arith); found = h.found; numbers = one_on h.count h.numbers }
  where
    one_on : (n : ℕ) → ((i k : ℕ) → k ≡ n + i → behind qs f k ≡ f i) → (i k : ℕ) → k ≡ suc n + i → behind (OfBody at cs s ∷ qs) f k ≡ f i
    one_on n h i zero is = absurd (omega arith)
    one_on n h i (suc k) is = h i k (omega arith)

-- the number of the method of that name, where the first place is a and the first number n
record Numbered (ms : List MethodValue) (a n j : ℕ) (x : List ℕ) : Type 0 where
  place : ℕ
  far : j ≡ a + place
  number : ℕ
  found : number_among n ms x ≡ Some number
  is : number ≡ n + owner ms place

numbered : (ms : List MethodValue) (a n j : ℕ) (x : List ℕ) → method_among a (flat_map method_parts ms) x ≡ Some j → Numbered ms a n j x
numbered [] a n j x e = absurd cc
numbered (m ∷ ms) a n j x e = go (is_text x m.name.text) refl (λ from found. numbered ms from (suc n) j x found) e
  where
    rest : List Part
    rest = flat_map method_parts ms

    f : ℕ → ℕ
    f = λ i. suc (owner ms i)

    go : (b : Bool) → is_text x m.name.text ≡ b → ((from : ℕ) → method_among from rest x ≡ Some j → Numbered ms from (suc n) j x)
        → cond b (Some a) (method_among (suc a) (bodies_all m.body ++ rest) x) ≡ Some j → Numbered (m ∷ ms) a n j x
    go true is later h = record {
      place = 0;
      far = (let same : a ≡ j = cc in omega arith);
      number = n;
      found = ap (λ b. cond b (Some n) (number_among (suc n) ms x)) is;
      is = omega arith;
    }
    go false is later h =
        let s = skipped (bodies_all m.body) rest f (suc a) j x (λ p there. (callees_all m.body, asyncs_in m.body, body_inside m p there)) h in
        let r = later s.from s.found in
        let place : ℕ = suc (s.count + r.place) in
        let same : owner (m ∷ ms) place ≡ suc (owner ms r.place) = s.numbers r.place (s.count + r.place) refl in
        let to = s.far in
        let far = r.far in
        let number = r.is in
        record {
          place = place;
          far = omega arith;
          number = r.number;
          found = ap (λ b. cond b (Some n) (number_among (suc n) ms x)) is ∙ r.found;
          is = omega arith;
        }

-- ---- what is run stands further in, in the same method, or is a method that is called

abbrev depth_at : List Part → ℕ → ℕ
depth_at ps i = option_map_or depth (slice_get ps i) 0

abbrev Step : TreeValue → ℕ → ℕ → Type 0
Step t i j =
    ((owner t.methods i ≡ owner t.methods j) × (depth_at (parts t) i < depth_at (parts t) j))
    ⊎ ((g : Word) × CallsBy t (owner t.methods i) g (owner t.methods j))

call_step : (t : TreeValue) (i j : ℕ) (p : Part) (g : Word) → slice_get (parts t) i ≡ Some p → Has (part_runs p) (Calls g)
    → place_of (parts t) (Calls g) ≡ Some j → Step t i j
call_step t i j p g is runs place =
    let o = owned t.methods i p is in
    let s = stands_among o.method.body g (part_held o.method p (Calls g) o.has runs) in
    let has_call : HasCall t (owner t.methods i) g = record { method = o.method; is = o.is; way = s.way; paren = s.paren; arguments = s.arguments; stands = s.stands } in
    let n = numbered t.methods 0 0 j g.text place in
    let far = n.far in
    let there : n.place ≡ j = omega arith in
    let number = n.is in
    let same : n.number ≡ owner t.methods n.place = omega arith in
    inr (g, (has_call, n.found ∙ ap Some (same ∙ ap (owner t.methods) there)))

start_step : (t : TreeValue) (i j : ℕ) (p q : Part) (at : ℕ) → HasBodiesApart t → slice_get (parts t) i ≡ Some p → Has (part_runs p) (Starts at)
    → slice_get (parts t) j ≡ Some q → Fits q (Starts at) → Step t i j
start_step t i j p (OfMethod m) at apart is runs that fits = absurd fits
start_step t i j p (OfBody b cs s) at apart is runs that fits =
    let o = owned t.methods i p is in
    let q = owned t.methods j (OfBody b cs s) that in
    let rising = is_rising (asyncs_of_methods t.methods) apart in
    let same : at ≡ b = eqb-true at b fits in
    let held = part_held o.method p (Starts at) o.has runs in
    let stands : Has (asyncs_in q.method.body) at = subst (Has (asyncs_in q.method.body)) (sym same) (stands_in q.method q.has) in
    let deeper = part_deeper o.method p at (rising_in t.methods (owner t.methods i) o.method rising o.is) o.has runs in
    let from : depth_at (parts t) i ≡ depth p = ap (λ (x : Option Part). option_map_or depth x 0) is in
    let to : depth_at (parts t) j ≡ suc b = ap (λ (x : Option Part). option_map_or depth x 0) that in
    inl (same_method t.methods (owner t.methods i) (owner t.methods j) o.method q.method at rising o.is q.is held stands, omega arith)
  where
    stands_in : (m : MethodValue) → Has (method_parts m) (OfBody b cs s) → Has (asyncs_in m.body) b
    stands_in m (inl e) = absurd cc
    stands_in m (inr h) = (body_inside m (OfBody b cs s) h).0

run_step : (t : TreeValue) (i j : ℕ) (p : Part) (r : Run) → HasBodiesApart t → slice_get (parts t) i ≡ Some p → Has (part_runs p) r
    → place_of (parts t) r ≡ Some j → Step t i j
run_step t i j p (Calls g) apart is runs place = call_step t i j p g is runs place
run_step t i j p (Starts at) apart is runs place = let q = fits_there (parts t) (Starts at) j place in start_step t i j p q.part at apart is runs q.stands q.fits

step : (t : TreeValue) → HasBodiesApart t → IsScoped t → (i k j : ℕ) → IsCall (graph (parts t)) i k j → Step t i j
step t apart scoped i k j call =
    let r = is_run_at (parts t) i k j call in
    let runs = has_at (part_runs r.part) k r.run r.among in
    let place = known_place (place_of (parts t) r.run) (length (parts t)) j (has_place t scoped r.part (has_at (parts t) i r.part r.stands) r.run runs) r.place in
    run_step t i j r.part r.run apart r.stands runs place

-- ---- along a path

lead_on : (t : TreeValue) (ns ks : List ℕ) (d e f : ℕ) → LeadTo t ns d e → LeadTo t ks e f → LeadTo t (ns ++ ks) d f
lead_on t [] ks d e f p q = subst (λ n. LeadTo t ks n f) (sym p) q
lead_on t (n ∷ ns) ks d e f p q = (p.0, lead_on t ns ks n e f p.1 q)

-- a call on the way from one method to another
record Leaves (t : TreeValue) (d e : ℕ) : Type 0 where
  caller : ℕ
  called : ℕ
  name : Word
  before : IsReached t d caller
  calls : CallsBy t caller name called
  after : IsReached t called e

record Moves (t : TreeValue) (i j : ℕ) : Type 0 where
  reached : IsReached t (owner t.methods i) (owner t.methods j)
  how : (depth_at (parts t) i ≤ depth_at (parts t) j) ⊎ Leaves t (owner t.methods i) (owner t.methods j)

stays_first : (t : TreeValue) (i n j : ℕ) → owner t.methods i ≡ owner t.methods n → depth_at (parts t) i < depth_at (parts t) n → Moves t n j
    → Moves t i j
stays_first t i n j same less m = record {
  reached = subst (λ d. IsReached t d (owner t.methods j)) (sym same) m.reached;
  how = elim m.how [
    | inl more ↦ inl (omega arith)
    | inr l ↦ inr (subst (λ d. Leaves t d (owner t.methods j)) (sym same) l)
  ];
}

leaves_first : (t : TreeValue) (i n j : ℕ) (g : Word) → CallsBy t (owner t.methods i) g (owner t.methods n) → Moves t n j → Moves t i j
leaves_first t i n j g calls m = record {
  reached = (owner t.methods n ∷ m.reached.0, ((g, calls), m.reached.1));
  how = inr (record { caller = owner t.methods i; called = owner t.methods n; name = g; before = ([], refl); calls = calls; after = m.reached });
}

moves : (t : TreeValue) → HasBodiesApart t → IsScoped t → (ns : List ℕ) (i j : ℕ) → Path (graph (parts t)) ns i j → Moves t i j
moves t apart scoped [] i j p = record { reached = ([], ap (owner t.methods) p); how = inl (let same = ap (depth_at (parts t)) p in omega arith) }
moves t apart scoped (n ∷ ns) i j p =
    let m = moves t apart scoped ns n j p.1 in
    elim (step t apart scoped i p.0.0 n p.0.1) [
      | inl s ↦ stays_first t i n j s.0 s.1 m
      | inr c ↦ leaves_first t i n j c.0 c.1 m
    ]

-- ---- round and round

back : (t : TreeValue) (d e : ℕ) (g : Word) → CallsBy t d g e → IsReached t e d → ComesBack t (fault rule.Recursive g.at)
back t d e g calls reaches = record { caller = d; called = e; name = g; calls = calls; reaches = reaches; is = refl }

round : (t : TreeValue) (d e : ℕ) → d ≡ e → (l : Leaves t e d) → ComesBack t (fault rule.Recursive l.name.at)
round t d e same l =
    let home : LeadTo t l.after.0 l.called e = subst (LeadTo t l.after.0 l.called) same l.after.1 in
    back t l.caller l.called l.name l.calls (l.after.0 ++ l.before.0, lead_on t l.after.0 l.before.0 l.called e l.caller home l.before.1)

pub never_again : (t : TreeValue) → HasBodiesApart t → IsScoped t → ((f : FrontFault) → HasRecursion t f → ⊥) → (i k : ℕ)
    → IsRecursive (graph (parts t)) i k → ⊥
never_again t apart scoped none i k r =
    let m = moves t apart scoped r.comes_back.0 r.called i r.comes_back.1 in
    elim (step t apart scoped i k r.called r.is_call) [
      | inl s ↦ elim m.how [
        | inl more ↦ let less = s.1 in absurd (omega arith)
        | inr l ↦ none (fault rule.Recursive l.name.at) (inr (round t (owner t.methods i) (owner t.methods r.called) s.0 l))
      ]
      | inr c ↦ none (fault rule.Recursive c.0.at) (inr (back t (owner t.methods i) (owner t.methods r.called) c.0 c.1 m.reached))
    ]
