-- Calls of a tree, and calls among methods that are numbers.
use Rattle.std.proofs.Common.{◌≡◌, inl, inr, ℕ, zero, suc, ◌+◌, ◌<◌, Bool, true, false, cond, List, [], ◌∷◌, ◌++◌, Vec, map, length, get_or, Option, Some, None, slice_get, refl, sym, ap, ◌∙◌, subst, arith, length-append}
use Rattle.std.proofs.lemmas.List.{length-map}
use Rattle.std.specs.Prelude.{unwrap_or, codes}
use Rattle.std.specs.declared.alloc.Global.{Global}
use Rattle.std.specs.Cmp.Lexicographic.{bytes_decides}
use Rattle.std.specs.Option.{option_or}
use Rattle.std.proofs.lemmas.Option.{slice_get_within}
use Rattle.xk_callgraph.specs.CallGraph.{IsCall, Path, IsRecursive, AreWithin}
use Rattle.xk_tree.specs.declared.fault.FrontRule.TheVariants as rule
use Rattle.xk_tree.specs.declared.fault.FrontFault.{FrontFault}
use Rattle.xk_tree.specs.Tree.{Word, MethodValue, TreeValue, words}
use Rattle.xk_tree.specs.declared.tree.Name.{Name}
use Rattle.xk_names.specs.Scope.{Table, find, is_text, Has}
use Rattle.xk_names.specs.Faults.{fault}
use Rattle.xk_callgraph.specs.Recursion.{number_among, HasCall, CallsBy, LeadTo, IsMainCalled, ComesBack}
use Rattle.xk_callgraph.specs.Callees.{callees_all, all_callees, main_among, main_in, number_or_last, numbers_called, graph}
use Rattle.xk_callgraph.proofs.CallPlaceLemmas.{has_at, place_of, is_listed_among, stands_among}

-- ---- rows

pub mapped_at : {A B : Type 0} (f : A → B) (xs : List A) (k : ℕ) (y : B) → slice_get (map f xs) k ≡ Some y → (x : A) × (slice_get xs k ≡ Some x) × (f x ≡ y)
mapped_at f [] k y e = absurd cc
mapped_at f (x ∷ xs) zero y e = (x, refl, cc)
mapped_at f (x ∷ xs) (suc k) y e = mapped_at f xs k y e

pub at_mapped : {A B : Type 0} (f : A → B) (xs : List A) (k : ℕ) (x : A) → slice_get xs k ≡ Some x → slice_get (map f xs) k ≡ Some (f x)
at_mapped f [] k x e = absurd cc
at_mapped f (y ∷ xs) zero x e = let same : y ≡ x = cc in ap (λ z. Some (f z)) same
at_mapped f (y ∷ xs) (suc k) x e = at_mapped f xs k x e

-- a row that calls is not the last, which is empty
pub row_of : (rs : List (List ℕ)) (i k j : ℕ) → IsCall (rs ++ [] ∷ []) i k j → (row : List ℕ) × (slice_get rs i ≡ Some row) × (slice_get row k ≡ Some j)
row_of [] zero k j e = absurd cc
row_of [] (suc i) k j e = absurd cc
row_of (r ∷ rs) zero k j e = (r, refl, e)
row_of (r ∷ rs) (suc i) k j e = row_of rs i k j e

pub of_row : (rs : List (List ℕ)) (i k j : ℕ) (row : List ℕ) → slice_get rs i ≡ Some row → slice_get row k ≡ Some j → IsCall (rs ++ [] ∷ []) i k j
of_row [] i k j row e f = absurd cc
of_row (r ∷ rs) zero k j row e f = let same : r ≡ row = cc in subst (λ (q : List ℕ). slice_get q k ≡ Some j) (sym same) f
of_row (r ∷ rs) (suc i) k j row e f = of_row rs i k j row e f

-- ---- numbers of names

number_bound : (n : ℕ) (ms : List MethodValue) (x : List ℕ) (j : ℕ) → number_among n ms x ≡ Some j → j < n + length ms
number_bound n [] x j e = absurd cc
number_bound n (m ∷ ms) x j e = go (is_text x m.name.text) e (number_bound (suc n) ms x j)
  where
    go : (b : Bool) → cond b (Some n) (number_among (suc n) ms x) ≡ Some j → (number_among (suc n) ms x ≡ Some j → j < suc n + length ms) → j < n + length (m ∷ ms)
    go true h later = let same : n ≡ j = cc in omega arith
    go false h later = let r = later h in omega arith

past_end : {A : Type 0} (xs : List A) (x : A) → slice_get xs (length xs) ≡ Some x → ⊥
past_end [] x e = cc
past_end (y ∷ xs) x e = past_end xs x e

-- ---- what a call in the graph is

-- call k of method i, by number, is a call that it has
pub record Meant (t : TreeValue) (i k j : ℕ) : Type 0 where
  pub method : MethodValue
  pub is : slice_get t.methods i ≡ Some method
  pub name : Word
  pub at : slice_get (callees_all method.body) k ≡ Some name
  pub number : number_or_last t.methods name ≡ j

meant : (t : TreeValue) (i k j : ℕ) → IsCall (graph t.methods) i k j → Meant t i k j
meant t i k j call =
    let r = row_of (map (numbers_called t.methods) (all_callees t.methods)) i k j call in
    let a = mapped_at (numbers_called t.methods) (all_callees t.methods) i r.0 r.1 in
    let b = mapped_at (λ (m : MethodValue). callees_all m.body) t.methods i a.0 a.1 in
    let c = mapped_at (number_or_last t.methods) a.0 k j (subst (λ (q : List ℕ). slice_get q k ≡ Some j) (sym a.2) r.2) in
    record { method = b.0; is = b.1; name = c.0; at = subst (λ (q : List Word). slice_get q k ≡ Some c.0) (sym b.2) c.1; number = c.2 }

has_call : (t : TreeValue) (i k j : ℕ) (m : Meant t i k j) → HasCall t i m.name
has_call t i k j m =
    let q = stands_among m.method.body m.name (has_at (callees_all m.method.body) k m.name m.at) in
    record { method = m.method; is = m.is; way = q.way; paren = q.paren; arguments = q.arguments; stands = q.stands }

pub within : (t : TreeValue) → AreWithin (graph t.methods)
within t i k j call =
    let m = meant t i k j call in
    bound (number_among 0 t.methods m.name.text) (λ n e. number_bound 0 t.methods m.name.text n e) m.number
  where
    bound : (o : Option ℕ) → ((n : ℕ) → o ≡ Some n → n < 0 + length t.methods) → unwrap_or o (length t.methods) ≡ j → j < length (graph t.methods)
    bound (Some n) e f =
        let b = e n refl in
        let len : length (graph t.methods) ≡ length t.methods + 1 = simp (length-append, length-map) in
        omega arith
    bound None e f = let len : length (graph t.methods) ≡ length t.methods + 1 = simp (length-append, length-map) in omega arith

-- the number that a name has is that of the method that it means
known_number : (t : TreeValue) (x : List ℕ) (j : ℕ) (m : MethodValue) (o : Option ℕ) → slice_get t.methods j ≡ Some m → unwrap_or o (length t.methods) ≡ j → o ≡ Some j
known_number t x j m (Some n) is e = ap Some e
known_number t x j m None is e = absurd (past_end t.methods m (subst (λ (n : ℕ). slice_get t.methods n ≡ Some m) (sym e) is))

-- who stands at the beginning of a path to a method is one
starts : (t : TreeValue) (ns : List ℕ) (i d : ℕ) (m : MethodValue) → slice_get t.methods d ≡ Some m → Path (graph t.methods) ns i d
    → (n : MethodValue) × (slice_get t.methods i ≡ Some n)
starts t [] i d m is p = (m, subst (λ (n : ℕ). slice_get t.methods n ≡ Some m) (sym p) is)
starts t (n ∷ ns) i d m is p = let q = meant t i p.0.0 n p.0.1 in (q.method, q.is)

calls_by : (t : TreeValue) (i k j : ℕ) (n : MethodValue) → slice_get t.methods j ≡ Some n → (m : Meant t i k j) → CallsBy t i m.name j
calls_by t i k j n is m = (has_call t i k j m, known_number t m.name.text j n (number_among 0 t.methods m.name.text) is m.number)

leads : (t : TreeValue) (ns : List ℕ) (i d : ℕ) (m : MethodValue) → slice_get t.methods d ≡ Some m → Path (graph t.methods) ns i d → LeadTo t ns i d
leads t [] i d m is p = p
leads t (n ∷ ns) i d m is p =
    let s = starts t ns n d m is p.1 in
    let q = meant t i p.0.0 n p.0.1 in
    ((q.name, calls_by t i p.0.0 n s.0 s.1 q), leads t ns n d m is p.1)

-- a recursive call in the graph is one of the tree
comes_back : (t : TreeValue) (i k : ℕ) (r : IsRecursive (graph t.methods) i k) → ComesBack t (fault rule.Recursive (meant t i k r.called r.is_call).name.at)
comes_back t i k r =
    let m = meant t i k r.called r.is_call in
    let s = starts t r.comes_back.0 r.called i m.method m.is r.comes_back.1 in
    record {
      caller = i;
      called = r.called;
      name = m.name;
      calls = calls_by t i k r.called s.0 s.1 m;
      reaches = (r.comes_back.0, leads t r.comes_back.0 r.called i m.method m.is r.comes_back.1);
      is = refl;
    }

-- ---- what a call of the tree is in the graph

edge : (t : TreeValue) (i j : ℕ) (g : Word) → CallsBy t i g j → (k : ℕ) × IsCall (graph t.methods) i k j
edge t i j g c =
    let h = c.0 in
    let p = place_of (callees_all h.method.body) g (is_listed_among h.method.body h.way g h.paren h.arguments h.stands) in
    let row = at_mapped (λ (m : MethodValue). callees_all m.body) t.methods i h.method h.is in
    let named = at_mapped (numbers_called t.methods) (all_callees t.methods) i (callees_all h.method.body) row in
    let number = at_mapped (number_or_last t.methods) (callees_all h.method.body) p.0 g p.1 in (
      p.0,
      of_row (map (numbers_called t.methods) (all_callees t.methods)) i p.0 j (numbers_called t.methods (callees_all h.method.body)) named
          (number ∙ ap (λ (o : Option ℕ). Some (unwrap_or o (length t.methods))) c.1),
    )

path : (t : TreeValue) (ns : List ℕ) (i d : ℕ) → LeadTo t ns i d → Path (graph t.methods) ns i d
path t [] i d p = p
path t (n ∷ ns) i d p = (edge t i n p.0.0 p.0.1, path t ns n d p.1)

pub is_recursive : (t : TreeValue) (f : FrontFault) (b : ComesBack t f) → (k : ℕ) × IsRecursive (graph t.methods) b.caller k
is_recursive t f b =
    let e = edge t b.caller b.called b.name b.calls in
    (e.0, record { called = b.called; is_call = e.1; comes_back = (b.reaches.0, path t b.reaches.0 b.called b.caller b.reaches.1) })

-- ---- calls of `main`

-- one of these calls is of `main`, there
abbrev MainAmong : List Word → ℕ → Type 0
MainAmong gs at = (g : Word) × Has gs g × (g.text ≡ codes "main") × (g.at ≡ at)

main_has : (gs : List Word) (at : ℕ) → main_among gs ≡ Some at → MainAmong gs at
main_has [] at e = absurd cc
main_has (g ∷ gs) at e = go (is_text g.text (codes "main")) refl e (main_has gs at)
  where
    go : (b : Bool) → is_text g.text (codes "main") ≡ b → cond b (Some g.at) (main_among gs) ≡ Some at → (main_among gs ≡ Some at → MainAmong gs at) → MainAmong (g ∷ gs) at
    go true same h later = (g, inl refl, (bytes_decides g.text (codes "main")).0 same, cc)
    go false same h later = let r = later h in (r.0, inr r.1, r.2, r.3)

main_none : (gs : List Word) (g : Word) → main_among gs ≡ None → Has gs g → g.text ≡ codes "main" → ⊥
main_none [] g e h is = h
main_none (y ∷ gs) g e h is = go (is_text y.text (codes "main")) refl e h (main_none gs g)
  where
    go : (b : Bool) → is_text y.text (codes "main") ≡ b → cond b (Some y.at) (main_among gs) ≡ None → Has (y ∷ gs) g
        → (main_among gs ≡ None → Has gs g → g.text ≡ codes "main" → ⊥) → ⊥
    go true same e h later = cc
    go false same e (inl q) later = let yes = (bytes_decides y.text (codes "main")).1 (ap (λ (w : Word). w.text) (sym q) ∙ is) in cc
    go false same e (inr q) later = later e q is

-- one of some methods calls `main` there
abbrev MainIn : List MethodValue → ℕ → Type 0
MainIn ms at = (i : ℕ) × (m : MethodValue) × (g : Word) × (slice_get ms i ≡ Some m) × Has (callees_all m.body) g × (g.text ≡ codes "main") × (g.at ≡ at)

main_called : (ms : List MethodValue) (at : ℕ) → main_in (all_callees ms) ≡ Some at → MainIn ms at
main_called [] at e = absurd cc
main_called (m ∷ ms) at e = go (main_among (callees_all m.body)) refl e (main_called ms at)
  where
    go : (o : Option ℕ) → main_among (callees_all m.body) ≡ o → option_or o (main_in (all_callees ms)) ≡ Some at
        → (main_in (all_callees ms) ≡ Some at → MainIn ms at) → MainIn (m ∷ ms) at
    go (Some a) here h later = let r = main_has (callees_all m.body) at (here ∙ h) in (zero, m, r.0, refl, r.1, r.2, r.3)
    go None here h later = let r = later h in (suc r.0, r.1, r.2, r.3, r.4, r.5, r.6)

first_none : (a b : Option ℕ) → option_or a b ≡ None → (a ≡ None) × (b ≡ None)
first_none (Some x) b e = cc
first_none None b e = (refl, e)

main_uncalled : (ms : List MethodValue) (i : ℕ) (m : MethodValue) (g : Word) → main_in (all_callees ms) ≡ None → slice_get ms i ≡ Some m → Has (callees_all m.body) g
    → g.text ≡ codes "main" → ⊥
main_uncalled [] i m g e at h is = cc
main_uncalled (n ∷ ms) zero m g e at h is =
    let same : n ≡ m = cc in
    let nothing = first_none (main_among (callees_all n.body)) (main_in (all_callees ms)) e in
    main_none (callees_all n.body) g nothing.0 (subst (λ (k : MethodValue). Has (callees_all k.body) g) (sym same) h) is
main_uncalled (n ∷ ms) (suc i) m g e at h is = main_uncalled ms i m g (first_none (main_among (callees_all n.body)) (main_in (all_callees ms)) e).1 at h is

-- `main` is called where it is found to be, and nowhere if it isn't found
pub is_main_called : (t : TreeValue) (at : ℕ) → main_in (all_callees t.methods) ≡ Some at → IsMainCalled t (fault rule.Recursive at)
is_main_called t at e =
    let r = main_called t.methods at e in
    let q = stands_among r.1.body r.2 r.4 in
    record {
      caller = r.0;
      name = r.2;
      has_call = record { method = r.1; is = r.3; way = q.way; paren = q.paren; arguments = q.arguments; stands = q.stands };
      is_main = r.5;
      is = ap (fault rule.Recursive) (sym r.6);
    }

pub is_main_uncalled : (t : TreeValue) (f : FrontFault) → main_in (all_callees t.methods) ≡ None → IsMainCalled t f → ⊥
is_main_uncalled t f e c =
    let h = c.has_call in
    main_uncalled t.methods c.caller h.method c.name e h.is (is_listed_among h.method.body h.way c.name h.paren h.arguments h.stands) c.is_main

-- ---- where the names stand that the code keeps

pub names_at : (vs : List (Vec Name Global)) (i : ℕ) (v : Vec Name Global) → i < length vs → v ≡ get_or vs i v → slice_get (map (λ ns. words ns.items) vs) i ≡ Some (words v.items)
names_at [] i v h e = absurd (omega arith)
names_at (w ∷ vs) zero v h e = ap (λ (u : Vec Name Global). Some (words u.items)) (sym e)
names_at (w ∷ vs) (suc i) v h e = names_at vs i v (omega arith) e

-- the names of the calls of the method that makes this one
list_of : (t : TreeValue) (i k j : ℕ) (m : Meant t i k j) → slice_get (all_callees t.methods) i ≡ Some (callees_all m.method.body)
list_of t i k j m = at_mapped (λ (n : MethodValue). callees_all n.body) t.methods i m.method m.is

-- the graph, as it is made from a table of numbers
pub graph_is : (lists : List (List Word)) (ms : List MethodValue) (table : Table ℕ) (n : ℕ) → lists ≡ all_callees ms → n ≡ length lists
    → ((x : List ℕ) → find table x ≡ number_among 0 ms x)
    → map (λ gs. map (λ g. unwrap_or (find table g.text) n) gs) lists ++ [] ∷ [] ≡ graph ms
graph_is lists ms table n is len finds =
    ap (λ (r : List (List ℕ)). r ++ [] ∷ []) (all_same lists ∙ ap (map (numbers_called ms)) is)
  where
    count : n ≡ length ms
    count = len ∙ ap length is ∙ length-map ms (λ (m : MethodValue). callees_all m.body)

    same : (gs : List Word) → map (λ g. unwrap_or (find table g.text) n) gs ≡ numbers_called ms gs
    same [] = refl
    same (g ∷ gs) = ap (λ (r : List ℕ). unwrap_or (find table g.text) n ∷ r) (same gs)
        ∙ ap (λ (o : Option ℕ). unwrap_or o n ∷ numbers_called ms gs) (finds g.text) ∙ ap (λ k. unwrap_or (number_among 0 ms g.text) k ∷ numbers_called ms gs) count

    all_same : (ls : List (List Word)) → map (λ gs. map (λ g. unwrap_or (find table g.text) n) gs) ls ≡ map (numbers_called ms) ls
    all_same [] = refl
    all_same (gs ∷ ls) = ap (λ (r : List ℕ). r ∷ map (λ hs. map (λ g. unwrap_or (find table g.text) n) hs) ls) (same gs)
        ∙ ap (λ (r : List (List ℕ)). numbers_called ms gs ∷ r) (all_same ls)

-- a recursive call in the graph, where its name stands in these lists
pub record Found (t : TreeValue) (lists : List (List Word)) (i k : ℕ) : Type 0 where
  pub names : List Word
  pub name : Word
  pub list : slice_get lists i ≡ Some names
  pub at : slice_get names k ≡ Some name
  pub back : ComesBack t (fault rule.Recursive name.at)

pub found : (t : TreeValue) (lists : List (List Word)) (i k : ℕ) → lists ≡ all_callees t.methods → IsRecursive (graph t.methods) i k → Found t lists i k
found t lists i k is r =
    let m = meant t i k r.called r.is_call in
    record {
      names = callees_all m.method.body;
      name = m.name;
      list = subst (λ (ls : List (List Word)). slice_get ls i ≡ Some (callees_all m.method.body)) (sym is) (list_of t i k r.called m);
      at = m.at;
      back = comes_back t i k r;
    }

pub is_within : (t : TreeValue) (lists : List (List Word)) (i k : ℕ) (q : Found t lists i k) (gs : List Word) → slice_get lists i ≡ Some gs → k < length gs
is_within t lists i k q gs e =
    let same : q.names ≡ gs = some_same q.names gs (sym q.list ∙ e) in
    subst (λ (l : List Word). k < length l) same (slice_get_within q.names k q.name q.at)
  where
    some_same : (a b : List Word) → Some a ≡ Some b → a ≡ b
    some_same a b e = cc
