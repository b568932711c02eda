-- Names that are added to a list, and numbers of names.
use Rattle.std.proofs.Common.{◌≡◌, ℕ, zero, suc, Bool, true, false, cond, List, [], ◌∷◌, ◌++◌, map, Vec, Option, Some, None, refl, sym, ap, ◌∙◌, ◌<◌, length, get_or, drop, append_assoc, arith}
use Rattle.std.specs.Prelude.{is_some}
use Rattle.std.specs.declared.alloc.Global.{Global}
use Rattle.std.specs.Option.{option_or}
use Rattle.xk_names.proofs.TableAgreementLemmas.{same_text}
use Rattle.xk_callgraph.specs.CallGraph.{adjacency}
use Rattle.xk_tree.specs.Tree.{Word, method_value, word, words}
use Rattle.xk_tree.specs.declared.tree.Method.{Method}
use Rattle.xk_tree.specs.declared.tree.Name.{Name}
use Rattle.xk_names.specs.Scope.{Table, find, is_text}
use Rattle.xk_names.specs.FaultList.{put}
use Rattle.xk_callgraph.specs.Recursion.{number_among}

pub words_push : (ns : List Name) (n : Name) → words (ns ++ n ∷ []) ≡ words ns ++ word n ∷ []
words_push [] n = refl
words_push (m ∷ ns) n = ap (λ r. word m ∷ r) (words_push ns n)

pub lists_push : (vs : List (Vec Name Global)) (v : Vec Name Global) → map (λ ns. words ns.items) (vs ++ v ∷ []) ≡ map (λ ns. words ns.items) vs ++ words v.items ∷ []
lists_push [] v = refl
lists_push (w ∷ vs) v = ap (λ r. words w.items ∷ r) (lists_push vs v)

pub adjacency_push : (vs : List (Vec ℕ Global)) (v : Vec ℕ Global) → adjacency (vs ++ v ∷ []) ≡ adjacency vs ++ v.items ∷ []
adjacency_push [] v = refl
adjacency_push (w ∷ vs) v = ap (λ r. w.items ∷ r) (adjacency_push vs v)

-- ---- numbers of names

find_last : (table : Table ℕ) (k x : List ℕ) (i : ℕ) (o : Option ℕ) → option_or (find (table ++ (k, i) ∷ []) x) o ≡ option_or (find table x) (cond (is_text x k) (Some i) o)
find_last [] k x i o = go (is_text x k)
  where
    go : (b : Bool) → option_or (cond b (Some i) None) o ≡ cond b (Some i) o
    go true = refl
    go false = refl
find_last (e ∷ table) k x i o = go (is_text x e.0) (find_last table k x i o)
  where
    go : (b : Bool) → option_or (find (table ++ (k, i) ∷ []) x) o ≡ option_or (find table x) (cond (is_text x k) (Some i) o)
        → option_or (cond b (Some e.1) (find (table ++ (k, i) ∷ []) x)) o ≡ option_or (cond b (Some e.1) (find table x)) (cond (is_text x k) (Some i) o)
    go true later = refl
    go false later = later

-- a name that the table has already
find_present : (table : Table ℕ) (k x : List ℕ) (i : ℕ) (o : Option ℕ) → is_some (find table k) ≡ true
    → option_or (find table x) o ≡ option_or (find table x) (cond (is_text x k) (Some i) o)
find_present table k x i o h = go (is_text x k) refl
  where
    there : (p q : Option ℕ) → is_some p ≡ true → option_or p o ≡ option_or p q
    there (Some j) q e = refl
    there None q e = cc

    go : (b : Bool) → is_text x k ≡ b → option_or (find table x) o ≡ option_or (find table x) (cond b (Some i) o)
    go true e = there (find table x) (Some i) (ap (λ y. is_some (find table y)) (same_text x k e) ∙ h)
    go false e = refl

-- a name's number, where one method more is in the table
pub put_number : (table : Table ℕ) (k x : List ℕ) (i : ℕ) (o : Option ℕ) → option_or (find (put table k i) x) o ≡ option_or (find table x) (cond (is_text x k) (Some i) o)
put_number table k x i o = go (is_some (find table k)) refl
  where
    go : (b : Bool) → is_some (find table k) ≡ b → option_or (find (cond b table (table ++ (k, i) ∷ [])) x) o ≡ option_or (find table x) (cond (is_text x k) (Some i) o)
    go true e = find_present table k x i o e
    go false e = find_last table k x i o

-- the methods that are left begin with this one
pub left_at : (ms : List Method) (n i : ℕ) (m : Method) (x : List ℕ) → i < length ms → m ≡ get_or ms i m
    → number_among n (map method_value (drop i ms)) x ≡ cond (is_text x m.name.text.now) (Some n) (number_among (suc n) (map method_value (drop (suc i) ms)) x)
left_at [] n i m x h e = absurd (omega arith)
left_at (y ∷ ms) n zero m x h e = ap (λ (k : Method). cond (is_text x k.name.text.now) (Some n) (number_among (suc n) (map method_value ms) x)) (sym e)
left_at (y ∷ ms) n (suc i) m x h e = left_at ms n i m x (omega arith) e

-- ---- lists of numbers

left_names : (f : List Word → List ℕ) (vs : List (Vec Name Global)) (k : ℕ) (v : Vec Name Global) → k < length vs → v ≡ get_or vs k v
    → map f (map (λ ns. words ns.items) (drop k vs)) ≡ f (words v.items) ∷ map f (map (λ ns. words ns.items) (drop (suc k) vs))
left_names f [] k v h e = absurd (omega arith)
left_names f (w ∷ vs) zero v h e = ap (λ (u : Vec Name Global). f (words u.items) ∷ map f (map (λ ns. words ns.items) vs)) (sym e)
left_names f (w ∷ vs) (suc k) v h e = left_names f vs k v (omega arith) e

-- one list more
pub rows_step : (f : List Word → List ℕ) (rs : List (Vec ℕ Global)) (r : Vec ℕ Global) (vs : List (Vec Name Global)) (k : ℕ) (v : Vec Name Global) → k < length vs
    → v ≡ get_or vs k v
    → r.items ≡ f (words v.items)
    → adjacency (rs ++ r ∷ []) ++ map f (map (λ ns. words ns.items) (drop (suc k) vs)) ≡ adjacency rs ++ map f (map (λ ns. words ns.items) (drop k vs))
rows_step f rs r vs k v h e is =
    ap (λ (l : List (List ℕ)). l ++ map f (map (λ ns. words ns.items) (drop (suc k) vs))) (adjacency_push rs r)
    ∙ append_assoc (adjacency rs) (r.items ∷ []) (map f (map (λ ns. words ns.items) (drop (suc k) vs)))
    ∙ ap (λ (l : List ℕ). adjacency rs ++ l ∷ map f (map (λ ns. words ns.items) (drop (suc k) vs))) is
    ∙ ap (λ l. adjacency rs ++ l) (sym (left_names f vs k v h e))
