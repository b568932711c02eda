-- Where a body of `async` begins, what is found by a name of a shared number is shared, and all else is from as many bodies at most.
use Rattle.std.proofs.Common.{◌≡◌, ℕ, suc, nat_lt, ◌≤◌, Bool, true, false, cond, ◌||◌, List, [], ◌∷◌, ◌++◌, map, length, Option, Some, None, refl, sym, ◌∙◌, subst, append-nil, arith}
use Rattle.std.proofs.lemmas.Bool.{le-ltb}
use Rattle.xk_tree.specs.Tree.{Word, Bound, UpTo, Least, Statement, Statements, More, Block, Declare, If, IfElse, For, Async, Finish, SharedValue, ParamValue, MethodValue, TreeValue}
use Rattle.xk_tree.specs.declared.tree.Number.{Number}
use Rattle.xk_names.specs.declared.binding.Known.{Known}
use Rattle.xk_names.specs.declared.binding.NameKind.{NameKind}
use Rattle.xk_names.specs.declared.binding.NameKind.TheVariants as kind
use Rattle.xk_names.specs.Scope.{Table, find, has, is_text, Declaration, known, entry, entries, Scope, is_shared}
use Rattle.xk_names.specs.Uses.{declares, clocks_listed}
use Rattle.xk_names.specs.Places.{Way, Here, First, Later, Inside, Else, behind}
use Rattle.xk_names.specs.Faults.{shared_declaration, param_declaration}
use Rattle.xk_names.specs.WellScoped.{with_all, with_body, method_scope}
use Rattle.xk_names.specs.Captures.{shared_texts}
use Rattle.xk_names.proofs.TableAgreementLemmas.{or_entry, find_behind, append_step}
use Rattle.xk_names.proofs.MethodFaultLemmas.{scope_at, scope_among, append_entries}
use Rattle.xk_names.proofs.FreeUseLemmas.{is_inner_kind, Tells, IsTold, kind_plain, param_plain}

-- what a name is found as: a shared number just if it is on the list, and from at most so many bodies
abbrev Covers : ℕ → Bool → Option Known → Type 0
Covers n b None = b ≡ false
Covers n b (Some k) = (b ≡ is_shared k.kind) × (k.depth ≤ n)

abbrev IsCovered : List (List ℕ) → Scope → Type 0
IsCovered shared sc = (x : List ℕ) → Covers (length sc.bodies) (has shared x) (find sc.names x)

-- no shared number, and from at most so many bodies
abbrev IsPlain : ℕ → Declaration → Type 0
IsPlain n d = (is_shared d.known.kind ≡ false) × (d.known.depth ≤ n)

abbrev ArePlain : ℕ → List Declaration → Type 0
ArePlain n [] = Unit {0}
ArePlain n (d ∷ ds) = IsPlain n d × ArePlain n ds

covered_one : (shared : List (List ℕ)) (names : Table Known) (n : ℕ) (d : Declaration) → ((x : List ℕ) → Covers n (has shared x) (find names x)) → IsPlain n d
    → (x : List ℕ) → Covers n (has shared x) (find (names ++ entry d ∷ []) x)
covered_one shared names n d covered plain x =
    subst (λ o. Covers n (has shared x) o) (sym (find_behind names d.name.text d.known x)) (go (find names x) (is_text x d.name.text) (covered x))
  where
    go : (o : Option Known) (b : Bool) → Covers n (has shared x) o → Covers n (has shared x) (or_entry o b d.known)
    go None false h = h
    go None true h = (h ∙ sym plain.0, plain.1)
    go (Some k) b h = h

covered_all : (shared : List (List ℕ)) (names : Table Known) (n : ℕ) (ds : List Declaration) → ((x : List ℕ) → Covers n (has shared x) (find names x)) → ArePlain n ds
    → (x : List ℕ) → Covers n (has shared x) (find (names ++ entries ds) x)
covered_all shared names n [] covered plain x = subst (λ k. Covers n (has shared x) (find k x)) (sym (append-nil names)) (covered x)
covered_all shared names n (d ∷ ds) covered plain x =
    subst (λ k. Covers n (has shared x) (find k x)) (sym (append_step names (entry d) (entries ds)))
    (covered_all shared (names ++ entry d ∷ []) n ds (covered_one shared names n d covered plain.0) plain.1 x)

covered_more : (shared : List (List ℕ)) (sc : Scope) (ds : List Declaration) → IsCovered shared sc → ArePlain (length sc.bodies) ds → IsCovered shared (with_all sc ds)
covered_more shared sc ds covered plain = covered_all shared sc.names (length sc.bodies) ds covered plain

covered_body : (shared : List (List ℕ)) (sc : Scope) (cs : List Word) → IsCovered shared sc → IsCovered shared (with_body sc cs)
covered_body shared sc cs covered x = go (find sc.names x) (covered x)
  where
    go : (o : Option Known) → Covers (length sc.bodies) (has shared x) o → Covers (suc (length sc.bodies)) (has shared x) o
    go None h = h
    go (Some k) h = (h.0, let le : k.depth ≤ length sc.bodies = h.1 in omega (arith, le))

behind_plain : (n : ℕ) (s : Statement) → ArePlain n (behind n s)
behind_plain n (Declare b x ty r) = ((kind_plain b r, omega arith), tt)
behind_plain n _ = tt

loop_plain : (n at : ℕ) (i : Word) (lo : Number) (b : Bound) (s : Statement) → ArePlain n (declares n (For at i lo b s))
loop_plain n at i lo (UpTo hi) s = ((refl, omega arith), tt)
loop_plain n at i lo (Least x v e hi) s = ((refl, omega arith), ((refl, omega arith), tt))

mutual
  covered_at : (shared : List (List ℕ)) (sc : Scope) (s : Statement) (w : Way) → IsCovered shared sc → IsCovered shared (scope_at sc s w)
  covered_at shared sc s Here covered = covered
  covered_at shared sc (Block close ss) (Inside w) covered = covered_among shared sc ss w covered
  covered_at shared sc (If at l c r s) (Inside w) covered = covered_at shared sc s w covered
  covered_at shared sc (IfElse at l c r s u) (Inside w) covered = covered_at shared sc s w covered
  covered_at shared sc (IfElse at l c r s u) (Else w) covered = covered_at shared sc u w covered
  covered_at shared sc (For at i lo b s) (Inside w) covered =
      let ds = declares (length sc.bodies) (For at i lo b s) in
      covered_at shared (with_all sc ds) s w (covered_more shared sc ds covered (loop_plain (length sc.bodies) at i lo b s))
  covered_at shared sc (Async at cs s) (Inside w) covered = covered_at shared (with_body sc (clocks_listed cs)) s w (covered_body shared sc (clocks_listed cs) covered)
  covered_at shared sc (Finish at s) (Inside w) covered = covered_at shared sc s w covered
  covered_at shared sc _ _ covered = covered

  covered_among : (shared : List (List ℕ)) (sc : Scope) (ss : Statements) (w : Way) → IsCovered shared sc → IsCovered shared (scope_among sc ss w)
  covered_among shared sc (More s ss) (First w) covered = covered_at shared sc s w covered
  covered_among shared sc (More s ss) (Later w) covered =
      let ds = behind (length sc.bodies) s in
      covered_among shared (with_all sc ds) ss w (covered_more shared sc ds covered (behind_plain (length sc.bodies) s))
  covered_among shared sc _ _ covered = covered

-- ---- where a method begins

covered_shared : (xs : List SharedValue) (x : List ℕ) → Covers 0 (has (shared_texts xs) x) (find (entries (map shared_declaration xs)) x)
covered_shared [] x = refl
covered_shared (s ∷ xs) x = go (is_text x s.name.text) (covered_shared xs x)
  where
    go : (b : Bool) → Covers 0 (has (shared_texts xs) x) (find (entries (map shared_declaration xs)) x)
        → Covers 0 (b || has (shared_texts xs) x) (cond b (Some (known kind.Shared 0)) (find (entries (map shared_declaration xs)) x))
    go true h = (refl, omega arith)
    go false h = h

params_plain : (ps : List ParamValue) → ArePlain 0 (map param_declaration ps)
params_plain [] = tt
params_plain (p ∷ ps) = ((param_plain p.takes.kind, omega arith), params_plain ps)

covered_method : (t : TreeValue) (m : MethodValue) → IsCovered (shared_texts t.shared) (method_scope t m)
covered_method t m x =
    subst (λ (k : Table Known). Covers 0 (has (shared_texts t.shared) x) (find k x)) (sym (append_entries (map shared_declaration t.shared) (map param_declaration m.params)))
    (covered_all (shared_texts t.shared) (entries (map shared_declaration t.shared)) 0 (map param_declaration m.params) (covered_shared t.shared) (params_plain m.params) x)

-- ---- so the shared numbers are what is declared within where a body begins

told_start : (shared : List (List ℕ)) (sc : Scope) (cs : List Word) → IsCovered shared sc → IsTold (length sc.bodies) (with_body sc cs) shared
told_start shared sc cs covered = record { tells = λ x. go x (find sc.names x) (covered x); deeper = omega arith }
  where
    inner : (k : Known) (d : NameKind) → k.depth ≤ length sc.bodies → is_shared d ≡ is_inner_kind d (nat_lt (length sc.bodies) k.depth)
    inner k kind.Shared le = refl
    inner k kind.Val le = sym (le-ltb (length sc.bodies) k.depth le)
    inner k kind.Var le = sym (le-ltb (length sc.bodies) k.depth le)
    inner k kind.Clock le = sym (le-ltb (length sc.bodies) k.depth le)

    go : (x : List ℕ) (o : Option Known) → Covers (length sc.bodies) (has shared x) o → Tells (length sc.bodies) (has shared x) o
    go x None h = tt
    go x (Some k) h = h.0 ∙ inner k k.kind h.1

-- a body of `async` at the end of a way into a method
pub told_there : (t : TreeValue) (m : MethodValue) (w : Way) (cs : List Word)
    → IsTold (length (scope_among (method_scope t m) m.body w).bodies) (with_body (scope_among (method_scope t m) m.body w) cs) (shared_texts t.shared)
told_there t m w cs =
    told_start (shared_texts t.shared) (scope_among (method_scope t m) m.body w) cs (covered_among (shared_texts t.shared) (method_scope t m) m.body w (covered_method t m))
