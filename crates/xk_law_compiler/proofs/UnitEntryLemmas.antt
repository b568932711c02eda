-- How a unit begins: its parameters stand for what was handed to it.
use Rattle.std.proofs.Common.{◌≡◌, ℕ, suc, ◌+◌, ◌<◌, ◌≤◌, Bool, true, false, cond, List, [], ◌∷◌, ◌++◌, length, Some, refl, sym, ap, ◌∙◌, subst, arith, append-nil}
use Rattle.std.specs.Prelude.{slice_get, is_some, ⊤}
use Rattle.std.proofs.lemmas.Bool.{false≢true}
use Rattle.std.proofs.lemmas.Option.{none-some, same_Some}
use Rattle.xk_names.proofs.TableAgreementLemmas.{same_text}
use Rattle.xk_types.specs.declared.instr.Instr.TheVariants as instr
use Rattle.xk_types.specs.declared.world.Value.{Value as Held}
use Rattle.xk_types.proofs.ListLemmas.{get-append_left}
use Rattle.xk_tree.specs.Tree.{Block, ParamValue, MethodValue}
use Rattle.xk_names.specs.Scope.{find, is_text}
use Rattle.xk_emit.specs.CodeOf.{Scope, declared, code_of}
use Rattle.xk_emit.specs.Unit.{scope_from, first_temporary, unit_code, names_of_params}
use Rattle.xk_emit.specs.NameCoverage.{IsFound, AreNew, IsUnitCovered}
use Rattle.xk_emit.proofs.CoverageLemmas.TableLemmas.{is_same, still_found, now_found}
use Rattle.xk_source_semantics.specs.Parts.{Part, OfMethod}
use Rattle.xk_source_semantics.specs.Compilation.{unit_of_part}
use Rattle.xk_source_semantics.specs.Source.{Names, named, unfolded, shared_from}
use Rattle.xk_law_compiler.proofs.ExpressionLemmas.{IsMatched}
use Rattle.xk_law_compiler.proofs.PlaceLemmas.{code_in, body_of, is_whole}
use Rattle.xk_law_compiler.proofs.RelationLemmas.{HoldsAt, holds_front, holds_back, holds_all, IsProper, Whole, IsLinked, AreLinked, Rest, Stands, rest_here, rest_unfolded}

-- ---- what a program needs of its module

-- the method has this unit, of which no name is wanting, and what it calls and starts has units
pub record IsBuilt (cx : Whole) (k : ℕ) (d : MethodValue) : Type 0 where
  pub placed : slice_get cx.units k ≡ Some (OfMethod d)
  pub found : slice_get cx.m.units k ≡ Some (unit_of_part cx.setting (OfMethod d))
  pub covered : IsUnitCovered cx.setting (names_of_params d.params) (Block d.close d.body)
  pub linked : AreLinked cx d.body

-- the shared numbers have their places, and each method that has a unit has it
pub record AreBuilt (cx : Whole) : Type 0 where
  pub shared : (x : List ℕ) → find cx.setting.shared x ≡ shared_from 0 cx.tree.shared x
  pub methods : (k : ℕ) (d : MethodValue) → slice_get cx.units k ≡ Some (OfMethod d) → IsBuilt cx k d

-- ---- names and values

-- names stand for values, one for one
abbrev pub AreKnown : Names → List (List ℕ) → List Held → Type 0
AreKnown names [] [] = ⊤
AreKnown names [] (v ∷ vs) = ⊥
AreKnown names (x ∷ xs) [] = ⊥
AreKnown names (x ∷ xs) (v ∷ vs) = (find names x ≡ Some v) × AreKnown names xs vs

-- none of them is this one
abbrev AreOthers : List ℕ → List (List ℕ) → Type 0
AreOthers x [] = ⊤
AreOthers x (y ∷ ys) = (is_text y x ≡ false) × AreOthers x ys

-- names that are new where one is visible are others
new_others : (scope : Scope) (n : ℕ) (x : List ℕ) (ys : List (List ℕ)) → IsFound scope x → AreNew scope n ys → AreOthers x ys
new_others scope n x [] found new = tt
new_others scope n x (y ∷ ys) found new = (by (is_text y x) refl, new_others (scope ++ (y, n) ∷ []) (n + 1) x ys (still_found scope y n x found) new.1)
  where
    by : (b : Bool) → is_text y x ≡ b → b ≡ false
    by true e = absurd (false≢true (sym new.0 ∙ (ap (λ z. is_some (find scope z)) (same_text y x e) ∙ found)))
    by false e = refl

-- a further name that isn't among them
known_more : (x : List ℕ) (v : Held) (ys : List (List ℕ)) (vs : List Held) (names : Names) → AreOthers x ys → AreKnown names ys vs
    → AreKnown ((x, v) ∷ names) ys vs
known_more x v [] [] names other h = tt
known_more x v [] (u ∷ us) names other h = absurd h
known_more x v (y ∷ ys) [] names other h = absurd h
known_more x v (y ∷ ys) (u ∷ us) names other h =
    (ap (λ b. cond b (Some v) (find names y)) other.0 ∙ h.0, known_more x v ys us names other.1 h.1)

-- parameters stand for what was handed to them
pub known_named : (scope : Scope) (n : ℕ) (ps : List ParamValue) (vs : List Held) → length vs ≡ length ps → AreNew scope n (names_of_params ps)
    → AreKnown (named ps vs) (names_of_params ps) vs
known_named scope n [] [] same new = tt
known_named scope n [] (v ∷ vs) same new = absurd (omega arith)
known_named scope n (p ∷ ps) [] same new = absurd (omega arith)
known_named scope n (p ∷ ps) (v ∷ vs) same new =
    let x = p.name.text in
    let more : Scope = scope ++ (x, n) ∷ [] in (
      ap (λ b. cond b (Some v) (find (named ps vs) x)) (is_same x),
      known_more x v (names_of_params ps) vs (named ps vs) (new_others more (n + 1) x (names_of_params ps) (now_found scope x n x (is_same x)) new.1)
          (known_named more (n + 1) ps vs (omega arith) new.1),
    )

-- a parameter's slot holds it
pub record IsHeld (names : Names) (vs : List Held) (n : ℕ) (x : List ℕ) (s : ℕ) : Type 0 where
  pub k : ℕ
  pub v : Held
  pub slot : s ≡ n + k
  pub name : find names x ≡ Some v
  pub held : slice_get vs k ≡ Some v

held_from : (n : ℕ) (xs : List (List ℕ)) (vs : List Held) (names : Names) → AreKnown names xs vs → (x : List ℕ) (s : ℕ)
    → find (scope_from n xs) x ≡ Some s
    → IsHeld names vs n x s
held_from n [] vs names h x s f = absurd (none-some s f)
held_from n (y ∷ ys) [] names h x s f = absurd h
held_from n (y ∷ ys) (v ∷ vs) names h x s f = go (is_text x y) refl f (λ g. held_from (n + 1) ys vs names h.1 x s g)
  where
    go : (b : Bool) → is_text x y ≡ b → cond b (Some n) (find (scope_from (n + 1) ys) x) ≡ Some s
        → (find (scope_from (n + 1) ys) x ≡ Some s → IsHeld names vs (n + 1) x s) → IsHeld names (v ∷ vs) n x s
    go true e g later =
        let same = same_Some n s g in
        record { k = 0; v = v; slot = omega arith; name = ap (find names) (same_text x y e) ∙ h.0; held = refl }
    go false e g later = let r = later g in record { k = suc r.k; v = r.v; slot = (let q = r.slot in omega arith); name = r.name; held = r.held }

pub matched_known : (xs : List (List ℕ)) (vs more : List Held) (names : Names) → AreKnown names xs vs → IsMatched (scope_from 0 xs) names (vs ++ more)
matched_known xs vs more names h x s f =
    let r = held_from 0 xs vs names h x s f in
    let e : r.k ≡ s = (let q = r.slot in omega arith) in
    r.name ∙ sym (subst (λ k. slice_get (vs ++ more) k ≡ Some r.v) e (get-append_left vs more r.k r.v r.held))

-- ---- parameters have slots of their own

between_slots : (n : ℕ) (xs : List (List ℕ)) (x : List ℕ) (s : ℕ) → find (scope_from n xs) x ≡ Some s → (n ≤ s) × (s < n + length xs)
between_slots n [] x s f = absurd (none-some s f)
between_slots n (y ∷ ys) x s f = go (is_text x y) f (λ g. between_slots (n + 1) ys x s g)
  where
    go : (b : Bool) → cond b (Some n) (find (scope_from (n + 1) ys) x) ≡ Some s
        → (find (scope_from (n + 1) ys) x ≡ Some s → (n + 1 ≤ s) × (s < n + 1 + length ys)) → (n ≤ s) × (s < n + length (y ∷ ys))
    go true g later = let same = same_Some n s g in (omega arith, omega arith)
    go false g later = let r = later g in let lo = r.0 in let hi = r.1 in (omega arith, omega arith)

one_slot : (n : ℕ) (xs : List (List ℕ)) (x y : List ℕ) (s : ℕ) → find (scope_from n xs) x ≡ Some s → find (scope_from n xs) y ≡ Some s → x ≡ y
one_slot n [] x y s f g = absurd (none-some s f)
one_slot n (z ∷ zs) x y s f g = go (is_text x z) (is_text y z) refl refl f g (λ p q. one_slot (n + 1) zs x y s p q)
  where
    go : (b c : Bool) → is_text x z ≡ b → is_text y z ≡ c → cond b (Some n) (find (scope_from (n + 1) zs) x) ≡ Some s
        → cond c (Some n) (find (scope_from (n + 1) zs) y) ≡ Some s
        → (find (scope_from (n + 1) zs) x ≡ Some s → find (scope_from (n + 1) zs) y ≡ Some s → x ≡ y) → x ≡ y
    go true true d e p q later = same_text x z d ∙ sym (same_text y z e)
    go true false d e p q later = let a = same_Some n s p in let b = between_slots (n + 1) zs y s q in let lo = b.0 in absurd (omega arith)
    go false true d e p q later = let a = same_Some n s q in let b = between_slots (n + 1) zs x s p in let lo = b.0 in absurd (omega arith)
    go false false d e p q later = later p q

params_proper : (xs : List (List ℕ)) → IsProper (scope_from 0 xs) (length xs)
params_proper xs = record {
  below = λ x s f. (let b = between_slots 0 xs x s f in let hi = b.1 in omega arith);
  apart = λ x y s f g. one_slot 0 xs x y s f g;
}

-- a unit's code does what its statement unfolds into
pub unit_rest : (cx : Whole) (part : Part) (xs : List (List ℕ)) → code_in cx.setting part ≡ unit_code cx.setting xs (body_of part)
    → IsUnitCovered cx.setting xs (body_of part) → IsLinked cx (body_of part)
    → Rest cx (first_temporary xs (body_of part)) part (scope_from 0 xs) 0 (unfolded (body_of part))
unit_rest cx part xs made covered linked =
    let s = body_of part in
    let t = first_temporary xs s in
    let scope = scope_from 0 xs in
    let code = code_of cx.setting t scope (length xs) 0 s in
    let whole = code_in cx.setting part in
    let holds = subst (HoldsAt whole 0) made (holds_all whole) in
    let ret = holds_back whole 0 code (instr.Ret ∷ []) holds in
    let stands : Stands cx t part scope (length xs) 0 s = record {
      lies = is_whole;
      holds = holds_front whole 0 code (instr.Ret ∷ []) holds;
      covered = covered.body;
      linked = linked;
      proper = params_proper xs;
      room = omega arith;
    } in
    subst (λ todo. Rest cx t part scope 0 todo) (append-nil (unfolded s))
    (rest_unfolded cx t part scope (length xs) 0 s [] stands (rest_here cx t part (declared scope (length xs) s) (0 + length code) [] ret.0))
