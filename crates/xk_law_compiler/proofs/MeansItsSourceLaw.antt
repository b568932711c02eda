-- The module that is the code of a program without faults of names does what the program says.
use Rattle.std.proofs.Common.{◌≡◌, inl, inr, ℕ, suc, ◌≤◌, Bool, true, false, cond, List, [], ◌∷◌, map, length, codes, Some, slice_get, refl, sym, ap, ◌∙◌, subst, arith}
use Rattle.std.specs.Prelude.{option_map, unwrap_or}
use Rattle.std.specs.Option.{option_map_or}
use Rattle.std.proofs.lemmas.List.{length-map}
use Rattle.std.proofs.lemmas.Option.{slice_get_within}
use Rattle.xk_types.specs.Code.{UnitValue, ModuleValue}
use Rattle.xk_tree.specs.AsyncOffsets.{HasBodiesApart}
use Rattle.xk_tree.specs.Tree.{Word, Expression, Statement, Statements, Done, More, Block, Empty, Declare, Assign, Atomic, If, IfElse, For, Async, Finish, Call, Resume, Drop, AdvanceAll, Print, MethodValue, SharedValue, TreeValue}
use Rattle.xk_names.specs.Scope.{Has, find, is_text}
use Rattle.xk_names.specs.WellScoped.{IsScoped}
use Rattle.xk_names.proofs.MembershipLemmas.{has_left, has_right}
use Rattle.xk_callgraph.proofs.CallGraphLemmas.{at_mapped}
use Rattle.xk_emit.specs.CodeOf.{Setting, Body, number_of, body_unit}
use Rattle.xk_emit.proofs.CoverageLemmas.TableLemmas.{is_same}
use Rattle.xk_source_semantics.specs.Parts.{Part, OfMethod, OfBody, Run, Calls, Starts, bodies, bodies_all, runs, runs_all}
use Rattle.xk_source_semantics.specs.Compilation.{HasLater, IsCompiled, shared_among, unit_of_part, unit_number}
use Rattle.xk_law_compiler.proofs.UnitLemmas.PartLookupLemmas.{Fits, fits_there}
use Rattle.xk_law_compiler.proofs.UnitLemmas.PartUniquenessLemmas.{one_method}
use Rattle.xk_law_compiler.proofs.UnitLemmas.BodyScopeLemmas.{part_of}
use Rattle.xk_law_compiler.proofs.UnitLemmas.SettingLemmas.{AreSettled, AreParts, body_unit_of}
use Rattle.xk_law_compiler.proofs.UnitLemmas.CoverageLemmas.{unit_parts, method_there, body_there}
use Rattle.xk_source_semantics.specs.Source.{shared_from, method_of}
use Rattle.xk_source_semantics.specs.Meaning.{Means}
use Rattle.xk_law_compiler.proofs.RelationLemmas.{Whole, IsLinked, AreLinked}
use Rattle.xk_law_compiler.proofs.UnitEntryLemmas.{IsBuilt}
use Rattle.xk_law_compiler.proofs.SimulationLaw.{IsMade, made_means}

-- ---- names

same_shared : (i : ℕ) (ss : List SharedValue) (x : List ℕ) → shared_among i ss x ≡ shared_from i ss x
same_shared i [] x = refl
same_shared i (s ∷ ss) x = ap (cond (is_text x s.name.text) (Some i)) (same_shared (suc i) ss x)

-- a method that has the name is found
record IsFirst (ms : List MethodValue) (x : List ℕ) : Type 0 where
  method : MethodValue
  there : Has ms method
  named : is_text x method.name.text ≡ true
  found : find (map (λ (m : MethodValue). (m.name.text, m)) ms) x ≡ Some method

first_named : (ms : List MethodValue) (x : List ℕ) (m : MethodValue) → Has ms m → is_text x m.name.text ≡ true → IsFirst ms x
first_named [] x m h e = absurd h
first_named (n ∷ ms) x m h e = go (is_text x n.name.text) refl (λ later. first_named ms x m later e)
  where
    rest : List (List ℕ × MethodValue)
    rest = map (λ (k : MethodValue). (k.name.text, k)) ms

    on : is_text x n.name.text ≡ false → IsFirst ms x → IsFirst (n ∷ ms) x
    on is r = record { method = r.method; there = inr r.there; named = r.named; found = ap (λ b. cond b (Some n) (find rest x)) is ∙ r.found }

    go : (b : Bool) → is_text x n.name.text ≡ b → (Has ms m → IsFirst ms x) → IsFirst (n ∷ ms) x
    go true is rest_first = record { method = n; there = inl refl; named = is; found = ap (λ b. cond b (Some n) (find rest x)) is }
    go false is rest_first = elim h [
      | inl same ↦ absurd (let f : is_text x n.name.text ≡ true = subst (λ (q : MethodValue). is_text x q.name.text ≡ true) same e in cc)
      | inr later ↦ on is (rest_first later)
    ]

-- and is the only one
method_found : (t : TreeValue) → IsScoped t → (x : List ℕ) (m : MethodValue) → Has t.methods m → is_text x m.name.text ≡ true → method_of t x ≡ Some m
method_found t scoped x m h e =
    let f = first_named t.methods x m h e in
    f.found ∙ ap Some (one_method t.methods x f.method m scoped.methods_apart f.there h f.named e)

-- ---- what is called and started has its unit

module _ (t : TreeValue) (scoped : IsScoped t) (units : List Part) (cx : Setting) (h : AreSettled t units cx) (made : ModuleValue)
    (code : made.units ≡ map (unit_of_part cx) units) (few : length units ≤ 1024) where
  abbrev whole : Whole
  whole = record { tree = t; m = made; setting = cx; units = units }

  numbered : (n : ℕ) (p : Part) → slice_get units n ≡ Some p → unit_number n ≡ n
  numbered n p e = let less = slice_get_within units n p e in omega arith

  unit_there : (n : ℕ) (p : Part) → slice_get units n ≡ Some p → slice_get made.units n ≡ Some (unit_of_part cx p)
  unit_there n p e = ap (λ (l : List UnitValue). slice_get l n) code ∙ at_mapped (unit_of_part cx) units n p e

  in_tree : (n : ℕ) (m : MethodValue) → slice_get units n ≡ Some (OfMethod m) → Has t.methods m
  in_tree n m e = part_of t scoped (OfMethod m) (h.are_units.within n (OfMethod m) e)

  call_linked : (f : Word) (at : ℕ) (es : List Expression) (n : ℕ) (p : Part) → slice_get units n ≡ Some p → Fits p (Calls f)
      → number_of cx.methods f ≡ n
      → IsLinked whole (Call f at es)
  call_linked f at es n (OfBody a cs s) stands fits number = absurd fits
  call_linked f at es n (OfMethod m) stands fits number =
      (m, method_found t scoped f.text m (in_tree n m stands) fits, subst (λ k. slice_get units k ≡ Some (OfMethod m)) (sym number) stands)

  mutual
    linked : (k : ℕ) (s : Statement) → AreParts t (bodies s) → ((r : Run) → Has (runs s) r → HasLater t units k r) → IsLinked whole s
    linked k (Block close ss) among later = all_linked k ss among later
    linked k (If at l op r s) among later = linked k s among later
    linked k (IfElse at l op r s u) among later = (
      linked k s (λ p i. among p (has_left (bodies s) (bodies u) p i)) (λ r i. later r (has_left (runs s) (runs u) r i)),
      linked k u (λ p i. among p (has_right (bodies s) (bodies u) p i)) (λ r i. later r (has_right (runs s) (runs u) r i)),
    )
    linked k (For at i lo b s) among later =
        λ turns. linked k s among (λ r j. later r (subst (λ (c : Bool). Has (cond c (runs s) []) r) (sym turns) j))
    linked k (Async at cs s) among later =
        let l = later (Starts at) (inl refl) in
        let u = body_unit_of t units cx h at cs s l.number (among (OfBody at cs s) (inl refl)) l.place in
        let number : body_unit cx at ≡ l.number = ap (λ o. option_map_or (λ (b : Body). b.unit) o 0) u.entry ∙ numbered l.number (OfBody at cs s) u.stands in (
          ap (slice_get made.units) number ∙ unit_there l.number (OfBody at cs s) u.stands,
          ap (slice_get units) number ∙ u.stands,
          body_there t units cx h scoped l.number at cs s u.stands,
          linked l.number s (λ p i. among p (inr i)) (λ r j. h.are_units.closed l.number (OfBody at cs s) r u.stands j),
        )
    linked k (Finish at s) among later = linked k s among later
    linked k (Call f at es) among later =
        let l = later (Calls f) (inl refl) in
        let g = fits_there units (Calls f) l.number l.place in
        call_linked f at es l.number g.part g.stands g.fits
        (ap (λ o. unwrap_or o 0) (h.is_setting.methods f.text ∙ ap (option_map unit_number) l.place) ∙ numbered l.number g.part g.stands)
    linked k Empty among later = tt
    linked k (Declare b x ty r) among later = tt
    linked k (Assign x e) among later = tt
    linked k (Atomic x y at e) among later = tt
    linked k (Resume c v) among later = tt
    linked k (Drop c v) among later = tt
    linked k (AdvanceAll at v) among later = tt
    linked k (Print at v e) among later = tt

    all_linked : (k : ℕ) (ss : Statements) → AreParts t (bodies_all ss) → ((r : Run) → Has (runs_all ss) r → HasLater t units k r)
        → AreLinked whole ss
    all_linked k Done among later = tt
    all_linked k (More s ss) among later = (
      linked k s (λ p i. among p (has_left (bodies s) (bodies_all ss) p i)) (λ r i. later r (has_left (runs s) (runs_all ss) r i)),
      all_linked k ss (λ p i. among p (has_right (bodies s) (bodies_all ss) p i)) (λ r i. later r (has_right (runs s) (runs_all ss) r i)),
    )

  method_built : (k : ℕ) (d : MethodValue) → slice_get units k ≡ Some (OfMethod d) → IsBuilt whole k d
  method_built k d e = record {
    placed = e;
    found = unit_there k (OfMethod d) e;
    covered = method_there t units cx h scoped k d e;
    linked = all_linked k d.body (unit_parts t units cx h k (OfMethod d) e) (λ r j. h.are_units.closed k (OfMethod d) r e j);
  }

  is_made : made.shared ≡ map (λ s. s.start.value) t.shared → IsMade whole
  is_made cells =
      let main = h.are_units.main in
      let there = in_tree 0 main h.are_units.first in
      let named : is_text (codes "main") main.name.text ≡ true = ap (is_text (codes "main")) h.are_units.named ∙ is_same (codes "main") in
      record {
        built = record { shared = λ x. h.is_setting.shared x ∙ same_shared 0 t.shared x; methods = method_built };
        cells = cells;
        main = main;
        named = method_found t scoped (codes "main") main there named;
        first = method_built 0 main h.are_units.first;
      }

-- the program and its module
abbrev pub whole_of : (t : TreeValue) (m : ModuleValue) → IsCompiled t m → Whole
whole_of t m c = record { tree = t; m = m; setting = c.setting; units = c.units }

pub compiled_made : (t : TreeValue) (m : ModuleValue) → IsScoped t → HasBodiesApart t → length m.units ≤ 1024 → (c : IsCompiled t m)
    → IsMade (whole_of t m c)
compiled_made t m scoped apart few c =
    let long : length m.units ≡ length c.units = ap length c.code ∙ length-map c.units (unit_of_part c.setting) in
    let h : AreSettled t c.units c.setting = record { apart = apart; are_units = c.are_units; is_setting = c.is_setting } in
    let less : length c.units ≤ 1024 = omega arith in
    is_made t scoped c.units c.setting h m c.code less c.shared

-- the law
pub compiled_means : (t : TreeValue) (m : ModuleValue) → IsScoped t → HasBodiesApart t → length m.units ≤ 1024 → IsCompiled t m → Means t m
compiled_means t m scoped apart few c = made_means (whole_of t m c) (compiled_made t m scoped apart few c)
