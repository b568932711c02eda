-- What the code of a unit calls and starts stands where the setting says; and the first unit alone is main.
use Rattle.std.proofs.Common.{◌≡◌, inl, ℕ, zero, suc, ◌<◌, ◌≤◌, ◌==◌, ◌||◌, Bool, true, false, cond, List, [], ◌∷◌, map, length, Option, None, Some, slice_get, refl, sym, ap, ◌∙◌, subst, arith}
use Rattle.std.specs.Prelude.{codes, option_map, unwrap_or}
use Rattle.std.specs.List.{list_any}
use Rattle.std.specs.Option.{option_map_or}
use Rattle.std.proofs.lemmas.Bool.Decides.{nat_tests}
use Rattle.std.proofs.lemmas.Option.{slice_get_within}
use Rattle.xk_names.proofs.TableAgreementLemmas.{same_text}
use Rattle.xk_types.specs.declared.unit.UnitKind.TheVariants as unit_kind
use Rattle.xk_types.specs.Code.{UnitValue, ModuleValue, is_method, is_body}
use Rattle.xk_types.specs.Blocks.{takes_clock}
use Rattle.xk_types.specs.Shape.{is_in_place}
use Rattle.xk_tree.specs.Tree.{Word, Clocks, Statement, Statements, Done, More, Block, Empty, Declare, Assign, Atomic, If, IfElse, For, Async, Finish, Call, Resume, Drop, AdvanceAll, Print, ParamValue, MethodValue, TreeValue}
use Rattle.xk_names.specs.Scope.{Has, find, is_text}
use Rattle.xk_names.specs.Uses.{signatures}
use Rattle.xk_names.specs.Faults.{MayBegin, wants_clock}
use Rattle.xk_names.specs.WellScoped.{IsScoped}
use Rattle.xk_names.proofs.MembershipLemmas.{has_left, has_right}
use Rattle.xk_callgraph.proofs.CallGraphLemmas.{at_mapped}
use Rattle.xk_emit.specs.CodeOf.{Setting, Body, number_of, body_unit}
use Rattle.xk_emit.specs.Unit.{kinds_of_params, body_kinds}
use Rattle.xk_emit.proofs.ShapeLemmas.InstructionLemmas.{EachInside, EachOf}
use Rattle.xk_emit.proofs.ShapeLemmas.NameLemmas.{FindsUnits, Stands as StandsUnit}
use Rattle.xk_source_semantics.specs.Parts.{Part, OfMethod, OfBody, Run, Calls, Starts, bodies, bodies_all, parts, runs, runs_all, place_of, method_among}
use Rattle.xk_source_semantics.specs.Compilation.{AreUnits, HasLater, method_kind, unit_of_part, unit_number}
use Rattle.xk_law_compiler.proofs.UnitLemmas.PartLookupLemmas.{Fits, fits_there}
use Rattle.xk_law_compiler.proofs.UnitLemmas.PartUniquenessLemmas.{one_method, signed}
use Rattle.xk_law_compiler.proofs.UnitLemmas.BodyScopeLemmas.{part_of}
use Rattle.xk_law_compiler.proofs.UnitLemmas.SettingLemmas.{AreSettled, AreParts, body_unit_of}

-- ---- main

kind_of_main : (m : MethodValue) → m.name.text ≡ codes "main" → method_kind m ≡ unit_kind.Main
kind_of_main m e = ap (λ x. cond (is_text x (codes "main")) unit_kind.Main unit_kind.Method) e

-- a method `main` that a run may begin with takes no clock
may_begin : (o : Option (List ParamValue)) → MayBegin o → (ps : List ParamValue) × (o ≡ Some ps) × (list_any wants_clock ps ≡ false)
may_begin None h = absurd h
may_begin (Some ps) h = (ps, refl, h)

-- a unit takes a clock where its method does
clocks_alike : (ps : List ParamValue) → list_any (λ k. takes_clock (Some k)) (kinds_of_params ps) ≡ list_any wants_clock ps
clocks_alike [] = refl
clocks_alike (p ∷ ps) = ap (λ b. wants_clock p || b) (clocks_alike ps)

-- a method that isn't named so
kind_of_other : (m : MethodValue) → (is_text m.name.text (codes "main") ≡ true → ⊥) → method_kind m ≡ unit_kind.Method
kind_of_other m other = go (is_text m.name.text (codes "main")) refl
  where
    go : (b : Bool) → is_text m.name.text (codes "main") ≡ b → cond b unit_kind.Main unit_kind.Method ≡ unit_kind.Method
    go true e = absurd (other e)
    go false e = refl

-- the first unit is what a call of `main` runs
main_first : (t : TreeValue) (units : List Part) → AreUnits t units → method_among 0 units (codes "main") ≡ Some 0
main_first t units h = go units h.first
  where
    go : (us : List Part) → slice_get us 0 ≡ Some (OfMethod h.main) → method_among 0 us (codes "main") ≡ Some 0
    go [] e = absurd cc
    go (u ∷ us) e =
        let is : u ≡ OfMethod h.main = cc in
        subst (λ (p : Part). method_among 0 (p ∷ us) (codes "main") ≡ Some 0) (sym is)
        (ap (λ x. cond (is_text (codes "main") x) (Some 0) (method_among 1 us (codes "main"))) h.named)

module _ (t : TreeValue) (scoped : IsScoped t) (units : List Part) (cx : Setting) (h : AreSettled t units cx) (made : ModuleValue)
    (code : made.units ≡ map (unit_of_part cx) units) (few : length units ≤ 1024) where
  in_tree : (k : ℕ) (m : MethodValue) → slice_get units k ≡ Some (OfMethod m) → Has t.methods m
  in_tree k m e = part_of t scoped (OfMethod m) (h.are_units.within k (OfMethod m) e)

  -- main takes no clock
  main_takes_none : list_any wants_clock h.are_units.main.params ≡ false
  main_takes_none =
      let u = h.are_units in
      let b = may_begin (find (signatures t.methods) (codes "main")) scoped.main in
      let s = signed t.methods (codes "main") b.0 b.1 in
      let one : u.main ≡ s.method = one_method t.methods (codes "main") u.main s.method scoped.methods_apart (in_tree 0 u.main u.first) s.there
      (ap (is_text (codes "main")) u.named) s.named in
      ap (list_any wants_clock) (ap (λ (m : MethodValue). m.params) one ∙ s.params) ∙ b.2

  -- no other unit is called so
  other_name : (k : ℕ) (m : MethodValue) → slice_get units (suc k) ≡ Some (OfMethod m) → is_text m.name.text (codes "main") ≡ true → ⊥
  other_name k m e named =
      let u = h.are_units in
      let text : m.name.text ≡ codes "main" = same_text m.name.text (codes "main") named in
      let one : u.main ≡ m = one_method t.methods (codes "main") u.main m scoped.methods_apart (in_tree 0 u.main u.first) (in_tree (suc k) m e)
      (ap (is_text (codes "main")) u.named) (ap (is_text (codes "main")) text) in
      let never : 0 ≡ suc k = u.once 0 (suc k) (OfMethod m) (u.first ∙ ap (λ n. Some (OfMethod n)) one) e in
      absurd cc

  first_in_place : (p : Part) → OfMethod h.are_units.main ≡ p → is_in_place 0 (unit_of_part cx p) ≡ true
  first_in_place p e =
      subst (λ (q : Part). is_in_place 0 (unit_of_part cx q) ≡ true) e
      (rw (kind_of_main h.are_units.main h.are_units.named, clocks_alike h.are_units.main.params ∙ main_takes_none) refl)

  later_in_place : (k : ℕ) (p : Part) → slice_get units (suc k) ≡ Some p → is_in_place (suc k) (unit_of_part cx p) ≡ true
  later_in_place k (OfMethod m) e = (let behind : (suc k == 0) ≡ false = grind (arith, nat_tests) in rw (kind_of_other m (other_name k m e), behind) refl)
  later_in_place k (OfBody at cs s) e = (let behind : (suc k == 0) ≡ false = grind (arith, nat_tests) in rw behind refl)

  pub in_place : (k : ℕ) (p : Part) → slice_get units k ≡ Some p → is_in_place k (unit_of_part cx p) ≡ true
  in_place zero p e = first_in_place p (let same : Some (OfMethod h.are_units.main) ≡ Some p = sym h.are_units.first ∙ e in cc)
  in_place (suc k) p e = later_in_place k p e

  -- ---- what is called and started

  numbered : (n : ℕ) (p : Part) → slice_get units n ≡ Some p → unit_number n ≡ n
  numbered n p e = let less = slice_get_within units n p e in omega arith

  unit_there : (n : ℕ) (p : Part) → slice_get units n ≡ Some p → slice_get made.units n ≡ Some (unit_of_part cx p)
  unit_there n p e = ap (λ (l : List UnitValue). slice_get l n) code ∙ at_mapped (unit_of_part cx) units n p e

  -- the method of a call
  called : (k : ℕ) (f : Word) (n : ℕ) (p : Part) → k < n → place_of units (Calls f) ≡ Some n → slice_get units n ≡ Some p → Fits p (Calls f)
      → (ps : List ParamValue) → find (signatures t.methods) f.text ≡ Some ps → StandsUnit is_method made k n (kinds_of_params ps)
  called k f n (OfBody at cs s) later place stands fits ps e = absurd fits
  called k f n (OfMethod m) later place stands fits ps e =
      let s = signed t.methods f.text ps e in
      let one : m ≡ s.method = one_method t.methods f.text m s.method scoped.methods_apart (in_tree n m stands) s.there fits s.named in
      record {
        v = unit_of_part cx (OfMethod m);
        found = unit_there n (OfMethod m) stands;
        is = ap is_method (kind_of_other m (λ named.
            let text : f.text ≡ codes "main" = same_text f.text m.name.text fits ∙ same_text m.name.text (codes "main") named in
            let zeroth : Some n ≡ Some 0 = sym place ∙ ap (method_among 0 units) text ∙ main_first t units h.are_units in
            let none : n ≡ 0 = cc in
            omega arith));
        behind = later;
        takes = ap kinds_of_params (ap (λ (q : MethodValue). q.params) one ∙ s.params);
      }

  finds_method : (k : ℕ) (f : Word) (l : HasLater t units k (Calls f)) (ps : List ParamValue) → find (signatures t.methods) f.text ≡ Some ps
      → StandsUnit is_method made k (number_of cx.methods f) (kinds_of_params ps)
  finds_method k f l ps e =
      let g = fits_there units (Calls f) l.number l.place in
      let number : number_of cx.methods f ≡ l.number = ap (λ o. unwrap_or o 0) (h.is_setting.methods f.text ∙ ap (option_map unit_number) l.place) ∙ numbered l.number g.part g.stands in
      subst (λ n. StandsUnit is_method made k n (kinds_of_params ps)) (sym number) (called k f l.number g.part l.later l.place g.stands g.fits ps e)

  finds_body : (k at : ℕ) (cs : Option Clocks) (s : Statement) → Has (parts t) (OfBody at cs s) → HasLater t units k (Starts at)
      → StandsUnit is_body made k (body_unit cx at) (body_kinds cx at cs)
  finds_body k at cs s there l =
      let u = body_unit_of t units cx h at cs s l.number there l.place in
      let number : body_unit cx at ≡ l.number = ap (λ o. option_map_or (λ (b : Body). b.unit) o 0) u.entry ∙ numbered l.number (OfBody at cs s) u.stands in
      record {
        v = unit_of_part cx (OfBody at cs s);
        found = ap (slice_get made.units) number ∙ unit_there l.number (OfBody at cs s) u.stands;
        is = refl;
        behind = subst (λ n. k < n) (sym number) l.later;
        takes = refl;
      }

  mutual
    pub finds_units : (k : ℕ) (s : Statement) → AreParts t (bodies s) → ((r : Run) → Has (runs s) r → HasLater t units k r)
        → EachInside (FindsUnits made cx (signatures t.methods) k) s
    finds_units k (Block close ss) among later = find_units k ss among later
    finds_units k (If at l op r s) among later = finds_units k s among later
    finds_units k (IfElse at l op r s u) among later = (
      finds_units k s (λ p i. among p (has_left (bodies s) (bodies u) p i)) (λ r i. later r (has_left (runs s) (runs u) r i)),
      finds_units k u (λ p i. among p (has_right (bodies s) (bodies u) p i)) (λ r i. later r (has_right (runs s) (runs u) r i)),
    )
    finds_units k (For at i lo b s) among later =
        λ turns. finds_units k s among (λ r j. later r (subst (λ (c : Bool). Has (cond c (runs s) []) r) (sym turns) j))
    finds_units k (Async at cs s) among later = finds_body k at cs s (among (OfBody at cs s) (inl refl)) (later (Starts at) (inl refl))
    finds_units k (Finish at s) among later = finds_units k s among later
    finds_units k (Call f at es) among later = finds_method k f (later (Calls f) (inl refl))
    finds_units k Empty among later = tt
    finds_units k (Declare b x ty r) among later = tt
    finds_units k (Assign x e) among later = tt
    finds_units k (Atomic x y at e) among later = tt
    finds_units k (Resume c v) among later = tt
    finds_units k (Drop c v) among later = tt
    finds_units k (AdvanceAll at v) among later = tt
    finds_units k (Print at v e) among later = tt

    pub find_units : (k : ℕ) (ss : Statements) → AreParts t (bodies_all ss) → ((r : Run) → Has (runs_all ss) r → HasLater t units k r)
        → EachOf (FindsUnits made cx (signatures t.methods) k) ss
    find_units k Done among later = tt
    find_units k (More s ss) among later = (
      finds_units k s (λ p i. among p (has_left (bodies s) (bodies_all ss) p i)) (λ r i. later r (has_left (runs s) (runs_all ss) r i)),
      find_units k ss (λ p i. among p (has_right (bodies s) (bodies_all ss) p i)) (λ r i. later r (has_right (runs s) (runs_all ss) r i)),
    )
