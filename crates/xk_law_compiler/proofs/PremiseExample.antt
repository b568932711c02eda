-- The premise of the law is met: a small program, and the module that is its code.
use Rattle.std.proofs.Common.{◌≡◌, inl, inr, ℕ, zero, suc, ◌+◌, ◌≤◌, Bool, true, false, cond, List, [], ◌∷◌, ◌<◌, length, codes, Option, Some, None, slice_get, refl, sym, ap, subst, arith}
use Rattle.std.specs.Prelude.{option_map}
use Rattle.xk_callgraph.specs.CallGraph.{IsCall, Reaches}
use Rattle.xk_callgraph.specs.TopologicalOrder.{IsReady}
use Rattle.xk_tree.specs.declared.fault.FrontFault.{FrontFault}
use Rattle.xk_tree.specs.AsyncOffsets.{HasBodiesApart}
use Rattle.xk_names.specs.Scope.{Has, is_text}
use Rattle.xk_names.specs.Faults.{HasFault}
use Rattle.xk_names.specs.FaultList.{own, name_faults}
use Rattle.xk_names.proofs.TreeFaultLemmas.{fault_listed}
use Rattle.xk_names.proofs.WellScopedLaw.{scoped_tree}
use Rattle.xk_callgraph.proofs.CallPlaceLemmas.{has_at}
use Rattle.xk_source_semantics.specs.Parts.{Part, Run, Starts, parts, part_runs}
use Rattle.xk_source_semantics.specs.PartGraph.{graph}
use Rattle.xk_source_semantics.specs.Compilation.{AreUnits, HasLater, IsCompiled, unit_number}
use Rattle.xk_source_semantics.specs.Meaning.{Means}
use Rattle.xk_law_compiler.proofs.MeansItsSourceLaw.{compiled_means}
use Rattle.xk_source_semantics.proofs.Examples.{reading, reading_code, reading_setting, reading_is}

abbrev order : List ℕ
order = 0 ∷ 1 ∷ []

abbrev calls : List (List ℕ)
calls = graph (parts reading)

reached : (n m : ℕ) → slice_get order n ≡ Some m → Reaches calls 0 m
reached zero m e = let same : 0 ≡ m = cc in subst (Reaches calls 0) same ([], refl)
reached (suc zero) m e = let same : 1 ≡ m = cc in subst (Reaches calls 0) same (1 ∷ [], ((0, refl), refl))
reached (suc (suc n)) m e = absurd cc

-- main starts the body, which is further on; the body starts and calls nothing
first_call : (k j : ℕ) → IsCall calls 0 k j → 1 ≡ j
first_call zero j e = cc
first_call (suc k) j e = absurd cc

later : (a i k j : ℕ) → slice_get order a ≡ Some i → IsCall calls i k j → (b : ℕ) × (a < b) × (slice_get order b ≡ Some j)
later zero i k j e c =
    let same : 0 ≡ i = cc in
    let called = first_call k j (subst (λ n. IsCall calls n k j) (sym same) c) in
    (1, omega arith, ap Some called)
later (suc zero) i k j e c = let same : 1 ≡ i = cc in absurd (none k j (subst (λ n. IsCall calls n k j) (sym same) c))
  where
    none : (k j : ℕ) → IsCall calls 1 k j → ⊥
    none k j e = cc
later (suc (suc a)) i k j e c = absurd cc

once : (a b i : ℕ) → slice_get order a ≡ Some i → slice_get order b ≡ Some i → a ≡ b
once zero zero i e f = refl
once zero (suc zero) i e f = absurd cc
once (suc zero) zero i e f = absurd cc
once (suc zero) (suc zero) i e f = refl
once zero (suc (suc b)) i e f = absurd cc
once (suc zero) (suc (suc b)) i e f = absurd cc
once (suc (suc a)) b i e f = absurd cc

least : (k i j : ℕ) → slice_get order k ≡ Some i → IsReady calls 0 order k j → i ≤ j
least zero i j e r = let same : 0 ≡ i = cc in omega (arith, same)
least (suc zero) i zero e r = absurd (r.placeless (0, omega arith, refl))
least (suc zero) i (suc j) e r = let same : 1 ≡ i = cc in omega (arith, same)
least (suc (suc k)) i j e r = absurd cc

apart : (j k : ℕ) (p : Part) → slice_get (parts reading) j ≡ Some p → slice_get (parts reading) k ≡ Some p → j ≡ k
apart zero zero p e f = refl
apart zero (suc zero) p e f = absurd cc
apart (suc zero) zero p e f = absurd cc
apart (suc zero) (suc zero) p e f = refl
apart zero (suc (suc k)) p e f = absurd cc
apart (suc zero) (suc (suc k)) p e f = absurd cc
apart (suc (suc j)) k p e f = absurd cc

body_later : HasLater reading (parts reading) 0 (Starts 0)
body_later = record {
  number = 1;
  later = omega arith;
  place = refl;
  part = _;
  stands = refl;
  run = record { place = 1; first = refl; part = refl };
}

closed : (k : ℕ) (p : Part) (r : Run) → slice_get (parts reading) k ≡ Some p → Has (part_runs p) r → HasLater reading (parts reading) k r
closed zero p r e h = started (subst (λ o. Has (runs_of o) r) (sym e) h)
  where
    runs_of : Option Part → List Run
    runs_of (Some q) = part_runs q
    runs_of None = []

    started : Has (runs_of (slice_get (parts reading) 0)) r → HasLater reading (parts reading) 0 r
    started (inl is) = subst (HasLater reading (parts reading) 0) (sym is) body_later
    started (inr none) = absurd none
closed (suc zero) p r e h = absurd (nothing (subst (λ o. Has (runs_of o) r) (sym e) h))
  where
    runs_of : Option Part → List Run
    runs_of (Some q) = part_runs q
    runs_of None = []

    nothing : Has (runs_of (slice_get (parts reading) 1)) r → ⊥
    nothing none = none
closed (suc (suc k)) p r e h = absurd cc

pub are_units : AreUnits reading (parts reading)
are_units = record {
  order = order;
  is_order = record { start = 0; begins = refl; first = refl; reached = reached; later = later; once = once; least = least };
  are = refl;
  main = _;
  named = refl;
  first = refl;
  within = λ k p e. has_at (parts reading) k p e;
  once = apart;
  closed = closed;
}

pub numbered : (b : Bool) → ◌≡◌ {A = Option ℕ} (option_map unit_number (cond b (Some 0) None)) (cond b (Some 0) None)
numbered true = refl
numbered false = refl

abbrev pub reading_compiled : IsCompiled reading reading_code
reading_compiled = record {
  units = parts reading;
  setting = reading_setting;
  are_units = are_units;
  is_setting = record { shared = λ x. refl; methods = λ x. sym (numbered (is_text x (codes "main"))); bodies = λ at. refl };
  shared = refl;
  code = sym reading_is;
}

-- ---- it has no fault of names

none_listed : name_faults reading ≡ []
unfolding own
none_listed = refl

pub reading_clean : (f : FrontFault) → HasFault reading f → ⊥
reading_clean f (inl h) = absurd (subst (λ fs. Has fs f) none_listed (fault_listed reading f h))
reading_clean f (inr h) = h.0 refl

-- ---- so the law holds of it

pub one_body : HasBodiesApart reading
one_body k less = let short : k + 1 < 1 = less in absurd (omega arith)

pub few : length reading_code.units ≤ 1024
few = let two : 2 ≤ 1024 = omega arith in two

reading_means : Means reading reading_code
reading_means = compiled_means reading reading_code (scoped_tree reading reading_clean) one_body few reading_compiled
