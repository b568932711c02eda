-- In a tree without faults of names each body of `async` stands at a place that sees what its code needs.
use Rattle.std.proofs.Common.{◌≡◌, inl, inr, ℕ, Bool, true, false, cond, List, [], ◌∷◌, length, Option, Some, refl, sym, ap, ◌∙◌, subst, append-nil}
use Rattle.std.specs.Prelude.{is_some, option_map}
use Rattle.xk_tree.specs.Tree.{Clocks, Statement, Statements, Done, More, Block, If, IfElse, For, Async, Finish, TreeValue}
use Rattle.xk_names.specs.declared.binding.Known.{Known}
use Rattle.xk_names.specs.declared.binding.Want.TheVariants as want
use Rattle.xk_names.specs.Scope.{Scope as Seen, Table, Has, find, is_text}
use Rattle.xk_names.specs.Uses.{Signatures, signatures, use_as, declares, clocks_listed}
use Rattle.xk_names.specs.Places as places
use Rattle.xk_names.specs.WellScoped.{IsSound, IsSoundInside, AreSound, with_all, with_body, method_scope, IsScoped}
use Rattle.xk_names.specs.FaultList.{put_texts}
use Rattle.xk_names.specs.Captures.{loop_words, own_behind, shared_texts}
use Rattle.xk_names.proofs.MembershipLemmas.{from_flat, to_map, has_either}
use Rattle.xk_names.proofs.CaptureVisibilityLemmas.{outer_found}
use Rattle.xk_emit.specs.CodeOf.{Setting, Scope, within_loop, body_params, declared}
use Rattle.xk_emit.specs.Unit.{scope_from}
use Rattle.xk_emit.specs.NameCoverage.{IsUnitCovered}
use Rattle.xk_emit.specs.CodeReferences.{AsyncBody, bodies_in_all, calls_in_all}
use Rattle.xk_emit.proofs.CoverageLemmas.ScopeSlotLemmas.{Texts, Fits, fits_behind, fits_loop, fits_body, body_names}
use Rattle.xk_emit.proofs.CoverageLemmas.StatementNameLemmas.{HasPlaces}
use Rattle.xk_emit.proofs.CoverageLemmas.StatementLemmas.{Settled, all_covered}
use Rattle.xk_emit.proofs.CoverageLaw.{fits_method}
use Rattle.xk_source_semantics.specs.Parts.{Part, OfMethod, OfBody, bodies, bodies_all, method_parts, parts}

-- ---- where a body stands

-- its `async` stands at a place where it is without faults
pub record Stands (ms : Signatures) (shared : Texts) (at : ℕ) (cs : Option Clocks) (s : Statement) : Type 0 where
  pub sc : Seen
  pub scope : Scope
  pub own : Texts
  pub fits : Fits shared sc scope own
  pub itself : IsSound ms sc (Async at cs s)
  pub inside : IsSoundInside ms sc (Async at cs s)

abbrev PartStands : Signatures → Texts → Part → Type 0
PartStands ms shared (OfMethod m) = ⊥
PartStands ms shared (OfBody at cs s) = Stands ms shared at cs s

module _ (ms : Signatures) (shared : Texts) where
  mutual
    stands : (sc : Seen) (scope : Scope) (own : Texts) (s : Statement) → Fits shared sc scope own → IsSound ms sc s → IsSoundInside ms sc s
        → (p : Part) → Has (bodies s) p → PartStands ms shared p
    stands sc scope own (Block close ss) fits sound inner p h = stands_all sc scope own ss fits inner p h
    stands sc scope own (If at l op r s) fits sound inner p h = stands sc scope own s fits inner.0 inner.1 p h
    stands sc scope own (IfElse at l op r s u) fits sound inner p h = elim (has_either (bodies s) (bodies u) p h) [
      | inl x ↦ stands sc scope own s fits inner.0.0 inner.0.1 p x
      | inr y ↦ stands sc scope own u fits inner.1.0 inner.1.1 p y
    ]
    stands sc scope own (For at i lo b s) fits sound inner p h =
        stands (with_all sc (declares (length sc.bodies) (For at i lo b s))) (within_loop scope 0 i b) (put_texts own (loop_words i b)) s
        (fits_loop shared sc scope own 0 at i lo b s fits) inner.0 inner.1 p h
    stands sc scope own (Async at cs s) fits sound inner p (inl e) =
        subst (PartStands ms shared) (sym e) (record { sc = sc; scope = scope; own = own; fits = fits; itself = sound; inside = inner })
    stands sc scope own (Async at cs s) fits sound inner p (inr h) =
        stands (with_body sc (clocks_listed cs)) (scope_from 0 (body_names ms shared cs s)) shared s
        (fits_body ms shared sc scope own cs s fits
        (λ c g. let r = sound.used (use_as want.Clock c) (to_map (use_as want.Clock) (clocks_listed cs) c (use_as want.Clock c) g refl) in (r.known, r.found)) inner.0 inner.1)
        inner.0 inner.1 p h
    stands sc scope own (Finish at s) fits sound inner p h = stands sc scope own s fits inner.0 inner.1 p h
    stands sc scope own _ fits sound inner p h = absurd h

    pub stands_all : (sc : Seen) (scope : Scope) (own : Texts) (ss : Statements) → Fits shared sc scope own → AreSound ms sc ss
        → (p : Part) → Has (bodies_all ss) p → PartStands ms shared p
    stands_all sc scope own Done fits sound p h = absurd h
    stands_all sc scope own (More s ss) fits sound p h = elim (has_either (bodies s) (bodies_all ss) p h) [
      | inl x ↦ stands sc scope own s fits sound.0.0 sound.0.1 p x
      | inr y ↦ stands_all (with_all sc (places.behind (length sc.bodies) s)) (declared scope 0 s) (own_behind own s) ss (fits_behind shared sc scope own 0 s fits) sound.1 p y
    ]

-- ---- parts of a tree

-- a method of the tree; or a body that stands somewhere
abbrev pub PartOf : TreeValue → Part → Type 0
PartOf t (OfMethod m) = Has t.methods m
PartOf t (OfBody at cs s) = Stands (signatures t.methods) (shared_texts t.shared) at cs s

as_part : (t : TreeValue) (p : Part) → PartStands (signatures t.methods) (shared_texts t.shared) p → PartOf t p
as_part t (OfMethod m) h = absurd h
as_part t (OfBody at cs s) h = h

pub part_of : (t : TreeValue) → IsScoped t → (p : Part) → Has (parts t) p → PartOf t p
part_of t scoped p h =
    let r = from_flat method_parts t.methods p h in
    elim r.1.1 [
      | inl e ↦ subst (PartOf t) (sym e) r.1.0
      | inr g ↦ as_part t p (stands_all (signatures t.methods) (shared_texts t.shared) (method_scope t r.0) _ _ r.0.body (fits_method t r.0) (scoped.bodies r.0 r.1.0) p g)
    ]

-- ---- its code has all names that it needs

-- a slot for each name that is visible
abbrev slots_for : Table Known → Table ℕ
slots_for [] = []
slots_for (e ∷ es) = (e.0, 0) ∷ slots_for es

slot_there : (table : Table Known) (x : List ℕ) → find (slots_for table) x ≡ option_map (λ k. 0) (find table x)
slot_there [] x = refl
slot_there (e ∷ es) x = go (is_text x e.0) (slot_there es x)
  where
    go : (b : Bool) → find (slots_for es) x ≡ option_map (λ k. 0) (find es x)
        → cond b (Some 0) (find (slots_for es) x) ≡ option_map (λ k. 0) (cond b (Some e.1) (find es x))
    go true h = refl
    go false h = h

with_slots : (shared : Texts) (sc : Seen) (scope : Scope) (own : Texts) → Fits shared sc scope own → Fits shared sc (slots_for sc.names) shared
with_slots shared sc scope own fits = record {
  kinds = fits.kinds;
  fresh = λ x e. slot_there sc.names x ∙ ap (option_map (λ k. 0)) e;
  kept = λ x h. h;
  slots = λ x h. inl h;
  clocks = λ x k e is may. ap is_some (slot_there sc.names x ∙ ap (option_map (λ k. 0)) e);
  depths = fits.depths;
}

-- the `async` alone
abbrev pub alone : ℕ → Option Clocks → Statement → Statements
alone at cs s = More (Async at cs s) Done

pub body_covered : (cx : Setting) (ms : Signatures) (shared : Texts) (at : ℕ) (cs : Option Clocks) (s : Statement) → HasPlaces cx shared
    → Stands ms shared at cs s
    → Settled cx ms shared (calls_in_all (alone at cs s)) (bodies_in_all (alone at cs s)) → IsUnitCovered cx (body_params cx at cs) s
body_covered cx ms shared at cs s placed h settled =
    let held : AsyncBody = record { at = at; clocks = cs; body = s } in
    (all_covered cx ms shared placed h.sc (slots_for h.sc.names) shared 0 (alone at cs s) (with_slots shared h.sc h.scope h.own h.fits) ((h.itself, h.inside), tt)
    (λ w g.
    let o = outer_found ms h.sc shared (Async at cs s) h.itself h.inside w (subst (λ ws. Has ws w) (append-nil _) g) in
    ap is_some (slot_there h.sc.names w.text ∙ ap (option_map (λ k. 0)) o.there.found))
    settled).1 held (inl refl)
