-- Parts that are put in the order of what they run have units in this order.
use Rattle.std.proofs.Common.{◌≡◌, ◌⊎◌, inl, inr, ℕ, suc, ◌<◌, List, [], ◌∷◌, map, length, Option, Some, None, slice_get, refl, sym, ap, ◌∙◌, subst, arith}
use Rattle.std.specs.Prelude.{unwrap_or, codes}
use Rattle.std.proofs.lemmas.Option.{slice_get_within, same_Some}
use Rattle.xk_names.proofs.TableAgreementLemmas.{same_text}
use Rattle.xk_callgraph.specs.CallGraph.{IsCall, Path, Reaches, AreWithin}
use Rattle.xk_tree.specs.Tree.{TreeValue, MethodValue}
use Rattle.xk_names.specs.Scope.{Has}
use Rattle.xk_names.specs.WellScoped.{IsScoped}
use Rattle.xk_callgraph.proofs.CallPlaceLemmas.{has_at, place_of as place_among}
use Rattle.xk_callgraph.proofs.CallGraphLemmas.{mapped_at, at_mapped, row_of, of_row}
use Rattle.xk_source_semantics.specs.Parts.{Part, OfMethod, OfBody, Run, opening, parts, part_runs, place_of}
use Rattle.xk_source_semantics.specs.PartGraph.{graph, graph_by, place_or_last, IsOrder}
use Rattle.xk_source_semantics.specs.Compilation.{AreUnits, HasLater}
use Rattle.xk_law_compiler.proofs.UnitLemmas.PartLookupLemmas.{Fits, FitsAt, found, fits_there, same_place}
use Rattle.xk_law_compiler.proofs.UnitLemmas.NestingLemmas.{has_place}

-- ---- calls in the graph

pub record IsRunAt (ps : List Part) (i k j : ℕ) : Type 0 where
  pub part : Part
  pub stands : slice_get ps i ≡ Some part
  pub run : Run
  pub among : slice_get (part_runs part) k ≡ Some run
  pub place : place_or_last ps run ≡ j

pub is_run_at : (ps : List Part) (i k j : ℕ) → IsCall (graph ps) i k j → IsRunAt ps i k j
is_run_at ps i k j h =
    let row = row_of (map (λ p. map (place_or_last ps) (part_runs p)) ps) i k j h in
    let p = mapped_at (λ p. map (place_or_last ps) (part_runs p)) ps i row.0 row.1 in
    let r = mapped_at (place_or_last ps) (part_runs p.0) k j (subst (λ (q : List ℕ). slice_get q k ≡ Some j) (sym p.2) row.2) in
    record { part = p.0; stands = p.1; run = r.0; among = r.1; place = r.2 }

is_call : (ps : List Part) (i k : ℕ) (p : Part) (r : Run) → slice_get ps i ≡ Some p → slice_get (part_runs p) k ≡ Some r
    → IsCall (graph ps) i k (place_or_last ps r)
is_call ps i k p r is among =
    of_row (map (λ p. map (place_or_last ps) (part_runs p)) ps) i k (place_or_last ps r) (map (place_or_last ps) (part_runs p))
    (at_mapped (λ p. map (place_or_last ps) (part_runs p)) ps i p is) (at_mapped (place_or_last ps) (part_runs p) k r among)

no_further : (ps : List Part) (r : Run) (o : Option ℕ) → place_of ps r ≡ o → unwrap_or o (length ps) < suc (length ps)
no_further ps r None e = omega arith
no_further ps r (Some k) e = let f = fits_there ps r k e in let h = slice_get_within ps k f.part f.stands in omega arith

pub graph_length : (place : Run → ℕ) (ps : List Part) → length (graph_by place ps) ≡ suc (length ps)
graph_length place [] = refl
graph_length place (p ∷ ps) = ap suc (graph_length place ps)

pub within : (ps : List Part) → AreWithin (graph ps)
within ps = λ i k j h.
    let r = is_run_at ps i k j h in
    let short : place_or_last ps r.run < suc (length ps) = no_further ps r.run (place_of ps r.run) refl in
    let same = r.place in
    let long = graph_length (place_or_last ps) ps in
    omega arith

-- ---- who is reached is the first part of its name

pub record IsFirst (ps : List Part) (i : ℕ) : Type 0 where
  pub run : Run
  pub place : place_of ps run ≡ Some i

last_call : (calls : List (List ℕ)) (ns : List ℕ) (a j : ℕ) → Path calls ns a j → (a ≡ j) ⊎ ((x : ℕ) × (k : ℕ) × IsCall calls x k j)
last_call calls [] a j p = inl p
last_call calls (n ∷ ns) a j p = elim (last_call calls ns n j p.1) [
  | inl e ↦ inr (a, p.0.0, subst (λ (m : ℕ). IsCall calls a p.0.0 m) e p.0.1)
  | inr h ↦ inr h
]

pub known_place : (o : Option ℕ) (d j : ℕ) → ((k : ℕ) × (o ≡ Some k)) → unwrap_or o d ≡ j → o ≡ Some j
known_place (Some k) d j h e = ap Some e
known_place None d j h e = absurd cc

pub is_first : (t : TreeValue) → IsScoped t → (start i : ℕ) → place_of (parts t) opening ≡ Some start → Reaches (graph (parts t)) start i
    → IsFirst (parts t) i
is_first t scoped start i begins path = elim (last_call (graph (parts t)) path.0 start i path.1) [
  | inl e ↦ record { run = opening; place = begins ∙ ap Some e }
  | inr h ↦
      let r = is_run_at (parts t) h.0 h.1 i h.2 in
      record {
        run = r.run;
        place = known_place (place_of (parts t) r.run) (length (parts t)) i
            (has_place t scoped r.part (has_at (parts t) h.0 r.part r.stands) r.run (has_at (part_runs r.part) h.1 r.run r.among)) r.place;
      }
]

pub is_there : (ps : List Part) (i : ℕ) → IsFirst ps i → i < length ps
is_there ps i h = let f = fits_there ps h.run i h.place in slice_get_within ps i f.part f.stands

-- ---- the parts in the order of the numbers

record Picked (ps : List Part) (order : List ℕ) (k : ℕ) (p : Part) : Type 0 where
  number : ℕ
  at : slice_get order k ≡ Some number
  is : slice_get ps number ≡ Some p

picked : (ps us : List Part) (order : List ℕ) → map Some us ≡ map (slice_get ps) order → (k : ℕ) (p : Part) → slice_get us k ≡ Some p
    → Picked ps order k p
picked ps us order same k p e =
    let there : slice_get (map (slice_get ps) order) k ≡ Some (Some p) = ap (λ (l : List (Option Part)). slice_get l k) (sym same) ∙ at_mapped Some us k p e in
    let i = mapped_at (slice_get ps) order k (Some p) there in
    record { number = i.0; at = i.1; is = i.2 }

unpicked : (ps us : List Part) (order : List ℕ) → map Some us ≡ map (slice_get ps) order → (k i : ℕ) → slice_get order k ≡ Some i
    → (p : Part) × (slice_get us k ≡ Some p) × (slice_get ps i ≡ Some p)
unpicked ps us order same k i e =
    let there : slice_get (map Some us) k ≡ Some (slice_get ps i) = ap (λ (l : List (Option Part)). slice_get l k) same ∙ at_mapped (slice_get ps) order k i e in
    let p = mapped_at Some us k (slice_get ps i) there in
    (p.0, p.1, sym p.2)

-- what is known of the order
record IsPicked (t : TreeValue) (order : List ℕ) (us : List Part) : Type 0 where
  scoped : IsScoped t
  is_order : IsOrder t order
  same : map Some us ≡ map (slice_get (parts t)) order

same_part : (o : Option Part) (p q : Part) → o ≡ Some p → o ≡ Some q → p ≡ q
same_part o p q e f = cc

-- the unit of what is run
same_unit : (t : TreeValue) (order : List ℕ) (us : List Part) → IsPicked t order us → (r : Run) (j b n : ℕ) → place_of (parts t) r ≡ Some j
    → slice_get order b ≡ Some j
    → FitsAt us r n → n ≡ b
same_unit t order us h r j b n place at fits =
    let q = picked (parts t) us order h.same n fits.part fits.stands in
    let f = is_first t h.scoped h.is_order.start q.number h.is_order.begins (h.is_order.reached n q.number q.at) in
    let g = fits_there (parts t) f.run q.number f.place in
    let same : g.part ≡ fits.part = same_part (slice_get (parts t) q.number) g.part fits.part g.stands q.is in
    let i : q.number ≡ j = same_Some q.number j
    (sym f.place ∙ same_place (parts t) fits.part f.run r (subst (λ (p : Part). Fits p f.run) same g.fits) fits.fits ∙ place) in
    h.is_order.once n b q.number q.at (at ∙ ap Some (sym i))

has_later : (t : TreeValue) (order : List ℕ) (us : List Part) → IsPicked t order us → (k : ℕ) (p : Part) (r : Run) → slice_get us k ≡ Some p
    → Has (part_runs p) r
    → HasLater t us k r
has_later t order us h k p r is runs =
    let ps = parts t in
    let i = picked ps us order h.same k p is in
    let c = place_among (part_runs p) r runs in
    let j = has_place t h.scoped p (has_at ps i.number p i.is) r runs in
    let call : IsCall (graph ps) i.number c.0 j.0 = subst (λ (n : ℕ). IsCall (graph ps) i.number c.0 n) (ap (λ (o : Option ℕ). unwrap_or o (length ps)) j.1)
    (is_call ps i.number c.0 p r i.is c.1) in
    let b = h.is_order.later k i.number c.0 j.0 i.at call in
    let q = unpicked ps us order h.same b.0 j.0 b.2 in
    let f = fits_there ps r j.0 j.1 in
    let same : f.part ≡ q.0 = same_part (slice_get ps j.0) f.part q.0 f.stands q.2 in
    let n = found us r q.0 (has_at us b.0 q.0 q.1) (subst (λ (p : Part). Fits p r) same f.fits) in
    let e = same_unit t order us h r j.0 b.0 n.0 j.1 b.2 (fits_there us r n.0 n.1) in
    record { number = b.0; later = b.1; place = n.1 ∙ ap Some e; part = q.0; stands = q.1; run = record { place = j.0; first = j.1; part = q.2 } }

-- none stands twice
stands_once : (t : TreeValue) (order : List ℕ) (us : List Part) → IsPicked t order us → (a b : ℕ) (p : Part) → slice_get us a ≡ Some p
    → slice_get us b ≡ Some p → a ≡ b
stands_once t order us h a b p e d =
    let ps = parts t in
    let q = picked ps us order h.same a p e in
    let r = picked ps us order h.same b p d in
    let f = is_first t h.scoped h.is_order.start q.number h.is_order.begins (h.is_order.reached a q.number q.at) in
    let g = is_first t h.scoped h.is_order.start r.number h.is_order.begins (h.is_order.reached b r.number r.at) in
    let u = fits_there ps f.run q.number f.place in
    let v = fits_there ps g.run r.number g.place in
    let fits = subst (λ (o : Part). Fits o f.run) (same_part (slice_get ps q.number) u.part p u.stands q.is) u.fits in
    let also = subst (λ (o : Part). Fits o g.run) (same_part (slice_get ps r.number) v.part p v.stands r.is) v.fits in
    let i : q.number ≡ r.number = same_Some q.number r.number (sym f.place ∙ same_place ps p f.run g.run fits also ∙ g.place) in
    h.is_order.once a b q.number q.at (r.at ∙ ap Some (sym i))

-- the first is `main`
record IsMain (us : List Part) : Type 0 where
  main : MethodValue
  named : main.name.text ≡ codes "main"
  first : slice_get us 0 ≡ Some (OfMethod main)

is_main : (us : List Part) (p : Part) → slice_get us 0 ≡ Some p → Fits p opening → IsMain us
is_main us (OfMethod m) e f = record { main = m; named = sym (same_text (codes "main") m.name.text f); first = e }
is_main us (OfBody a cs s) e f = absurd f

pub are_units : (t : TreeValue) (order : List ℕ) (us : List Part) → IsScoped t → IsOrder t order → map Some us ≡ map (slice_get (parts t)) order
    → AreUnits t us
are_units t order us scoped o same =
    let h : IsPicked t order us = record { scoped = scoped; is_order = o; same = same } in
    let f = fits_there (parts t) opening o.start o.begins in
    let p = unpicked (parts t) us order same 0 o.start o.first in
    let is : f.part ≡ p.0 = same_part (slice_get (parts t) o.start) f.part p.0 f.stands p.2 in
    let m = is_main us p.0 p.1 (subst (λ (p : Part). Fits p opening) is f.fits) in
    record {
      order = order;
      is_order = o;
      are = same;
      main = m.main;
      named = m.named;
      first = m.first;
      within = λ k p e. let q = picked (parts t) us order same k p e in has_at (parts t) q.number p q.is;
      once = stands_once t order us h;
      closed = has_later t order us h;
    }
