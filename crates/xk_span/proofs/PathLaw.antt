-- The path that is told is a chain that weighs as much as the span.
use Rattle.std.proofs.Common.{◌≡◌, ◌∙◌, ℕ, zero, suc, ◌+◌, ◌<◌, ◌≤◌, nat_eq, Bool, true, false, List, [], ◌∷◌}
use Rattle.std.proofs.Common.{◌⊎◌, inl, inr, refl, sym, ap, subst, arith, if◌then◌else◌, eqb-true}
use Rattle.std.proofs.lemmas.Bool.{eqb-false}
use Rattle.xk_races.specs.declared.deeds.Deed.{Deed}
use Rattle.xk_races.specs.Order.{IsAt, Edge}
use Rattle.xk_races.proofs.OrderLemmas.{reason_less}
use Rattle.xk_span.specs.declared.marks.Mark.{Mark}
use Rattle.xk_span.specs.Chains.{Weights, IsChain, weight_of, IsLong}
use Rattle.xk_span.specs.Times.{mark_at, links_of, time_at, last_of, span_of}
use Rattle.xk_span.specs.Paths.{back_from, path_back, path_of}
use Rattle.xk_span.specs.Exactness.{AreChained, PathIsExact}
use Rattle.xk_span.proofs.TimeLemmas.{Tells, IsReached}
use Rattle.xk_span.proofs.SpanLaw.{at_chain, links_tell, time_is_exact, last_reached, span_most}

edge_less : (ds : List Deed) (k j : ℕ) → Edge ds k j → k < j
edge_less ds k j h = reason_less ds k j h.0 h.2

-- these lead up to deed number j, and weigh as much as its link says
abbrev LeadsUp : Weights → List Deed → ℕ → List ℕ → Type 0
LeadsUp w ds j ks = IsChain ds j ks × (weight_of w ks ≡ (mark_at (links_of w ds) j).time)

module _ (w : Weights) (ds : List Deed) where
  -- who links to a deed comes right before it
  linked : (j : ℕ) (d : Deed) → IsAt ds j d → ((mark_at (links_of w ds) j).time ≡ 0 → ⊥)
      → Edge ds (mark_at (links_of w ds) j).from j × IsLong ds w (mark_at (links_of w ds) j).from (mark_at (links_of w ds) j).time
  linked j d at some = of (links_tell w ds j d at).reached
    where
      l : Mark
      l = mark_at (links_of w ds) j

      of : IsReached ds w l (λ m. Edge ds m j) → Edge ds l.from j × IsLong ds w l.from l.time
      of (inl none) = absurd (some none)
      of (inr h) = h

  -- its own time is what the link says
  exactly : (j : ℕ) (d : Deed) (at : IsAt ds j d) (some : (mark_at (links_of w ds) j).time ≡ 0 → ⊥)
      → time_at w ds (mark_at (links_of w ds) j).from ≡ (mark_at (links_of w ds) j).time
  exactly j d at some =
      let l = mark_at (links_of w ds) j in
      let h = linked j d at some in
      let f = at_chain ds l.from h.1.0 h.1.1 in
      let time = time_is_exact w ds l.from f.0 f.1 in
      let least = time.most l.time h.1 in
      let most = (links_tell w ds j d at).most l.from (time_at w ds l.from) h.0 time.long in
      omega (arith, least, most)

  leads_back : (n j : ℕ) (d : Deed) → j ≤ n → IsAt ds j d → LeadsUp w ds j (back_from (links_of w ds) n j)
  leads_back zero j d le at = ((d, at), by (links_tell w ds j d at).reached)
    where
      l : Mark
      l = mark_at (links_of w ds) j

      by : IsReached ds w l (λ m. Edge ds m j) → 0 ≡ l.time
      by (inl none) = sym none
      by (inr h) = absurd (omega (arith, le, edge_less ds l.from j h.0))
  leads_back (suc n) j d le at = by (leads_back n) (nat_eq (mark_at (links_of w ds) j).time 0) refl
    where
      l : Mark
      l = mark_at (links_of w ds) j

      by : ((i : ℕ) (x : Deed) → i ≤ n → IsAt ds i x → LeadsUp w ds i (back_from (links_of w ds) n i)) → (o : Bool)
          → nat_eq l.time 0 ≡ o
          → LeadsUp w ds j (if o then [] else l.from ∷ back_from (links_of w ds) n l.from)
      by back true e = ((d, at), sym (eqb-true l.time 0 e))
      by back false e =
          let some : l.time ≡ 0 → ⊥ = eqb-false l.time 0 e in
          let h = linked j d at some in
          let f = at_chain ds l.from h.1.0 h.1.1 in
          let less = edge_less ds l.from j h.0 in
          let rest = back l.from f.0 (omega (arith, le, less)) f.1 in
          let is = exactly j d at some in
          ((h.0, rest.0), omega (arith, rest.1, is))

  pub path_is_exact : PathIsExact w ds
  path_is_exact = by (nat_eq (last_of w ds).time 0) refl (last_reached w ds)
    where
      last : Mark
      last = last_of w ds

      path : Bool → List ℕ
      path o = if o then [] else last.from ∷ back_from (links_of w ds) last.from last.from

      -- the path by how that comparison comes out
      told : (o : Bool) → nat_eq last.time 0 ≡ o → AreChained ds (path o) → weight_of w (path o) ≡ last.time → PathIsExact w ds
      told o e chain long = record {
        chain = subst (λ b. AreChained ds (path b)) (sym e) chain;
        long = subst (λ b. weight_of w (path b) ≡ last.time) (sym e) long;
      }

      by : (o : Bool) → nat_eq last.time 0 ≡ o → (last.time ≡ 0) ⊎ IsLong ds w last.from last.time → PathIsExact w ds
      by true e h = told true e refl (sym (eqb-true last.time 0 e))
      by false e (inl none) = absurd (eqb-false last.time 0 e none)
      by false e (inr long) =
          let f = at_chain ds last.from long.0 long.1 in
          let time = time_is_exact w ds last.from f.0 f.1 in
          let least = time.most last.time long in
          let most = span_most w ds last.from (time_at w ds last.from) time.long in
          let rest = leads_back last.from last.from f.0 (omega arith) f.1 in
          told false e rest.0 (omega (arith, rest.1, least, most))
