-- Loops and finishes that nest: what it says of each half, and of two of them; and that they nest where each is well ended.
use Rattle.std.proofs.Common.{◌≡◌, ℕ, suc, ◌<◌, ◌≤◌, ◌==◌, nat_lt, nat_le, true, false, ◌&&◌, if◌then◌else◌, length, Option, Some, None, slice_get, inl, inr, refl, sym, ap, ◌∙◌, subst, arith}
use Rattle.std.specs.Bool.{Decides}
use Rattle.std.specs.List.{list_any}
use Rattle.std.specs.Option.{option_and_then, option_map_or}
use Rattle.std.proofs.lemmas.Option.{same_Some, cond_some, none-some, slice_get_within}
use Rattle.std.proofs.lemmas.Bool.{and_parts, and_from, or_parts, or_from, leb-true, le-leb, ltb-true, lt-ltb, eqb-true, eq-eqb, both_ways, false_from_ne_true, false≢true, true≢false, cases_order}
use Rattle.std.proofs.lemmas.Bool.Decides.{same_from_decides, Decides-and, Decides-like, Decides-ltb}
use Rattle.xk_types.specs.declared.instr.Instr.{Instr}
use Rattle.xk_types.specs.declared.instr.Instr.TheVariants as instr
use Rattle.xk_types.specs.Order.{Has}
use Rattle.xk_types.specs.Code.{UnitValue}
use Rattle.xk_types.specs.Blocks.{Span, is_inside}
use Rattle.xk_types.specs.Shape.{span_begun, span_ended, spans, overlaps, lies_ahead, aims_well, is_amiss, is_crossing}
use Rattle.xk_shape.specs.Nesting.{is_jump, end_named, begin_named, span, begins_behind, ends_behind, AreNested, AreNestedBelow}
use Rattle.xk_types.proofs.MembershipLemmas.{none_has}
use Rattle.xk_types.proofs.ShapeLemmas.SpanLemmas.{not_amiss}
use Rattle.xk_shape.proofs.SpanEndLemmas.{is_span, span_is, has_span, any_found}

-- ---- places and stretches

pub decides_inside : (at : ℕ) (f : Span) → Decides (is_inside at f) ((f.first < at) × (at ≤ f.last))
decides_inside at f = Decides-and (nat_lt f.first at) (nat_le at f.last) (Decides-ltb f.first at) (leb-true at f.last, le-leb at f.last)

pub no_rise : (a b c d : ℕ) → (nat_lt a b && nat_lt b c && nat_lt c d) ≡ false → a < b → b < c → c < d → ⊥
no_rise a b c d h p q r = both_ways (nat_lt a b && nat_lt b c && nat_lt c d) h (rw (lt-ltb a b p, lt-ltb b c q, lt-ltb c d r) refl)

rise : (a b c d : ℕ) → (nat_lt a b && nat_lt b c && nat_lt c d) ≡ true → (a < b) × (b < c) × (c < d)
rise a b c d h =
    let p = and_parts (nat_lt a b && nat_lt b c) (nat_lt c d) h in
    let q = and_parts (nat_lt a b) (nat_lt b c) p.0 in
    (ltb-true a b q.0, ltb-true b c q.1, ltb-true c d p.1)

-- two places round which it lies, or doesn't
pub inside_same : (a b : ℕ) (f : Span) → ((f.first < a) × (a ≤ f.last) → (f.first < b) × (b ≤ f.last)) → ((f.first < b) × (b ≤ f.last) → (f.first < a) × (a ≤ f.last))
    → is_inside a f ≡ is_inside b f
inside_same a b f to from = same_from_decides (is_inside a f) (is_inside b f) (Decides-like (is_inside a f) to from (decides_inside a f)) (decides_inside b f)

-- one that neither begins nor ends at a place lies round it and the next, or round none of the two
pub inside_next : (at : ℕ) (f : Span) → (f.first ≡ at → ⊥) → (f.last ≡ at → ⊥) → is_inside (suc at) f ≡ is_inside at f
inside_next at f begins ends = inside_same (suc at) at f (λ h. (omega arith, omega arith)) (λ h. (omega arith, omega arith))

-- of two that don't overlap, one that begins inside the other ends inside it
pub ends_inside : (f g : Span) → overlaps f g ≡ false → f.first < g.first → g.first < f.last → g.last ≤ f.last
ends_inside f g apart p q = elim (cases_order g.last f.last) [
  | inl same ↦ omega arith
  | inr other ↦ elim other [
    | inl lt ↦ omega arith
    | inr gt ↦
        absurd (no_rise f.first g.first f.last g.last
        (or_parts (nat_lt f.first g.first && nat_lt g.first f.last && nat_lt f.last g.last)
        (nat_lt g.first f.first && nat_lt f.first g.last && nat_lt g.last f.last) apart).0 p q gt)
  ]
]

-- ---- at an instruction

begin_test : (u : UnitValue) (at e : ℕ) (i : Instr) → end_named i ≡ Some e
    → (is_jump i ≡ false) × (is_crossing u at i ≡ is_amiss u (span_begun u at i)) × (aims_well u at i ≡ lies_ahead u at e)
begin_test u at e (instr.For k lo hi x) h = (refl, refl, ap (lies_ahead u at) (same_Some x e h))
begin_test u at e (instr.ForTo k lo y hi x) h = (refl, refl, ap (lies_ahead u at) (same_Some x e h))
begin_test u at e (instr.Finish x) h = (refl, refl, ap (lies_ahead u at) (same_Some x e h))
begin_test u at e _ h = absurd (none-some e h)

end_test : (u : UnitValue) (at b : ℕ) (i : Instr) → begin_named i ≡ Some b
    → (is_jump i ≡ false) × (is_crossing u at i ≡ is_amiss u (span_ended u at b (slice_get u.code b))) × (aims_well u at i ≡ nat_lt b at)
end_test u at b (instr.Next x) h = let e = same_Some x b h in (refl, ap (λ n. is_amiss u (span_ended u at n (slice_get u.code n))) e, ap (λ n. nat_lt n at) e)
end_test u at b (instr.EndFinish x) h = let e = same_Some x b h in (refl, ap (λ n. is_amiss u (span_ended u at n (slice_get u.code n))) e, ap (λ n. nat_lt n at) e)
end_test u at b _ h = absurd (none-some b h)

-- what begins at place b and ends at this one
ended_is : (u : UnitValue) (at b : ℕ) (o : Option Instr) (s : Span) → slice_get u.code b ≡ o → span_ended u at b o ≡ Some s → Has (spans u) (span b at)
ended_is u at b None s found h = absurd (none-some s h)
ended_is u at b (Some i) s found h = go (span_begun u b i) refl h
  where
    go : (o : Option Span) → span_begun u b i ≡ o → option_and_then (λ l. if l.last == at then Some l else None) o ≡ Some s → Has (spans u) (span b at)
    go None e g = absurd (none-some s g)
    go (Some l) e g =
        let last = eqb-true l.last at (cond_some (l.last == at) l s g).0 in
        let first = (span_is u b i l found e).1 in
        let same : l ≡ span b at = λ j. record { first = first j; last = last j } in
        subst (Has (spans u)) same (has_span u b i l found e)

ended_span : (u : UnitValue) (at b : ℕ) → Has (spans u) (span b at) → span_ended u at b (slice_get u.code b) ≡ Some (span b at)
ended_span u at b has =
    let is = is_span u (span b at) has in
    ap (span_ended u at b) is.begins
    ∙ ap (option_and_then (λ (l : Span). if l.last == at then Some l else None)) is.begun
    ∙ ap (λ t. if t then Some (span b at) else None) (eq-eqb at at refl)

-- ---- what the tests of the code say

-- a loop or a finish begins that ends behind its beginning
pub begun_ahead : (u : UnitValue) (at e : ℕ) (i : Instr) → slice_get u.code at ≡ Some i → end_named i ≡ Some e
    → begins_behind u at i ≡ true → (at < e) × (span_begun u at i ≡ Some (span at e))
begun_ahead u at e i here names h = go (span_begun u at i) refl h
  where
    go : (o : Option Span) → span_begun u at i ≡ o → option_map_or (λ s. nat_lt at s.last) o false ≡ true → (at < e) × (o ≡ Some (span at e))
    go None x g = absurd (false≢true g)
    go (Some s) x g =
        let is = span_is u at i s here x in
        let begin = same_Some _ _ (sym is.0.begins ∙ ap (slice_get u.code) is.1 ∙ here) in
        let last = same_Some s.last e (sym is.0.ahead ∙ ap end_named begin ∙ names) in
        let lt = ltb-true at s.last g in
        (omega (arith, last), ap Some (λ j. record { first = is.1 j; last = last j }))

-- one ends that began before its end
pub ended_behind : (u : UnitValue) (at b : ℕ) → ends_behind u at b ≡ true → (b < at) × Has (spans u) (span b at)
ended_behind u at b h = go (span_ended u at b (slice_get u.code b)) refl h
  where
    go : (o : Option Span) → span_ended u at b (slice_get u.code b) ≡ o → option_map_or (λ s. nat_lt b at) o false ≡ true → (b < at) × Has (spans u) (span b at)
    go None x g = absurd (false≢true g)
    go (Some s) x g = (ltb-true b at g, ended_is u at b (slice_get u.code b) s refl x)

-- ---- where they nest

module _ (u : UnitValue) (nested : AreNested u) where
  -- each first half has its end behind it
  pub nested_begun : (at e : ℕ) (i : Instr) → slice_get u.code at ≡ Some i → end_named i ≡ Some e
      → begins_behind u at i ≡ true
  nested_begun at e i here names =
      let test = begin_test u at e i names in
      let aim = and_parts (nat_lt at e) (nat_lt e (length u.code)) (sym test.2 ∙ nested.aimed at i here test.0) in
      let s = not_amiss u (span_begun u at i) (sym test.1 ∙ nested.paired at i here test.0) in
      let is = span_is u at i s.0 here s.1 in
      let begin = same_Some _ _ (sym is.0.begins ∙ ap (slice_get u.code) is.1 ∙ here) in
      let last = same_Some s.0.last e (sym is.0.ahead ∙ ap end_named begin ∙ names) in
      ap (λ o. option_map_or (λ (x : Span). nat_lt at x.last) o false) s.1 ∙ ap (nat_lt at) last ∙ aim.0

  -- each last half its beginning before it
  pub nested_ended : (at b : ℕ) (i : Instr) → slice_get u.code at ≡ Some i → begin_named i ≡ Some b
      → ends_behind u at b ≡ true
  nested_ended at b i here names =
      let test = end_test u at b i names in
      let s = not_amiss u (span_ended u at b (slice_get u.code b)) (sym test.1 ∙ nested.paired at i here test.0) in
      ap (λ o. option_map_or (λ (x : Span). nat_lt b at) o false) s.1 ∙ sym test.2 ∙ nested.aimed at i here test.0

  -- two of them don't overlap
  pub nested_apart : (f g : Span) → Has (spans u) f → Has (spans u) g → overlaps f g ≡ false
  nested_apart f g has_f has_g =
      let is = is_span u f has_f in
      let test = begin_test u f.first f.last is.begin is.ahead in
      let alone : is_amiss u (Some f) ≡ false = ap (is_amiss u) (sym is.begun) ∙ sym test.1 ∙ nested.paired f.first is.begin is.begins test.0 in
      none_has (overlaps f) (spans u) g alone has_g

-- ---- all of the code

module _ (u : UnitValue) (below : AreNestedBelow u (length u.code)) where
  -- where each ends the innermost that it lies in, none begins inside another and ends behind it
  no_overlap : (f g : Span) → Has (spans u) f → Has (spans u) g → f.first < g.first → g.first < f.last → f.last < g.last → ⊥
  no_overlap f g has_f has_g p q r =
      let is = is_span u f has_f in
      let ended = below.ended f.last f.first is.end (slice_get_within u.code f.last is.end is.ends) is.ends is.behind in
      let le = ended.2 g has_g ((decides_inside f.last g).1 (q, omega arith)) in
      omega arith

  apart : (f g : Span) → Has (spans u) f → Has (spans u) g → overlaps f g ≡ false
  apart f g has_f has_g =
      or_from (nat_lt f.first g.first && nat_lt g.first f.last && nat_lt f.last g.last) (nat_lt g.first f.first && nat_lt f.first g.last && nat_lt g.last f.last)
      (false_from_ne_true _ (λ on. let r = rise f.first g.first f.last g.last on in no_overlap f g has_f has_g r.0 r.1 r.2))
      (false_from_ne_true _ (λ on. let r = rise g.first f.first g.last f.last on in no_overlap g f has_g has_f r.0 r.1 r.2))

  alone : (f : Span) → Has (spans u) f → is_amiss u (Some f) ≡ false
  alone f has = false_from_ne_true (list_any (overlaps f) (spans u)) (λ on.
      let r = any_found (overlaps f) (spans u) on in both_ways (overlaps f r.0) (apart f r.0 has r.1) r.2)

  -- what begins at a place
  begins_well : (at e : ℕ) (i : Instr) → slice_get u.code at ≡ Some i → end_named i ≡ Some e → (lies_ahead u at e ≡ true) × (is_amiss u (span_begun u at i) ≡ false)
  begins_well at e i here names =
      let b = below.begun at e i (slice_get_within u.code at i here) here names in
      let has = has_span u at i (span at e) here b.1 in
      let is = is_span u (span at e) has in (
        and_from (nat_lt at e) (nat_lt e (length u.code)) (lt-ltb at e b.0) (lt-ltb e (length u.code) (slice_get_within u.code e is.end is.ends)),
        ap (is_amiss u) b.1 ∙ alone
            (span at e) has,
      )

  -- and what ends there
  ends_well : (at b : ℕ) (i : Instr) → slice_get u.code at ≡ Some i → begin_named i ≡ Some b → (nat_lt b at ≡ true) × (is_amiss u (span_ended u at b (slice_get u.code b)) ≡ false)
  ends_well at b i here names =
      let e = below.ended at b i (slice_get_within u.code at i here) here names in
      (lt-ltb b at e.0, ap (is_amiss u) (ended_span u at b e.1) ∙ alone (span b at) e.1)

  aimed : (at : ℕ) (i : Instr) → slice_get u.code at ≡ Some i → is_jump i ≡ false → aims_well u at i ≡ true
  aimed at (instr.For k lo hi e) here h = (begins_well at e (instr.For k lo hi e) here refl).0
  aimed at (instr.ForTo k lo x hi e) here h = (begins_well at e (instr.ForTo k lo x hi e) here refl).0
  aimed at (instr.Finish e) here h = (begins_well at e (instr.Finish e) here refl).0
  aimed at (instr.Next b) here h = (ends_well at b (instr.Next b) here refl).0
  aimed at (instr.EndFinish b) here h = (ends_well at b (instr.EndFinish b) here refl).0
  aimed at (instr.Unless op x y t) here h = absurd (true≢false h)
  aimed at (instr.Jump t) here h = absurd (true≢false h)
  aimed at _ here h = refl

  paired : (at : ℕ) (i : Instr) → slice_get u.code at ≡ Some i → is_jump i ≡ false → is_crossing u at i ≡ false
  paired at (instr.For k lo hi e) here h = (begins_well at e (instr.For k lo hi e) here refl).1
  paired at (instr.ForTo k lo x hi e) here h = (begins_well at e (instr.ForTo k lo x hi e) here refl).1
  paired at (instr.Finish e) here h = (begins_well at e (instr.Finish e) here refl).1
  paired at (instr.Next b) here h = (ends_well at b (instr.Next b) here refl).1
  paired at (instr.EndFinish b) here h = (ends_well at b (instr.EndFinish b) here refl).1
  paired at (instr.Unless op x y t) here h = absurd (true≢false h)
  paired at (instr.Jump t) here h = absurd (true≢false h)
  paired at _ here h = refl

  pub nested_all : AreNested u
  nested_all = record { aimed = aimed; paired = paired }
