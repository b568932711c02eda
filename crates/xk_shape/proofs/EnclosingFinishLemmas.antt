-- The finishes around a place, from one place to the next.
use Rattle.std.proofs.Common.{◌≡◌, ℕ, suc, ◌<◌, ◌≤◌, Bool, true, false, List, [], ◌∷◌, ◌++◌, length, map, filter, cond, Option, Some, None, slice_get, inl, inr, refl, sym, ap, ◌∙◌, arith}
use Rattle.std.specs.Option.{option_map_or}
use Rattle.std.proofs.lemmas.Option.{slice_get_within}
use Rattle.std.proofs.lemmas.Bool.{false_from_ne_true}
use Rattle.xk_types.specs.declared.instr.Instr.{Instr}
use Rattle.xk_types.specs.declared.instr.Instr.TheVariants as instr
use Rattle.xk_types.specs.Order.{Has}
use Rattle.xk_types.specs.Code.{UnitValue, begun_from}
use Rattle.xk_types.specs.Blocks.{Span, finish_opened, finishes, is_inside, block_at, depth_at}
use Rattle.xk_types.proofs.ShapeLemmas.SpanStartLemmas.{Rising, begun_rise}
use Rattle.xk_types.proofs.ShapeLemmas.FinishLemmas.{begins_at}
use Rattle.xk_types.proofs.ShapeLemmas.SpanLemmas.{finish_span}
use Rattle.xk_shape.specs.Nesting.{span}
use Rattle.xk_shape.proofs.SpanEndLemmas.{is_span, no_end}
use Rattle.xk_shape.proofs.NestingLemmas.{decides_inside, inside_next}

-- ---- the chosen ones of a list

abbrev pub around : (Span → Bool) → List Span → List ℕ
around p fs = map (λ f. f.first) (filter p fs)

-- one more in front, or not
abbrev in_front : Bool → Span → List Span → List ℕ
in_front b f fs = map (λ g. g.first) (cond b (f ∷ fs) fs)

front_same : (b : Bool) (f : Span) (xs ys : List Span) → map (λ g. g.first) xs ≡ map (λ g. g.first) ys → in_front b f xs ≡ in_front b f ys
front_same true f xs ys e = ap (λ ns. f.first ∷ ns) e
front_same false f xs ys e = e

front_push : (b : Bool) (f : Span) (xs ys : List Span) (n : ℕ) → map (λ g. g.first) xs ≡ map (λ g. g.first) ys ++ n ∷ [] → in_front b f xs ≡ in_front b f ys ++ n ∷ []
front_push true f xs ys n e = ap (λ ns. f.first ∷ ns) e
front_push false f xs ys n e = e

-- two tests that agree on all choose the same
pub around_same : (p q : Span → Bool) (fs : List Span) → ((f : Span) → Has fs f → p f ≡ q f) → around p fs ≡ around q fs
around_same p q [] same = refl
around_same p q (f ∷ fs) same =
    ap (λ b. in_front b f (filter p fs)) (same f (inl refl))
    ∙ front_same (q f) f (filter p fs) (filter q fs) (around_same p q fs (λ g has. same g (inr has)))

-- a test that chooses none
around_none : (p : Span → Bool) (fs : List Span) → ((f : Span) → Has fs f → p f ≡ false) → around p fs ≡ []
around_none p [] none = refl
around_none p (f ∷ fs) none = ap (λ b. in_front b f (filter p fs)) (none f (inl refl)) ∙ around_none p fs (λ g has. none g (inr has))

-- no more of them than there are
chosen_few : (p : Span → Bool) (fs : List Span) → length (around p fs) ≤ length fs
chosen_few p [] = omega arith
chosen_few p (f ∷ fs) = go (p f) (chosen_few p fs)
  where
    go : (b : Bool) → length (around p fs) ≤ length fs → length (in_front b f (filter p fs)) ≤ suc (length fs)
    go true le = omega arith
    go false le = omega arith

begun_few : {X : Type 0} (begun : ℕ → Instr → Option X) (at : ℕ) (is : List Instr) → length (begun_from begun at is) ≤ length is
begun_few begun at [] = omega arith
begun_few {X} begun at (i ∷ is) = go (begun at i) (begun_few begun (suc at) is)
  where
    go : (o : Option X) → length (begun_from begun (suc at) is) ≤ length is
        → length (option_map_or (λ x. x ∷ begun_from begun (suc at) is) o (begun_from begun (suc at) is)) ≤ suc (length is)
    go None le = omega arith
    go (Some x) le = omega arith

pub depth_few : (u : UnitValue) (at : ℕ) → depth_at u at ≤ length u.code
depth_few u at = omega (arith, chosen_few (is_inside at) (finishes u), begun_few (finish_opened u) 0 u.code)

-- ---- finishes come by the places of their `finish`

abbrev pub Ascends : List Span → Type 0
Ascends fs = Rising (λ f. f.first) fs

pub finishes_ascend : (u : UnitValue) → Ascends (finishes u)
finishes_ascend u = begun_rise (finish_opened u) (λ f. f.first) (begins_at u) 0 u.code

-- a test that chooses one more than another does, of those up to it
around_more : (p q : Span → Bool) (fs : List Span) (f : Span) → Ascends fs → Has fs f → p f ≡ true → q f ≡ false
    → ((g : Span) → Has fs g → g.first < f.first → p g ≡ q g) → ((g : Span) → Has fs g → f.first < g.first → (p g ≡ false) × (q g ≡ false))
    → around p fs ≡ around q fs ++ f.first ∷ []
around_more p q [] f asc has on off same none = absurd has
around_more p q (k ∷ fs) f asc (inl e) on off same none =
    let behind : (g : Span) → Has fs g → (p g ≡ false) × (q g ≡ false) = λ g has. none g (inr has) (let lt = asc.0 g has in omega (arith, ap (λ x. x.first) e)) in
    ap (λ b. in_front b k (filter p fs)) (ap p e ∙ on)
    ∙ ap (λ ns. k.first ∷ ns) (around_none p fs (λ g has. (behind g has).0))
    ∙ ap (λ n. n ∷ []) (ap (λ x. x.first) e)
    ∙ ap (λ ns. ns ++ f.first ∷ []) (sym (ap (λ b. in_front b k (filter q fs)) (ap q e ∙ off) ∙ around_none q fs (λ g has. (behind g has).1)))
around_more p q (k ∷ fs) f asc (inr has) on off same none =
    ap (λ b. in_front b k (filter p fs)) (same k (inl refl) (asc.0 f has))
    ∙ front_push (q k) k (filter p fs) (filter q fs) f.first
    (around_more p q fs f asc.1 has on off (λ g h. same g (inr h)) (λ g h. none g (inr h)))

-- ---- the finishes around a place

module _ (u : UnitValue) where
  outside : (at : ℕ) (f : Span) → ((f.first < at) × (at ≤ f.last) → ⊥) → is_inside at f ≡ false
  outside at f h = false_from_ne_true (is_inside at f) (λ round. h ((decides_inside at f).0 round))

  -- none lies around the first place
  pub block_first : block_at u 0 ≡ []
  block_first = around_none (is_inside 0) (finishes u) (λ f has. outside 0 f (λ h. omega arith))

  -- nor around a place behind the last
  pub block_past : (at : ℕ) → length u.code ≤ at → block_at u at ≡ []
  block_past at past = around_none (is_inside at) (finishes u)
      (λ f has. let is = is_span u f (finish_span u f has) in let within = slice_get_within u.code f.last is.end is.ends in outside at f (λ h. omega arith))

  -- behind a `finish` it is one more
  pub block_begins : (at e : ℕ) → slice_get u.code at ≡ Some (instr.Finish e) → Has (finishes u) (span at e) → at < e → block_at u (suc at) ≡ block_at u at ++ at ∷ []
  block_begins at e here has ahead =
      let i = instr.Finish e in
      around_more (is_inside (suc at)) (is_inside at) (finishes u) (span at e) (finishes_ascend u) has
      ((decides_inside (suc at) (span at e)).1 (omega arith, ahead))
      (outside at (span at e) (λ h. omega arith))
      (λ g has_g lt. inside_next at g (λ e. omega arith) (no_end u at i g here refl (is_span u g (finish_span u g has_g))))
      (λ g has_g gt. (outside (suc at) g (λ h. omega arith), outside at g (λ h. omega arith)))
