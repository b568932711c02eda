-- Two places stand directly in one block where the innermost finishes around them are one.
use Rattle.std.proofs.Common.{◌≡◌, ℕ, ◌<◌, ◌≤◌, ◌⊎◌, eqb, Bool, true, false, List, [], ◌∷◌, ◌++◌, map, filter, cond, Option, Some, None, inl, inr, refl, sym, ap, ◌∙◌, subst, arith}
use Rattle.std.specs.Bool.{Decides}
use Rattle.std.specs.List.{last_or}
use Rattle.std.specs.Option.{option_eq}
use Rattle.std.proofs.lemmas.Option.{same_Some, none-some}
use Rattle.std.proofs.lemmas.Bool.{eqb-true, eq-eqb, both_ways, false≢true, cases_order}
use Rattle.xk_types.specs.Order.{Has}
use Rattle.xk_types.specs.Code.{UnitValue}
use Rattle.xk_types.specs.Blocks.{Span, finishes, is_inside, block_at, same_block}
use Rattle.xk_shape.specs.Nesting.{AreNested}
use Rattle.xk_shape.specs.Places.{innermost}
use Rattle.xk_shape.proofs.SpanEndLemmas.{is_span, same_end}
use Rattle.xk_shape.proofs.NestingLemmas.{ends_inside, decides_inside, nested_apart}
use Rattle.xk_shape.proofs.EnclosingFinishLemmas.{around, Ascends, finishes_ascend, around_same}
use Rattle.xk_types.proofs.ShapeLemmas.SpanLemmas.{same_is, is_same, finish_span}
use Rattle.xk_types.proofs.MembershipLemmas.{same_test}

-- ---- the last of a list

last_push : (xs : List ℕ) (o : Option ℕ) (n : ℕ) → last_or o (xs ++ n ∷ []) ≡ Some n
last_push [] o n = refl
last_push (x ∷ xs) o n = last_push xs (Some x) n

pub innermost_push : (xs : List ℕ) (n : ℕ) → innermost (xs ++ n ∷ []) ≡ Some n
innermost_push xs n = last_push xs None n

last_some : (xs : List ℕ) (n : ℕ) → last_or (Some n) xs ≡ None → ⊥
last_some [] n h = none-some n (sym h)
last_some (x ∷ xs) n h = last_some xs x h

-- ---- the last of the chosen ones

-- no one is chosen, and what there was before them is the last
abbrev NoneChosen : (Span → Bool) → List Span → Type 0
NoneChosen p fs = (f : Span) → Has fs f → p f ≡ false

-- a chosen one with this first place, and no other begins behind it
record LastChosen (p : Span → Bool) (fs : List Span) (m : ℕ) : Type 0 where
  pub f : Span
  pub has : Has fs f
  pub on : p f ≡ true
  pub first : f.first ≡ m
  pub last : (g : Span) → Has fs g → p g ≡ true → g.first ≤ m

none_chosen : (p : Span → Bool) (fs : List Span) → last_or None (around p fs) ≡ None → NoneChosen p fs
none_chosen p [] h g has = absurd has
none_chosen p (f ∷ fs) h g has = go (p f) refl (none_chosen p fs) h has
  where
    go : (b : Bool) → p f ≡ b → (last_or None (around p fs) ≡ None → NoneChosen p fs) → last_or None (map (λ x. x.first) (cond b (f ∷ filter p fs) (filter p fs))) ≡ None
        → Has (f ∷ fs) g → p g ≡ false
    go true e rest l x = absurd (last_some (around p fs) f.first l)
    go false e rest l (inl same) = ap p (sym same) ∙ e
    go false e rest l (inr x) = rest l g x

last_chosen : (p : Span → Bool) (fs : List Span) (o : Option ℕ) (m : ℕ) → Ascends fs → last_or o (around p fs) ≡ Some m → ((o ≡ Some m) × NoneChosen p fs) ⊎ LastChosen p fs m
last_chosen p [] o m asc h = inl (h, λ g has. absurd has)
last_chosen p (f ∷ fs) o m asc h = go (p f) refl (λ x. last_chosen p fs x m asc.1) h
  where
    kept : LastChosen p fs m → (p f ≡ true → f.first ≤ m) → LastChosen p (f ∷ fs) m
    kept r own = record {
      f = r.f;
      has = inr r.has;
      on = r.on;
      first = r.first;
      last = λ g has on. elim has [ inl same ↦ subst (λ (x : Span). x.first ≤ m) same (own (ap p same ∙ on)) | inr later ↦ r.last g later on ];
    }

    go : (b : Bool) → p f ≡ b → ((x : Option ℕ) → last_or x (around p fs) ≡ Some m → ((x ≡ Some m) × NoneChosen p fs) ⊎ LastChosen p fs m)
        → last_or o (map (λ x. x.first) (cond b (f ∷ filter p fs) (filter p fs))) ≡ Some m → ((o ≡ Some m) × NoneChosen p (f ∷ fs)) ⊎ LastChosen p (f ∷ fs) m
    go true e rest l = elim (rest (Some f.first) l) [
      | inl none ↦
          let first = same_Some f.first m none.0 in
          inr (record {
            f = f;
            has = inl refl;
            on = e;
            first = first;
            last = λ g has on. elim has [ inl same ↦ omega (arith, ap (λ x. x.first) same) | inr later ↦ absurd (both_ways (p g) (none.1 g later) on) ];
          })
      | inr r ↦ inr (kept r (λ on. let lt = asc.0 r.f r.has in omega (arith, r.first)))
    ]
    go false e rest l = elim (rest o l) [
      | inl none ↦ inl (none.0, λ g has. elim has [ inl same ↦ ap p (sym same) ∙ e | inr later ↦ none.1 g later ])
      | inr r ↦ inr (kept r (λ on. absurd (both_ways (p f) e on)))
    ]

-- ---- two places

module _ (u : UnitValue) (nested : AreNested u) where
  -- Where the innermost finish around one place is around another, so are all around the one.
  around_both : (a b : ℕ) (f : Span) → Has (finishes u) f → f.first < a → is_inside b f ≡ true → ((g : Span) → Has (finishes u) g → is_inside a g ≡ true → g.first ≤ f.first)
      → (g : Span) → Has (finishes u) g → is_inside a g ≡ true → is_inside b g ≡ true
  around_both a b f has in_a in_b last g has_g in_g =
      let span_f = finish_span u f has in
      let span_g = finish_span u g has_g in
      let of_b = (decides_inside b f).0 in_b in
      let of_g = (decides_inside a g).0 in_g in
      let le = last g has_g in_g in
      (decides_inside b g).1 (elim (cases_order g.first f.first) [
        | inl same ↦ let e = same_end u f g (is_span u f span_f) (is_span u g span_g) same in (omega arith, omega arith)
        | inr other ↦ elim other [
          | inl lt ↦ let e = ends_inside g f (nested_apart u nested g f span_g span_f) lt (omega arith) in (omega arith, omega arith)
          | inr gt ↦ absurd (omega arith)
        ]
      ])

  -- of two places with one innermost finish
  all_around : (a b m : ℕ) → LastChosen (is_inside a) (finishes u) m → LastChosen (is_inside b) (finishes u) m → (g : Span) → Has (finishes u) g → is_inside a g ≡ true
      → is_inside b g ≡ true
  all_around a b m at_a at_b g has on =
      let f = at_b.f in
      let of_a = (decides_inside a at_a.f).0 at_a.on in
      around_both a b f at_b.has (omega (arith, at_a.first, at_b.first)) at_b.on
      (λ h has_h on_h. let le = at_a.last h has_h on_h in omega (arith, at_b.first)) g has on

  same_innermost : (a b : ℕ) → innermost (block_at u a) ≡ innermost (block_at u b) → block_at u a ≡ block_at u b
  same_innermost a b e = go (innermost (block_at u a)) refl (sym e)
    where
      go : (o : Option ℕ) → innermost (block_at u a) ≡ o → innermost (block_at u b) ≡ innermost (block_at u a) → block_at u a ≡ block_at u b
      go None at_a same =
          let none_a = none_chosen (is_inside a) (finishes u) at_a in
          let none_b = none_chosen (is_inside b) (finishes u) (same ∙ at_a) in
          around_same (is_inside a) (is_inside b) (finishes u) (λ f has. none_a f has ∙ sym (none_b f has))
      go (Some m) at_a same = elim (last_chosen (is_inside a) (finishes u) None m (finishes_ascend u) at_a) [
        | inl none ↦ absurd (none-some m none.0)
        | inr of_a ↦ elim (last_chosen (is_inside b) (finishes u) None m (finishes_ascend u) (same ∙ at_a)) [
          | inl none ↦ absurd (none-some m none.0)
          | inr of_b ↦ around_same (is_inside a) (is_inside b) (finishes u)
              (λ f has. same_test (is_inside a f) (is_inside b f) (all_around a b m of_a of_b f has) (all_around b a m of_b of_a f has))
        ]
      ]

-- ---- the test on blocks

pub decides_block : (xs ys : List ℕ) → Decides (same_block xs ys) (xs ≡ ys)
decides_block xs ys = (same_is xs ys, λ e. subst (λ zs. same_block xs zs ≡ true) e (is_same xs))

-- two places stand directly in one block where the innermost finishes around them are one
pub decides_place : (u : UnitValue) → AreNested u → (a b : ℕ) → Decides (same_block (block_at u a) (block_at u b)) (innermost (block_at u a) ≡ innermost (block_at u b))
decides_place u nested a b =
    (λ on. ap innermost (same_is (block_at u a) (block_at u b) on), λ e. (decides_block (block_at u a) (block_at u b)).1 (same_innermost u nested a b e))

pub decides_option : (a b : Option ℕ) → Decides (option_eq eqb a b) (a ≡ b)
decides_option None None = (λ on. refl, λ e. refl)
decides_option None (Some y) = (λ on. absurd (false≢true on), λ e. absurd (none-some y e))
decides_option (Some x) None = (λ on. absurd (false≢true on), λ e. absurd (none-some x (sym e)))
decides_option (Some x) (Some y) = (λ on. ap Some (eqb-true x y on), λ e. eq-eqb x y (same_Some x y e))
