-- Where a comment ends: at the first `*/`.
use Rattle.std.proofs.Common.{◌≡◌, ℕ, suc, ◌≤◌, ◌==◌, Bool, true, false, cond, List, [], ◌∷◌, ◌++◌, length, append_assoc, Option, Some, None, option_map, refl, sym, ap, ◌∙◌, arith, eqb-true}
use Rattle.std.proofs.lemmas.Bool.{and_parts, cond_both}
use Rattle.xk_lexer.specs.Pieces.{slash, star, IsPiece, BlockComment}
use Rattle.xk_lexer.specs.Lexing.{begins_close, closing}

-- a text that is cut at a `*/`, with n bytes before
abbrev pub IsCutAt : List ℕ → ℕ → Type 0
IsCutAt text n = (front : List ℕ) × (back : List ℕ) × (text ≡ front ++ star ∷ slash ∷ back) × (length front ≡ n)

begins_close_text : (b : ℕ) (bs : List ℕ) → begins_close (b ∷ bs) ≡ true → (back : List ℕ) × (b ∷ bs ≡ star ∷ slash ∷ back)
begins_close_text b [] e = absurd cc
begins_close_text b (c ∷ bs) e = let p = and_parts (b == star) (c == slash) e in (bs, rw (eqb-true b star p.0, eqb-true c slash p.1) refl)

-- the place that is found
pub closing_cut : (text : List ℕ) (n : ℕ) → closing text ≡ Some n → IsCutAt text n
closing_cut [] n e = absurd cc
closing_cut (b ∷ bs) n e = by (λ m. closing_cut bs m) e
  where
    behind : ((m : ℕ) → closing bs ≡ Some m → IsCutAt bs m) → (o : Option ℕ) → closing bs ≡ o → option_map suc o ≡ Some n → IsCutAt (b ∷ bs) n
    behind ih None h e = absurd cc
    behind ih (Some m) h e =
        let c = ih m h in
        let q : suc m ≡ n = cc in
        (b ∷ c.0, c.1, ap (λ (t : List ℕ). b ∷ t) c.2, ap suc c.3 ∙ q)

    by : ((m : ℕ) → closing bs ≡ Some m → IsCutAt bs m) → cond (begins_close (b ∷ bs)) (Some 0) (option_map suc (closing bs)) ≡ Some n → IsCutAt (b ∷ bs) n
    by ih = cond_both (begins_close (b ∷ bs)) (Some 0) (option_map suc (closing bs)) (λ (o : Option ℕ). o ≡ Some n → IsCutAt (b ∷ bs) n)
        (λ h e. let c = begins_close_text b bs h in let q : 0 ≡ n = cc in ([], c.0, c.1, q))
        (λ h e. behind ih (closing bs) refl e)

-- it isn't behind any other
closing_least : (front back : List ℕ) → (m : ℕ) × (closing (front ++ star ∷ slash ∷ back) ≡ Some m) × (m ≤ length front)
closing_least [] back = (0, refl, omega arith)
closing_least (f ∷ fs) back = by (closing_least fs back)
  where
    by : (m : ℕ) × (closing (fs ++ star ∷ slash ∷ back) ≡ Some m) × (m ≤ length fs) → (m : ℕ) × (closing (f ∷ (fs ++ star ∷ slash ∷ back)) ≡ Some m) × (m ≤ suc (length fs))
    by ih = cond_both (begins_close (f ∷ (fs ++ star ∷ slash ∷ back))) _ _ (λ (o : Option ℕ). (m : ℕ) × (o ≡ Some m) × (m ≤ suc (length fs)))
        (λ h. (0, refl, omega arith))
        (λ h. let e = ih.1 in (suc ih.0, rw e refl, let le = ih.2 in omega arith))

-- it stays the first, whatever follows
closing_step : (b : ℕ) (bs after : List ℕ) (n : ℕ) → ((m : ℕ) → closing bs ≡ Some m → closing (bs ++ after) ≡ Some m)
    → closing (b ∷ bs) ≡ Some n → closing (b ∷ (bs ++ after)) ≡ Some n
closing_step b [] after n ih e = absurd cc
closing_step b (c ∷ bs) after n ih e = by (begins_close (b ∷ c ∷ bs)) e
  where
    inner : (o : Option ℕ) → closing (c ∷ bs) ≡ o → option_map suc o ≡ Some n → option_map suc (closing ((c ∷ bs) ++ after)) ≡ Some n
    inner None h e = absurd cc
    inner (Some m) h e = rw (ih m h) e

    by : (t : Bool) → cond t (Some 0) (option_map suc (closing (c ∷ bs))) ≡ Some n → cond t (Some 0) (option_map suc (closing ((c ∷ bs) ++ after))) ≡ Some n
    by true e = e
    by false e = inner (closing (c ∷ bs)) refl e

closing-append : (bs after : List ℕ) (n : ℕ) → closing bs ≡ Some n → closing (bs ++ after) ≡ Some n
closing-append [] after n e = absurd cc
closing-append (b ∷ bs) after n e = closing_step b bs after n (λ m. closing-append bs after m) e

-- a front of a text that is cut at a `*/`
with_behind : (text other behind after : List ℕ) → text ≡ other ++ star ∷ slash ∷ behind → text ++ after ≡ other ++ star ∷ slash ∷ (behind ++ after)
with_behind text other behind after e = ap (λ (t : List ℕ). t ++ after) e ∙ append_assoc other (star ∷ slash ∷ behind) after

-- a comment's end is found, whatever follows
pub closing_comment : (body after : List ℕ) → IsPiece (BlockComment body) after → closing (body ++ star ∷ slash ∷ after) ≡ Some (length body)
closing_comment body after first =
    let l = closing_least body [] in
    let c = closing_cut (body ++ star ∷ slash ∷ []) l.0 l.1 in
    let le = first c.0 c.1 c.2 in
    let n : l.0 ≡ length body = omega (arith, le, l.2, c.3) in
    ap closing (sym (append_assoc body (star ∷ slash ∷ []) after)) ∙ closing-append (body ++ star ∷ slash ∷ []) after l.0 l.1 ∙ ap (λ (k : ℕ). Some k) n

-- what is before the place that is found is a comment
pub comment_closing : (text : List ℕ) (n : ℕ) → closing text ≡ Some n
    → (body : List ℕ) × (after : List ℕ) × (text ≡ body ++ star ∷ slash ∷ after) × (length body ≡ n) × IsPiece (BlockComment body) after
comment_closing text n e =
    let c = closing_cut text n e in (
      c.0,
      c.1,
      c.2,
      c.3,
      λ other behind is.
          let whole : text ≡ other ++ star ∷ slash ∷ (behind ++ c.1) = c.2 ∙ sym (append_assoc c.0 (star ∷ slash ∷ []) c.1) ∙ with_behind (c.0 ++ star ∷ slash ∷ []) other behind c.1 is in
          let l = closing_least other (behind ++ c.1) in
          let same : Some n ≡ Some l.0 = sym e ∙ ap closing whole ∙ l.1 in
          let m : n ≡ l.0 = cc in
          omega (arith, m, l.2, c.3),
    )
