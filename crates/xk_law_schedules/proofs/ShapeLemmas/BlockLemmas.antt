-- The block that a place stands directly in, along edges: only a `finish` and an `endfinish` lead into another one.
use Rattle.std.proofs.Common.{◌≡◌, ℕ, ◌+◌, ◌<◌, ◌≤◌, cond, Bool, true, false, ◌&&◌, List, [], ◌∷◌, ◌++◌, length, map, Some, inl, inr, ◌⊎◌, refl, sym, ap, ◌∙◌, subst, arith}
use Rattle.std.specs.Prelude.{slice_get, filter, nat_lt}
use Rattle.std.proofs.lemmas.Bool.{false≢true, cases_eq}
use Rattle.std.proofs.lemmas.Bool.Decides.{nat_tests}
use Rattle.std.proofs.lemmas.Option.{slice_get_within, none-some}
use Rattle.xk_types.proofs.ShapeLemmas.LoopLemmas.{head_first}
use Rattle.xk_types.specs.declared.instr.Instr.{Instr}
use Rattle.xk_types.specs.declared.instr.Instr.TheVariants as instr
use Rattle.xk_types.specs.Code.{UnitValue, Loop, loop_head}
use Rattle.xk_types.specs.Blocks.{Span, finishes, is_inside, block_at}
use Rattle.xk_types.specs.Order.{Has}
use Rattle.xk_types.specs.Shape.{span_of, overlaps, target}
use Rattle.xk_types.proofs.ShapeLemmas.SpanStartLemmas.{Rising}
use Rattle.xk_types.proofs.ListLemmas.{get_once}
use Rattle.xk_types.proofs.ShapeLemmas.FinishLemmas.{IsFinish, finish_of, inside_next}
use Rattle.xk_law_schedules.proofs.ShapeLemmas.LoopLemmas.{AreLoops}
use Rattle.xk_law_schedules.proofs.ShapeLemmas.FinishLemmas.{AreFinishes}
use Rattle.std.proofs.lemmas.List.{map_push}

-- ---- lists

-- two tests that agree on the elements leave the same
filter_same : {X : Type 0} (t s : X → Bool) (xs : List X) → ((x : X) → Has xs x → t x ≡ s x) → filter t xs ≡ filter s xs
filter_same t s [] h = refl
filter_same t s (x ∷ xs) h = rw (h x (inl refl), filter_same t s xs (λ y g. h y (inr g))) refl

-- where no element passes, none is left
filter_none : {X : Type 0} (t : X → Bool) (xs : List X) → ((x : X) → Has xs x → t x ≡ false) → filter t xs ≡ []
filter_none t [] h = refl
filter_none t (x ∷ xs) h = rw (h x (inl refl)) (filter_none t xs (λ y g. h y (inr g)))

-- One element passes the second test and not the first, no later one passes either, and on those before it both agree: then the second
-- leaves it behind what the first leaves.
filter_one : {X : Type 0} (t s : X → Bool) (xs : List X) (place : X → ℕ) (x : X) → Rising place xs → Has xs x → t x ≡ false → s x ≡ true
    → ((y : X) → Has xs y → place y < place x → t y ≡ s y) → ((y : X) → Has xs y → place x < place y → (t y ≡ false) × (s y ≡ false)) → filter s xs ≡ filter t xs ++ x ∷ []
filter_one t s [] place x rise has off on before later = absurd has
filter_one {X} t s (y ∷ ys) place x rise (inl e) off on before later = subst (λ z. filter s (y ∷ ys) ≡ filter t (y ∷ ys) ++ z ∷ []) e
    (rw (ap t e ∙ off, ap s e ∙ on, filter_none t ys (λ z h. (later z (inr h) (here z h)).0), filter_none s ys (λ z h. (later z (inr h) (here z h)).1)) refl)
  where
    here : (z : X) → Has ys z → place x < place z
    here z h = subst (λ q. place q < place z) e (rise.0 z h)
filter_one {X} t s (y ∷ ys) place x rise (inr h) off on before later = go (s y) (before y (inl refl) (rise.0 x h))
    (filter_one t s ys place x rise.1 h off on (λ z g. before z (inr g)) (λ z g. later z (inr g)))
  where
    go : (b : Bool) → t y ≡ b → filter s ys ≡ filter t ys ++ x ∷ [] → cond b (y ∷ filter s ys) (filter s ys) ≡ cond (t y) (y ∷ filter t ys) (filter t ys) ++ x ∷ []
    go true e r = rw e (ap (λ l. y ∷ l) r)
    go false e r = rw e r

-- ---- numbers

inside_same : (p : ℕ) (f : Span) → (f.last ≡ p → ⊥) → is_inside p f ≡ (nat_lt f.first p && nat_lt p f.last)
inside_same p f h = grind (arith, nat_tests)

-- of two spans that don't overlap and share no place, one has the beginning and the end of the other inside, or neither
inside_both : (s f : Span) → overlaps s f ≡ false → s.first < s.last → f.first < f.last → (f.first ≡ s.first → ⊥) → (f.last ≡ s.last → ⊥)
    → (f.first ≡ s.last → ⊥) → (f.last ≡ s.first → ⊥)
    → is_inside (s.first + 1) f ≡ is_inside s.last f
inside_both s f h ahead order a b c d = grind (arith, nat_tests)

not_inside : (p : ℕ) (f : Span) → p ≤ f.first → is_inside p f ≡ false
not_inside p f h = grind (arith, nat_tests)

not_beyond : (p : ℕ) (f : Span) → f.last < p → is_inside p f ≡ false
not_beyond p f h = grind (arith, nat_tests)

is_between : (p : ℕ) (f : Span) → f.first < p → p ≤ f.last → is_inside p f ≡ true
is_between p f h g = grind (arith, nat_tests)

-- of two finishes that don't overlap, one that begins inside the other and ends elsewhere ends before it
ends_before : (f g : Span) → overlaps f g ≡ false → f.first < g.first → (g.last ≡ f.last → ⊥) → is_inside f.last g ≡ false
ends_before f g h before e = grind (arith, nat_tests)

-- ---- instructions

-- it opens or closes a finish
abbrev pub is_border : Instr → Bool
is_border (instr.Finish e) = true
is_border (instr.EndFinish b) = true
is_border _ = false

-- the head of a loop does neither
head_plain : (n : ℕ) (i : Instr) (l : Loop) → loop_head n i ≡ Some l → is_border i ≡ false
head_plain n (instr.For k lo hi e) l h = refl
head_plain n (instr.ForTo k lo x hi e) l h = refl
head_plain n _ l h = absurd (none-some l h)

module _ (u : UnitValue) (a : AreFinishes u) where
  -- a place that is no border begins and ends no finish
  not_first : (p : ℕ) (i : Instr) → slice_get u.code p ≡ Some i → is_border i ≡ false → (f : Span) → Has (finishes u) f → f.first ≡ p → ⊥
  not_first p i here plain f h e = false≢true (sym plain ∙ ap is_border (get_once u.code p i (instr.Finish f.last) here (ap (slice_get u.code) (sym e) ∙ (a.is f h).begins)))

  not_last : (p : ℕ) (i : Instr) → slice_get u.code p ≡ Some i → is_border i ≡ false → (f : Span) → Has (finishes u) f → f.last ≡ p → ⊥
  not_last p i here plain f h e = false≢true (sym plain ∙ ap is_border (get_once u.code p i (instr.EndFinish f.first) here (ap (slice_get u.code) (sym e) ∙ (a.is f h).ends)))

  -- on to the next place
  pub block_next : (p : ℕ) (i : Instr) → slice_get u.code p ≡ Some i → is_border i ≡ false → block_at u (p + 1) ≡ block_at u p
  block_next p i here plain = ap (map (λ f. f.first)) (filter_same (is_inside (p + 1)) (is_inside p) (finishes u)
      (λ f h. inside_next p f (not_first p i here plain f h) (not_last p i here plain f h)))

  -- along a jump
  pub block_jump : AreLoops u → (p t : ℕ) (i : Instr) → slice_get u.code p ≡ Some i → is_border i ≡ false → target i ≡ Some t → block_at u t ≡ block_at u p
  block_jump ls p t i here plain aim = ap (map (λ f. f.first)) (filter_same (is_inside t) (is_inside p) (finishes u)
      (λ f h. sym ((ls.kept i p t here aim).finishes f h) ∙ sym (inside_same p f (not_last p i here plain f h))))

  -- round a loop
  pub block_round : AreLoops u → (b p : ℕ) → slice_get u.code p ≡ Some (instr.Next b) → block_at u (b + 1) ≡ block_at u p
  block_round ls b p here =
      let e = ls.ended b p here in
      let first = head_first b e.head e.l e.is in
      let plain = head_plain b e.head e.l e.is in
      ap (map (λ f. f.first)) (filter_same (is_inside (b + 1)) (is_inside p) (finishes u)
      (λ f h. inside_both (record { first = b; last = p }) f
      (subst (λ n. overlaps (record { first = n; last = p }) f ≡ false) first
      (subst (λ n. overlaps (record { first = e.l.first; last = n }) f ≡ false) e.last (a.loops e.l f (ls.begun b e.head e.l e.here e.is).0 h)))
      e.ahead (a.ahead f h)
      (not_first b e.head e.here plain f h) (not_last p (instr.Next b) here refl f h)
      (not_first p (instr.Next b) here refl f h) (not_last b e.head e.here plain f h)))

  -- into a finish
  pub block_opened : (p e : ℕ) → slice_get u.code p ≡ Some (instr.Finish e) → block_at u (p + 1) ≡ block_at u p ++ p ∷ []
  block_opened p e here =
      let f = finish_of p e in
      let has = (a.opened p e here).0 in
      ap (map (λ x. x.first)) (filter_one (is_inside p) (is_inside (p + 1)) (finishes u) (λ x. x.first) f a.rising has
      (not_inside p f (omega arith)) (is_between (p + 1) f (omega arith) (let h = a.ahead f has in omega arith))
      (λ g h before. sym (inside_next p g (λ q. absurd (omega arith)) (λ q. closes g h q)))
      (λ g h later. (not_inside p g (omega arith), not_inside (p + 1) g (omega arith))))
      ∙ map_push (λ x. x.first) (filter (is_inside p) (finishes u)) f
    where
      closes : (g : Span) → Has (finishes u) g → g.last ≡ p → ⊥
      closes g h q = (let r = get_once u.code p (instr.Finish e) (instr.EndFinish g.first) here (ap (slice_get u.code) (sym q) ∙ (a.is g h).ends) in grind arith)

  -- out of a finish
  pub block_closed : (b p : ℕ) → slice_get u.code p ≡ Some (instr.EndFinish b) → block_at u p ≡ block_at u (p + 1) ++ b ∷ []
  block_closed b p here =
      let f = finish_of b p in
      let has = a.closed b p here in
      ap (map (λ x. x.first)) (filter_one (is_inside (p + 1)) (is_inside p) (finishes u) (λ x. x.first) f a.rising has
      (not_beyond (p + 1) f (omega arith)) (is_between p f (let h = a.ahead f has in omega arith) (omega arith))
      (λ g h before. inside_next p g (opens g h) (λ q. absurd (let r = same g h q in omega arith)))
      (λ g h later. (off g h later, ends_before f g (a.apart f g has h) later (λ q. absurd (let r = same g h q in omega arith)))))
      ∙ map_push (λ x. x.first) (filter (is_inside (p + 1)) (finishes u)) f
    where
      opens : (g : Span) → Has (finishes u) g → g.first ≡ p → ⊥
      opens g h q = (let r = get_once u.code p (instr.EndFinish b) (instr.Finish g.last) here (ap (slice_get u.code) (sym q) ∙ (a.is g h).begins) in grind arith)

      same : (g : Span) → Has (finishes u) g → g.last ≡ p → b ≡ g.first
      same g h q = (let r = get_once u.code p (instr.EndFinish b) (instr.EndFinish g.first) here (ap (slice_get u.code) (sym q) ∙ (a.is g h).ends) in cc)

      off : (g : Span) → Has (finishes u) g → b < g.first → is_inside (p + 1) g ≡ false
      off g h later =
          (let apart = ends_before (finish_of b p) g (a.apart (finish_of b p) g (a.closed b p here) h) later (λ q. absurd (let r = same g h q in omega arith)) in
          inside_next p g (opens g h) (λ q. absurd (let r = same g h q in omega arith)) ∙ apart)

  -- a finish begins and ends in one block
  pub block_begun : (b p : ℕ) → slice_get u.code p ≡ Some (instr.EndFinish b) → block_at u (b + 1) ≡ block_at u p
  block_begun b p here =
      ap (map (λ f. f.first)) (filter_same (is_inside (b + 1)) (is_inside p) (finishes u) (λ g h. by g h (cases_eq g.first b)))
    where
      f : IsFinish u (finish_of b p)
      f = a.is (finish_of b p) (a.closed b p here)

      before : b < p
      before = a.ahead (finish_of b p) (a.closed b p here)

      by : (g : Span) → Has (finishes u) g → (g.first ≡ b) ⊎ (g.first ≡ b → ⊥) → is_inside (b + 1) g ≡ is_inside p g
      by g h (inl e) =
          let q = get_once u.code b (instr.Finish p) (instr.Finish g.last) f.begins (ap (slice_get u.code) (sym e) ∙ (a.is g h).begins) in
          let last : p ≡ g.last = cc in
          is_between (b + 1) g (omega arith) (let k = before in omega arith) ∙ sym (is_between p g (let k = before in omega arith) (omega arith))
      by g h (inr differs) = inside_both (finish_of b p) g (a.apart (finish_of b p) g (a.closed b p here) h) before (a.ahead g h) differs
          (λ e. (let q = get_once u.code p (instr.EndFinish b) (instr.EndFinish g.first) here (ap (slice_get u.code) (sym e) ∙ (a.is g h).ends) in differs cc))
          (λ e. (let q = get_once u.code p (instr.EndFinish b) (instr.Finish g.last) here (ap (slice_get u.code) (sym e) ∙ (a.is g h).begins) in grind arith))
          (λ e. (let q = get_once u.code b (instr.Finish p) (instr.EndFinish g.first) f.begins (ap (slice_get u.code) (sym e) ∙ (a.is g h).ends) in grind arith))

  -- at the end of the code the block is the unit
  pub block_end : (p : ℕ) → length u.code ≤ p + 1 → (i : Instr) → slice_get u.code p ≡ Some i → is_border i ≡ false → block_at u p ≡ []
  block_end p end i here plain = ap (map (λ f. f.first)) (filter_none (is_inside p) (finishes u)
      (λ f h. not_beyond p f (let inside = slice_get_within u.code f.last (instr.EndFinish f.first) (a.is f h).ends in
      let other = not_last p i here plain f h in below f.last p inside other end)))
    where
      below : (l q : ℕ) → l < length u.code → (l ≡ q → ⊥) → length u.code ≤ q + 1 → l < q
      below l q h g e = omega arith

  -- at its beginning too
  pub block_start : block_at u 0 ≡ []
  block_start = ap (map (λ f. f.first)) (filter_none (is_inside 0) (finishes u) (λ f h. not_inside 0 f (omega arith)))
