-- Where lines begin, and what the last beginning up to an offset tells.
use Rattle.std.proofs.Common.{◌≡◌, ℕ, zero, suc, ◌+◌, ◌-◌, ◌<◌, ◌≤◌, true, false, not, cond, List, [], ◌∷◌, length, take, get_or, leb, leb-true, leb-false, refl, ap, sym, ◌∙◌, subst, arith, inl, inr}
use Rattle.std.specs.Prelude.{count_by}
use Rattle.std.specs.List.{suffix_len}
use Rattle.std.specs.List.Sorted.{IsNonDecreasingBy, IsPartitionPoint, IsPartitionedBy}
use Rattle.std.proofs.lemmas.Bool.{cond_both, cases_lt}
use Rattle.std.proofs.lemmas.List.{get_or-take, length-take-le}
use Rattle.std.proofs.lemmas.List.Sorted.{IsPartitionedBy-leb}
use Rattle.std.proofs.lemmas.List.Sums.{sum_by-cons, suffix_len_is}
use Rattle.xk_lines.specs.Lines.{is_line_feed, isnt_line_feed, later_starts, line_start, line_starts}

-- ---- beginnings rise

above_next : (at d : ℕ) (rest : List ℕ) → ((k : ℕ) → k < length rest → at + 1 < get_or rest k d)
    → (k : ℕ) → k < length ((at + 1) ∷ rest) → at < get_or ((at + 1) ∷ rest) k d
above_next at d rest more zero h = omega arith
above_next at d rest more (suc k) h = let m = more k (omega (arith, h)) in omega (arith, m)

above : (at : ℕ) (bs : List ℕ) (k d : ℕ) → k < length (later_starts at bs) → at < get_or (later_starts at bs) k d
above at [] k d = λ h. absurd (omega (arith, h))
above at (b ∷ bs) k d =
    let rest = later_starts (at + 1) bs in
    cond_both (is_line_feed b) ((at + 1) ∷ rest) rest (λ l. k < length l → at < get_or l k d)
    (λ yes. above_next at d rest (λ j h. above (at + 1) bs j d h) k)
    (λ no h. let m = above (at + 1) bs k d h in omega (arith, m))

rising_next : (at d : ℕ) (rest : List ℕ) → ((k : ℕ) → k < length rest → at < get_or rest k d)
    → ((i j : ℕ) → i ≤ j → j < length rest → get_or rest i d ≤ get_or rest j d)
    → (i j : ℕ) → i ≤ j → j < length (at ∷ rest) → get_or (at ∷ rest) i d ≤ get_or (at ∷ rest) j d
rising_next at d rest more rise zero zero h l = omega arith
rising_next at d rest more rise zero (suc j) h l = let m = more j (omega (arith, l)) in omega (arith, m)
rising_next at d rest more rise (suc i) zero h l = absurd (omega (arith, h))
rising_next at d rest more rise (suc i) (suc j) h l = rise i j (omega (arith, h)) (omega (arith, l))

rising : (at : ℕ) (bs : List ℕ) (d i j : ℕ) → i ≤ j → j < length (later_starts at bs)
    → get_or (later_starts at bs) i d ≤ get_or (later_starts at bs) j d
rising at [] d i j h = λ l. absurd (omega (arith, l))
rising at (b ∷ bs) d i j h =
    let rest = later_starts (at + 1) bs in
    cond_both (is_line_feed b) ((at + 1) ∷ rest) rest (λ l. j < length l → get_or l i d ≤ get_or l j d)
    (λ yes. rising_next (at + 1) d rest (λ k. above (at + 1) bs k d) (rising (at + 1) bs d) i j h)
    (λ no. rising (at + 1) bs d i j h)

starts_rise : (text : List ℕ) → IsNonDecreasingBy (λ x. x) (line_starts text)
starts_rise text = λ i j d h l. rising_next 0 d (later_starts 0 text) (λ k. above 0 text k d) (rising 0 text d) i j h l

-- ---- the last beginning up to a place

-- those before the i-th are at most here, and the others behind it
abbrev AtMost : ℕ → List ℕ → ℕ → Type 0
AtMost i starts here = (k : ℕ) → k < i → get_or starts k 0 ≤ here

abbrev Behind : ℕ → List ℕ → ℕ → Type 0
Behind i starts here = (k : ℕ) → i ≤ k → k < length starts → here < get_or starts k 0

-- of bytes from an offset on: so many line feeds are among the first n, and the line of what is behind them begins there
pub record Placed (at n : ℕ) (bs : List ℕ) (i start : ℕ) : Type 0 where
  pub count : i ≡ count_by is_line_feed (take n bs)
  pub least : at ≤ start
  pub most : start ≤ at + n
  pub none : (k : ℕ) → start ≤ at + k → k < n → isnt_line_feed (get_or bs k 0) ≡ true
  pub begins : at < start → isnt_line_feed (get_or bs (start - at - 1) 0) ≡ false

-- one byte more at the front
none_more : (at m b start : ℕ) (bs : List ℕ) → (start ≤ at → isnt_line_feed b ≡ true)
    → ((k : ℕ) → start ≤ at + 1 + k → k < m → isnt_line_feed (get_or bs k 0) ≡ true)
    → (k : ℕ) → start ≤ at + k → k < suc m → isnt_line_feed (get_or (b ∷ bs) k 0) ≡ true
none_more at m b start bs here there zero h l = here (omega (arith, h))
none_more at m b start bs here there (suc k) h l = there k (omega (arith, h)) (omega (arith, l))

begins_more : (at b start : ℕ) (bs : List ℕ) → at + 1 < start → isnt_line_feed (get_or bs (start - (at + 1) - 1) 0) ≡ false
    → isnt_line_feed (get_or (b ∷ bs) (start - at - 1) 0) ≡ false
begins_more at b start bs h e =
    let place : suc (start - (at + 1) - 1) ≡ start - at - 1 = omega (arith, h) in
    subst (λ k. isnt_line_feed (get_or (b ∷ bs) k 0) ≡ false) place e

begins_here : (at b start : ℕ) (bs : List ℕ) → start ≡ at + 1 → is_line_feed b ≡ true → isnt_line_feed (get_or (b ∷ bs) (start - at - 1) 0) ≡ false
begins_here at b start bs h e =
    let place : 0 ≡ start - at - 1 = omega (arith, h) in
    subst (λ k. isnt_line_feed (get_or (b ∷ bs) k 0) ≡ false) place (ap not e)

count_yes : (b m i : ℕ) (bs : List ℕ) → is_line_feed b ≡ true → i ≡ count_by is_line_feed (take m bs) → suc i ≡ count_by is_line_feed (b ∷ take m bs)
count_yes b m i bs e h =
    let all = sum_by-cons (λ x. cond (is_line_feed x) 1 0) b (take m bs) in
    let one : cond (is_line_feed b) 1 0 ≡ 1 = ap (λ c. let k : ℕ = cond c 1 0 in k) e in omega (arith, all, one, h)

count_no : (b m i : ℕ) (bs : List ℕ) → is_line_feed b ≡ false → i ≡ count_by is_line_feed (take m bs) → i ≡ count_by is_line_feed (b ∷ take m bs)
count_no b m i bs e h =
    let all = sum_by-cons (λ x. cond (is_line_feed x) 1 0) b (take m bs) in
    let one : cond (is_line_feed b) 1 0 ≡ 0 = ap (λ c. let k : ℕ = cond c 1 0 in k) e in omega (arith, all, one, h)

-- behind a line feed
at_feed : (at m b : ℕ) (bs rest : List ℕ) → is_line_feed b ≡ true
    → ((j : ℕ) → j ≤ length rest → AtMost j rest (at + 1 + m) → Behind j rest (at + 1 + m) → Placed (at + 1) m bs j (get_or ((at + 1) ∷ rest) j 0))
    → (i : ℕ) → i ≤ length ((at + 1) ∷ rest) → AtMost i ((at + 1) ∷ rest) (at + suc m) → Behind i ((at + 1) ∷ rest) (at + suc m)
    → Placed at (suc m) (b ∷ bs) i (get_or (at ∷ (at + 1) ∷ rest) i 0)
at_feed at m b bs rest e ih zero room most behind = absurd (let h = behind 0 (omega arith) (omega arith) in omega (arith, h))
at_feed at m b bs rest e ih (suc j) room most behind =
    let p = ih j (omega (arith, room)) (λ k h. let l = most (suc k) (omega (arith, h)) in omega (arith, l))
    (λ k h l. let g = behind (suc k) (omega (arith, h)) (omega (arith, l)) in omega (arith, g)) in
    let start = get_or ((at + 1) ∷ rest) j 0 in
    record {
      count = count_yes b m j bs e p.count;
      least = let l = p.least in omega (arith, l);
      most = let l = p.most in omega (arith, l);
      none = none_more at m b start bs (λ h. absurd (let l = p.least in omega (arith, l, h))) p.none;
      begins = λ h. elim (cases_lt (at + 1) start) [
        | inl l ↦ begins_more at b start bs l (p.begins l)
        | inr l ↦ begins_here at b start bs (let g = p.least in omega (arith, g, l)) e
      ];
    }

-- behind another byte
at_other : (at m b : ℕ) (bs rest : List ℕ) → is_line_feed b ≡ false → ((k : ℕ) → k < length rest → at + 1 < get_or rest k 0)
    → (i : ℕ) → i ≤ length rest → Placed (at + 1) m bs i (get_or ((at + 1) ∷ rest) i 0) → Placed at (suc m) (b ∷ bs) i (get_or (at ∷ rest) i 0)
at_other at m b bs rest e more zero room p = record {
  count = count_no b m 0 bs e p.count;
  least = omega arith;
  most = omega arith;
  none = none_more at m b at bs (λ h. ap not e) (λ k h l. p.none k (omega arith) l);
  begins = λ h. absurd (omega (arith, h));
}
at_other at m b bs rest e more (suc j) room p =
    let start = get_or rest j 0 in
    let l : at + 1 < start = more j (omega (arith, room)) in
    record {
      count = count_no b m (suc j) bs e p.count;
      least = omega (arith, l);
      most = let g = p.most in omega (arith, g);
      none = none_more at m b start bs (λ h. absurd (omega (arith, l, h))) p.none;
      begins = λ h. begins_more at b start bs l (p.begins l);
    }

placed : (at n : ℕ) (bs : List ℕ) (i : ℕ) → n ≤ length bs → i ≤ length (later_starts at bs) → AtMost i (later_starts at bs) (at + n)
    → Behind i (later_starts at bs) (at + n) → Placed at n bs i (get_or (at ∷ later_starts at bs) i 0)
placed at zero bs zero within = λ room most behind. record {
  count = refl;
  least = omega arith;
  most = omega arith;
  none = λ k h l. absurd (omega (arith, l));
  begins = λ h. absurd (omega (arith, h));
}
placed at zero bs (suc j) within =
    λ room most behind. absurd (let h = above at bs 0 0 (omega (arith, room)) in let l = most 0 (omega arith) in omega (arith, h, l))
placed at (suc m) [] i within = λ room most behind. absurd (omega (arith, within))
placed at (suc m) (b ∷ bs) i within =
    let rest = later_starts (at + 1) bs in
    let here : at + suc m ≡ at + 1 + m = omega arith in
    cond_both (is_line_feed b) ((at + 1) ∷ rest) rest
    (λ l. i ≤ length l → AtMost i l (at + suc m) → Behind i l (at + suc m) → Placed at (suc m) (b ∷ bs) i (get_or (at ∷ l) i 0))
    (λ yes. at_feed at m b bs rest yes (λ j. placed (at + 1) m bs j (omega (arith, within))) i)
    (λ no room most behind. at_other at m b bs rest no (λ k. above (at + 1) bs k 0) i room
    (placed (at + 1) m bs i (omega (arith, within)) room (λ k h. let l = most k h in omega (arith, l)) (λ k h l. let g = behind k h l in omega (arith, g))))

-- ---- the line of an offset

-- so many beginnings are at most the offset, the last of which is there
pub record IsLineOf (text : List ℕ) (at p start : ℕ) : Type 0 where
  pub some : 1 ≤ p
  pub number : p ≡ 1 + count_by is_line_feed (take at text)
  pub begins : start ≡ line_start text at
  pub before : start ≤ at

start_of : (text : List ℕ) (at i start : ℕ) → at ≤ length text → Placed 0 at text i start → start ≡ line_start text at
start_of text at i start within p =
    let len = length-take-le at text within in
    let most = p.most in
    let back : suffix_len isnt_line_feed (take at text) ≡ length (take at text) - start =
    suffix_len_is isnt_line_feed (take at text) start 0 (omega (arith, len, most))
    (λ k h l. let l' : k < at = omega (arith, len, l) in
    subst (λ x. isnt_line_feed x ≡ true) (sym (get_or-take at text k 0 l')) (p.none k (omega (arith, h)) l'))
    (λ h. let l' : start - 1 < at = omega (arith, most, h) in
    let place : start - 0 - 1 ≡ start - 1 = omega arith in
    subst (λ x. isnt_line_feed x ≡ false) (ap (λ k. get_or text k 0) place ∙ sym (get_or-take at text (start - 1) 0 l')) (p.begins h)) in
    omega (arith, len, back, most)

line_among : (text : List ℕ) (at p : ℕ) → at ≤ length text → p ≤ length (line_starts text)
    → IsPartitionPoint (λ y. leb y at ≡ true) (λ y. leb y at ≡ false) (line_starts text) p → IsLineOf text at p (get_or (line_starts text) (p - 1) 0)
line_among text at zero within room point = absurd (let h = leb-false 0 at (point.1 0 0 (omega arith) (omega arith)) in omega (arith, h))
line_among text at (suc i) within room point =
    let q = placed 0 at text i within (omega (arith, room))
    (λ k h. let l = leb-true _ _ (point.0 (suc k) 0 (omega arith) (omega (arith, h))) in omega (arith, l))
    (λ k h l. let g = leb-false _ _ (point.1 (suc k) 0 (omega (arith, h)) (omega (arith, l))) in omega (arith, g)) in
    let place : i ≡ suc i - 1 = omega arith in
    let count = q.count in
    subst (λ k. IsLineOf text at (suc i) (get_or (line_starts text) k 0)) place (record {
      some = omega arith;
      number = omega (arith, count);
      begins = start_of text at i _ within q;
      before = let l = q.most in omega (arith, l);
    })

pub line_of : (text starts : List ℕ) (at p : ℕ) → starts ≡ line_starts text → at ≤ length text → p ≤ length starts
    → IsPartitionPoint (λ y. leb y at ≡ true) (λ y. leb y at ≡ false) starts p → IsLineOf text at p (get_or starts (p - 1) 0)
line_of text starts at p = λ is within room point.
    let P : List ℕ → Type 0 = λ s. p ≤ length s → IsPartitionPoint (λ y. leb y at ≡ true) (λ y. leb y at ≡ false) s p → IsLineOf text at p (get_or s (p - 1) 0) in
    subst P (sym is) (line_among text at p within) room point

pub partitioned_at : (text starts : List ℕ) (at : ℕ) → starts ≡ line_starts text → IsPartitionedBy (λ y. leb y at) starts
partitioned_at text starts at is =
    subst (IsPartitionedBy (λ y. leb y at)) (sym is) (IsPartitionedBy-leb (λ y. y) (line_starts text) at (starts_rise text))

same_read : (xs : List ℕ) (i d e : ℕ) → i < length xs → get_or xs i d ≡ get_or xs i e
same_read [] i d e h = absurd (omega (arith, h))
same_read (x ∷ xs) zero d e h = refl
same_read (x ∷ xs) (suc i) d e h = same_read xs i d e (omega (arith, h))

pub read_at : (xs : List ℕ) (i x : ℕ) → x ≡ get_or xs i x → i < length xs → x ≡ get_or xs i 0
read_at xs i x e h = e ∙ same_read xs i x 0 h

-- ---- lines begin in the text

later_within : (at : ℕ) (bs : List ℕ) (k d : ℕ) → k < length (later_starts at bs) → get_or (later_starts at bs) k d ≤ at + length bs
later_within at [] k d = λ h. absurd (omega (arith, h))
later_within at (b ∷ bs) k d =
    let rest = later_starts (at + 1) bs in
    cond_both (is_line_feed b) ((at + 1) ∷ rest) rest (λ l. k < length l → get_or l k d ≤ at + length (b ∷ bs))
    (λ yes. within_next at d (length bs) rest (λ j h. later_within (at + 1) bs j d h) k)
    (λ no h. let m = later_within (at + 1) bs k d h in omega (arith, m))
  where
    within_next : (at d n : ℕ) (rest : List ℕ) → ((j : ℕ) → j < length rest → get_or rest j d ≤ at + 1 + n)
        → (k : ℕ) → k < length ((at + 1) ∷ rest) → get_or ((at + 1) ∷ rest) k d ≤ at + suc n
    within_next at d n rest more zero h = omega arith
    within_next at d n rest more (suc k) h = let m = more k (omega (arith, h)) in omega (arith, m)

starts_within : (text : List ℕ) (k d : ℕ) → k < length (line_starts text) → get_or (line_starts text) k d ≤ length text
starts_within text zero d h = omega arith
starts_within text (suc k) d h = let m = later_within 0 text k d (omega (arith, h)) in omega (arith, m)

pub start_within : (text starts : List ℕ) (k : ℕ) → starts ≡ line_starts text → k < length starts → get_or starts k 0 ≤ length text
start_within text starts k = λ are h.
    let P : List ℕ → Type 0 = λ s. k < length s → get_or s k 0 ≤ length text in
    subst P (sym are) (starts_within text k 0) h
