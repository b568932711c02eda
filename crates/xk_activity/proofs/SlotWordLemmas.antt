-- The slots of a frame as words with marks: what is read, written and put behind others.
use Rattle.std.proofs.Common.{◌≡◌, ℕ, zero, suc, ◌+◌, ◌<◌, ◌≤◌, ℤ, pos, Bool, true, false, cond, List, [], ◌∷◌, ◌++◌, length, replicate, drop, Some, refl, sym, ap, ◌∙◌, arith, slice_get, slice_set}
use Rattle.std.specs.Prelude.{slice_index_or, int_le, ◌&&◌, ◌-ℤ◌, nat_abs}
use Rattle.std.proofs.lemmas.List.{append_assoc, length-append, get_or-drop}
use Rattle.std.proofs.Math.ListN.{get_or-append}
use Rattle.std.proofs.lemmas.Option.{none-some, same_Some, slice_get-get_or, slice_get_within, get_or_from_slice_get}
use Rattle.xk_types.specs.declared.world.Value.{Value}
use Rattle.xk_types.specs.declared.world.Value.TheVariants as value
use Rattle.xk_activity.specs.declared.marks.Marks.{Marks}
use Rattle.xk_activity.specs.Slots.{is_marked, unmarked, value_of, values_by, values_of, IsMarkedSo, AreLaid}

-- ---- reading

get_by : (f : ℕ → Bool) (ns : List ℤ) (i : ℕ) (n : ℤ) → slice_get ns i ≡ Some n → slice_get (values_by f ns) i ≡ Some (value_of (f i) n)
get_by f [] i n h = absurd (none-some n h)
get_by f (x ∷ ns) zero n h = ap (λ z. Some (value_of (f zero) z)) (same_Some x n h)
get_by f (x ∷ ns) (suc i) n h = get_by (λ s. f (suc s)) ns i n h

pub length_by : (f : ℕ → Bool) (ns : List ℤ) → length (values_by f ns) ≡ length ns
length_by f [] = refl
length_by f (x ∷ ns) = ap suc (length_by (λ s. f (suc s)) ns)

-- a word without a mark is no number
no_number : (x n : ℤ) → unmarked x ≡ value.Number n → ⊥
no_number x n h = cases (int_le (pos 1) x && int_le x (pos 4294967296)) h
  where
    cases : (b : Bool) → cond b (value.Clock (nat_abs (x -ℤ pos 1))) value.Unset ≡ value.Number n → ⊥
    cases true e = cc
    cases false e = cc

-- a slot that holds a number has its word, and a mark
number_by : (f : ℕ → Bool) (ns : List ℤ) (i : ℕ) (n : ℤ) → slice_get (values_by f ns) i ≡ Some (value.Number n) → (slice_get ns i ≡ Some n) × (f i ≡ true)
number_by f [] i n h = absurd (none-some _ h)
number_by f (x ∷ ns) zero n h = go (f zero) refl (same_Some (value_of (f zero) x) (value.Number n) h)
  where
    go : (b : Bool) → f zero ≡ b → value_of b x ≡ value.Number n → (Some x ≡ Some n) × (f zero ≡ true)
    go true e q = (cc, e)
    go false e q = absurd (no_number x n q)
number_by f (x ∷ ns) (suc i) n h = number_by (λ s. f (suc s)) ns i n h

number_word : (marks : Marks) (ns : List ℤ) (i : ℕ) (n : ℤ) → slice_get (values_of marks ns) i ≡ Some (value.Number n)
    → (slice_get ns i ≡ Some n) × (is_marked marks i ≡ true)
number_word marks ns i n h = number_by (is_marked marks) ns i n h

pub number_within : (marks : Marks) (ns : List ℤ) (i : ℕ) (n : ℤ) → slice_get (values_of marks ns) i ≡ Some (value.Number n) → i < length ns
number_within marks ns i n h = slice_get_within ns i n (number_word marks ns i n h).0

-- the number is the word
pub number_read : (marks : Marks) (ns : List ℤ) (i : ℕ) (n m : ℤ) → slice_get (values_of marks ns) i ≡ Some (value.Number n) → m ≡ slice_index_or ns i (pos 0)
    → slice_get (values_of marks ns) i ≡ Some (value.Number m)
number_read marks ns i n m h r = h ∙ ap (λ z. Some (value.Number z)) (sym (r ∙ get_or_from_slice_get ns i n (pos 0) (number_word marks ns i n h).0))

-- a value is that of its word and mark
pub value_read : (marks : Marks) (ns : List ℤ) (s : ℕ) (b : Bool) (v : Value) → s < length ns → is_marked marks s ≡ b → value_of b (slice_index_or ns s (pos 0)) ≡ v
    → slice_get (values_of marks ns) s ≡ Some v
value_read marks ns s b v lt e q =
    get_by (is_marked marks) ns s (slice_index_or ns s (pos 0)) (slice_get-get_or ns s (pos 0) lt) ∙ ap (λ x. Some (value_of x (slice_index_or ns s (pos 0)))) e ∙ ap (λ x. Some x) q

-- ---- writing

-- where another test says the same of all words
same_by : (f g : ℕ → Bool) (ns : List ℤ) → ((k : ℕ) → k < length ns → f k ≡ g k) → values_by f ns ≡ values_by g ns
same_by f g [] h = refl
same_by f g (x ∷ ns) h =
    ap (λ b. value_of b x ∷ values_by (λ s. f (suc s)) ns) (h zero (omega arith))
    ∙ ap (λ vs. value_of (g zero) x ∷ vs) (same_by (λ s. f (suc s)) (λ s. g (suc s)) ns (λ k lt. h (suc k) (omega arith)))

-- one word is another one, and perhaps its mark
set_by : (f g : ℕ → Bool) (ns : List ℤ) (d : ℕ) (n : ℤ) → d < length ns → ((k : ℕ) → k < length ns → (k ≡ d → ⊥) → g k ≡ f k)
    → values_by g (slice_set ns d n) ≡ slice_set (values_by f ns) d (value_of (g d) n)
set_by f g [] d n lt h = absurd (omega arith)
set_by f g (x ∷ ns) zero n lt h =
    ap (λ vs. value_of (g zero) n ∷ vs) (same_by (λ s. g (suc s)) (λ s. f (suc s)) ns (λ k l. h (suc k) (omega arith) (λ e. omega (arith, e))))
set_by f g (x ∷ ns) (suc d) n lt h =
    ap (λ b. value_of b x ∷ values_by (λ s. g (suc s)) (slice_set ns d n)) (h zero (omega arith) (λ e. omega (arith, e)))
    ∙ ap (λ vs. value_of (f zero) x ∷ vs) (set_by (λ s. f (suc s)) (λ s. g (suc s)) ns d n (omega arith) (λ k l ne. h (suc k) (omega arith) (λ e. ne (omega (arith, e)))))

pub set_ok : (old new : Marks) (ns : List ℤ) (d : ℕ) (n : ℤ) (b : Bool) → d < length (values_of old ns) → length ns ≤ 64 → IsMarkedSo d b old new
    → values_of new (slice_set ns d n) ≡ slice_set (values_of old ns) d (value_of b n)
set_ok old new ns d n b lt few m =
    set_by (is_marked old) (is_marked new) ns d n (let l = length_by (is_marked old) ns in omega arith) (λ k l ne. m.others k (omega arith) ne)
    ∙ ap (λ x. slice_set (values_of old ns) d (value_of x n)) m.here

-- another number where one is
pub change_ok : (marks : Marks) (ns : List ℤ) (k : ℕ) (m n : ℤ) → slice_get (values_of marks ns) k ≡ Some (value.Number m) → k < length ns
    → values_of marks (slice_set ns k n) ≡ slice_set (values_of marks ns) k (value.Number n)
change_ok marks ns k m n h lt =
    set_by (is_marked marks) (is_marked marks) ns k n lt (λ j l ne. refl)
    ∙ ap (λ x. slice_set (values_of marks ns) k (value_of x n)) (number_word marks ns k m h).1

-- ---- words behind others

append_by : (f g : ℕ → Bool) (xs ys : List ℤ) → ((s : ℕ) → g s ≡ f (length xs + s)) → values_by f (xs ++ ys) ≡ values_by f xs ++ values_by g ys
append_by f g [] ys h = same_by f g ys (λ k lt. ap f (omega arith) ∙ sym (h k))
append_by f g (x ∷ xs) ys h =
    ap (λ vs. value_of (f zero) x ∷ vs) (append_by (λ s. f (suc s)) g xs ys (λ s. h s ∙ ap f (omega arith)))

-- words that nothing was written to
zeros_by : (f : ℕ → Bool) (k : ℕ) → ((s : ℕ) → s < k → f s ≡ false) → values_by f (replicate k (pos 0)) ≡ replicate k value.Unset
zeros_by f zero h = refl
zeros_by f (suc k) h =
    ap (λ b. value_of b (pos 0) ∷ values_by (λ s. f (suc s)) (replicate k (pos 0))) (h zero (omega arith))
    ∙ ap (λ vs. value.Unset ∷ vs) (zeros_by (λ s. f (suc s)) k (λ s lt. h (suc s) (omega arith)))

-- one more word
pub laid_more : (old mid new : List ℤ) (marks next : Marks) (values : List Value) (i : ℕ) (w : ℤ) (b : Bool) → AreLaid old mid marks values → i ≡ length values → i < 64
    → new ≡ mid ++ w ∷ [] → (is_marked next i ≡ b) → ((k : ℕ) → k < 64 → (k ≡ i → ⊥) → is_marked next k ≡ is_marked marks k) → AreLaid old new next (values ++ value_of b w ∷ [])
laid_more old mid new marks next values i w b l at few items here others =
    let long : length l.fresh ≡ i = sym (length_by (is_marked marks) l.fresh) ∙ ap length l.hold ∙ sym at in
    record {
      fresh = l.fresh ++ w ∷ [];
      items = items ∙ ap (λ xs. xs ++ w ∷ []) l.items ∙ append_assoc old l.fresh (w ∷ []);
      hold =
          append_by (is_marked next) (λ s. is_marked next (length l.fresh + s)) l.fresh (w ∷ []) (λ s. refl)
          ∙ ap (λ vs. vs ++ value_of (is_marked next (length l.fresh + 0)) w ∷ [])
          (same_by (is_marked next) (is_marked marks) l.fresh (λ k lt. others k (omega arith) (λ e. omega (arith, e))) ∙ l.hold)
          ∙ ap (λ x. values ++ value_of x w ∷ []) (ap (is_marked next) (omega arith) ∙ here);
      above = λ s le lt. others s lt (λ e. let g = length-append l.fresh (w ∷ []) in omega (arith, e)) ∙ l.above s (let g = length-append l.fresh (w ∷ []) in omega arith) lt;
    }

-- and these slots behind them to which nothing was written
pub laid_filled : (old mid new : List ℤ) (marks : Marks) (values : List Value) (k : ℕ) → AreLaid old mid marks values → length values + k ≤ 64 → new ≡ mid ++ replicate k (pos 0)
    → AreLaid old new marks (values ++ replicate k value.Unset)
laid_filled old mid new marks values k l few items =
    let long : length l.fresh ≡ length values = sym (length_by (is_marked marks) l.fresh) ∙ ap length l.hold in
    record {
      fresh = l.fresh ++ replicate k (pos 0);
      items = items ∙ ap (λ xs. xs ++ replicate k (pos 0)) l.items ∙ append_assoc old l.fresh (replicate k (pos 0));
      hold =
          append_by (is_marked marks) (λ s. is_marked marks (length l.fresh + s)) l.fresh (replicate k (pos 0)) (λ s. refl)
          ∙ ap (λ vs. vs ++ values_by (λ s. is_marked marks (length l.fresh + s)) (replicate k (pos 0))) l.hold
          ∙ ap (λ vs. values ++ vs) (zeros_by (λ s. is_marked marks (length l.fresh + s)) k (λ s lt. l.above (length l.fresh + s) (omega arith) (omega arith)));
      above = λ s le lt. l.above s (let g = length-append l.fresh (replicate k (pos 0)) in omega arith) lt;
    }

-- as many words more as values
pub laid_length : (old new : List ℤ) (marks : Marks) (values : List Value) → AreLaid old new marks values → length new ≡ length old + length values
laid_length old new marks values l =
    let many = sym (length_by (is_marked marks) l.fresh) ∙ ap length l.hold in
    let all = ap length l.items ∙ length-append old l.fresh in
    omega arith

-- a word of the stack as it was, read when others were put behind
pub word_kept : (old new : List ℤ) (marks : Marks) (values : List Value) (base s : ℕ) → AreLaid old new marks values → base + s < length old
    → slice_index_or new (base + s) (pos 0) ≡ slice_index_or (drop base old) s (pos 0)
word_kept old new marks values base s l lt =
    ap (λ xs. slice_index_or xs (base + s) (pos 0)) l.items ∙ get_or-append old l.fresh (pos 0) (base + s) lt ∙ sym (get_or-drop base old s (pos 0))
