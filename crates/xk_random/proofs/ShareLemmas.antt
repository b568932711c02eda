-- One run more in shares that lie in memory.
use Rattle.std.proofs.Common.{◌≡◌, ◌∙◌, ℕ, ℤ, zero, suc, ◌+◌, ◌<◌, ◌≤◌, ◌^◌, Bool, true, false, not, cond, List, [], ◌∷◌, length, map, Some, None, position, refl, sym, ap, subst, arith, slice_get}
use Rattle.std.specs.Prelude.{nat_lt}
use Rattle.std.specs.Global.{Vec}
use Rattle.std.specs.List.{position_or_len}
use Rattle.std.specs.Map.{keys_of, values_of}
use Rattle.std.specs.Cmp.Rules.{signed_items}
use Rattle.std.proofs.lemmas.Bool.{true≢false, ltb-true, ltb-false}
use Rattle.std.proofs.lemmas.List.Sums.{prefix_len-le-length}
use Rattle.std.proofs.lemmas.Option.{none-some, same_Some}
use Rattle.indexmap.specs.IndexMap.{insert_entry, set_value_at}
use Rattle.xk_random.specs.declared.share.Share.{Share as Declared}
use Rattle.xk_random.specs.Tally.{Share, are_same}
use Rattle.xk_random.specs.Shares.{HasRoom, noted, once_more, share_value}

-- ---- lists that are the same

pub same_yes : (x y : List ℤ) → are_same x y ≡ true → x ≡ y
same_yes x y h = (signed_items x y).0 h

pub same_here : (x : List ℤ) → are_same x x ≡ true
same_here x = (signed_items x x).1 refl

-- in the other order it is the same answer
pub other_order : (x y : List ℤ) (b : Bool) → are_same x y ≡ b → are_same y x ≡ b
other_order x y true same = (signed_items y x).1 (sym (same_yes x y same))
other_order x y false differs = by (are_same y x) refl
  where
    by : (b : Bool) → are_same y x ≡ b → b ≡ false
    by true e = absurd (true≢false (sym (same_here x) ∙ ap (are_same x) (sym (same_yes y x e)) ∙ differs))
    by false e = refl

-- ---- the share at a place

shared : (shares : List (Vec ℤ × Declared)) (place : ℕ) (s : Declared) → slice_get (values_of shares) place ≡ Some s
    → (v : Share) × (slice_get (map share_value shares) place ≡ Some v) × (v.runs ≡ s.runs)
shared [] place s there = absurd (none-some s there)
shared (e ∷ shares) zero s there = (share_value e, refl, ap (λ (d : Declared). d.runs) (same_Some e.1 s there))
shared (e ∷ shares) (suc k) s there = shared shares k s there

pub room_at : (shares : List (Vec ℤ × Declared)) (place : ℕ) (s : Declared) → HasRoom (map share_value shares)
    → slice_get (values_of shares) place ≡ Some s
    → s.runs + 1 < 2 ^ 64
room_at shares place s room there =
    let v = shared shares place s there in
    subst (λ n. n + 1 < 2 ^ 64) v.2 (room place v.0 v.1)

pub counted : (shares : List (Vec ℤ × Declared)) (place : ℕ) (s : Declared) → slice_get (values_of shares) place ≡ Some s
    → map share_value (set_value_at shares place (record { first = s.first; runs = s.runs + 1 })) ≡ once_more place (map share_value shares)
counted [] place s there = absurd (none-some s there)
counted (e ∷ shares) zero s there =
    ap (λ (d : Declared). share_value (e.0, record { first = d.first; runs = d.runs + 1 }) ∷ map share_value shares) (sym (same_Some e.1 s there))
counted (e ∷ shares) (suc k) s there = ap (λ l. share_value e ∷ l) (counted shares k s there)

-- ---- where the numbers are, one run more is noted

-- the place of the numbers, or how many shares there are
abbrev place_of : List ℤ → List (Vec ℤ × Declared) → ℕ
place_of numbers shares = position_or_len (λ k. are_same numbers k.items) (keys_of shares)

place_later : (numbers : List ℤ) (e : Vec ℤ × Declared) (shares : List (Vec ℤ × Declared)) → are_same numbers e.0.items ≡ false
    → place_of numbers (e ∷ shares) ≡ suc (place_of numbers shares)
place_later numbers e shares differs =
    let next : 1 + place_of numbers shares ≡ suc (place_of numbers shares) = omega arith in
    ap (λ b. cond (not b) (1 + place_of numbers shares) 0) differs ∙ next

-- the run of this seed, which printed these numbers, in shares that lie in memory
abbrev inserted : ℕ → Vec ℤ → List (Vec ℤ × Declared) → List (Vec ℤ × Declared)
inserted seed numbers shares = insert_entry (λ x y. are_same x.items y.items) shares numbers (record { first = seed; runs = 1 })

pub noted_later : (seed : ℕ) (numbers : List ℤ) (s : Share) (shares : List Share) → are_same s.numbers numbers ≡ false
    → noted seed numbers (s ∷ shares) ≡ s ∷ noted seed numbers shares
noted_later seed numbers s shares differs = rw differs refl

inserted_later : (seed : ℕ) (numbers : Vec ℤ) (e : Vec ℤ × Declared) (shares : List (Vec ℤ × Declared))
    → are_same numbers.items e.0.items ≡ false → inserted seed numbers (e ∷ shares) ≡ e ∷ inserted seed numbers shares
inserted_later seed numbers e shares differs = rw differs refl

noted_there : (seed : ℕ) (numbers : List ℤ) (shares : List (Vec ℤ × Declared))
    → place_of numbers shares < length (keys_of shares)
    → once_more (place_of numbers shares) (map share_value shares) ≡ noted seed numbers (map share_value shares)
noted_there seed numbers [] less = absurd (omega (arith, less))
noted_there seed numbers (e ∷ shares) less = by (noted_there seed numbers shares) (are_same numbers e.0.items) refl
  where
    by : (place_of numbers shares < length (keys_of shares)
        → once_more (place_of numbers shares) (map share_value shares) ≡ noted seed numbers (map share_value shares))
        → (b : Bool) → are_same numbers e.0.items ≡ b
        → once_more (place_of numbers (e ∷ shares)) (map share_value (e ∷ shares)) ≡ noted seed numbers (map share_value (e ∷ shares))
    by rest true same = simp (same, other_order numbers e.0.items true same)
    by rest false differs =
        let at = place_later numbers e shares differs in
        let within : place_of numbers shares < length (keys_of shares) = omega (arith, less, at) in
        ap (λ k. once_more k (map share_value (e ∷ shares))) at
        ∙ ap (λ l. share_value e ∷ l) (rest within)
        ∙ sym (noted_later seed numbers (share_value e) (map share_value shares) (other_order numbers e.0.items false differs))

noted_behind : (seed : ℕ) (numbers : Vec ℤ) (shares : List (Vec ℤ × Declared))
    → length (keys_of shares) ≡ place_of numbers.items shares
    → map share_value (inserted seed numbers shares) ≡ noted seed numbers.items (map share_value shares)
noted_behind seed numbers [] none = refl
noted_behind seed numbers (e ∷ shares) none = by (noted_behind seed numbers shares) (are_same numbers.items e.0.items) refl
  where
    by : (length (keys_of shares) ≡ place_of numbers.items shares
        → map share_value (inserted seed numbers shares) ≡ noted seed numbers.items (map share_value shares))
        → (b : Bool) → are_same numbers.items e.0.items ≡ b
        → map share_value (inserted seed numbers (e ∷ shares)) ≡ noted seed numbers.items (map share_value (e ∷ shares))
    by rest true same =
        let at : place_of numbers.items (e ∷ shares) ≡ 0 = ap (λ b. cond (not b) (1 + place_of numbers.items shares) 0) same in
        absurd (omega (arith, none, at))
    by rest false differs =
        let at = place_later numbers.items e shares differs in
        let behind : length (keys_of shares) ≡ place_of numbers.items shares = omega (arith, none, at) in
        ap (map share_value) (inserted_later seed numbers e shares differs)
        ∙ ap (λ l. share_value e ∷ l) (rest behind)
        ∙ sym (noted_later seed numbers.items (share_value e) (map share_value shares) (other_order numbers.items e.0.items false differs))

-- ---- what a look-up says

found : (k n place : ℕ) (b : Bool) → nat_lt k n ≡ b → cond b (Some k) None ≡ Some place → (k < n) × (k ≡ place)
found k n place true less at = (ltb-true k n less, same_Some k place at)
found k n place false less at = absurd (none-some place at)

missing : (k n : ℕ) (b : Bool) → nat_lt k n ≡ b → cond b (Some k) None ≡ None → nat_lt k n ≡ false
missing k n true less at = absurd (none-some k (sym at))
missing k n false less at = less

pub noted_at : (seed : ℕ) (numbers : List ℤ) (shares : List (Vec ℤ × Declared)) (place : ℕ)
    → position (λ k. are_same numbers k.items) (keys_of shares) ≡ Some place
    → once_more place (map share_value shares) ≡ noted seed numbers (map share_value shares)
noted_at seed numbers shares place at =
    let f = found (place_of numbers shares) (length (keys_of shares)) place _ refl at in
    ap (λ k. once_more k (map share_value shares)) (sym f.1) ∙ noted_there seed numbers shares f.0

all_pass : {X : Type 0} (p : X → Bool) (xs : List X) → nat_lt (position_or_len p xs) (length xs) ≡ false → length xs ≡ position_or_len p xs
all_pass p xs all =
    let most : position_or_len p xs ≤ length xs = prefix_len-le-length (λ x. not (p x)) xs in
    let least : length xs ≤ position_or_len p xs = ltb-false _ _ all in
    omega (arith, most, least)

pub noted_new : (seed : ℕ) (numbers : Vec ℤ) (shares : List (Vec ℤ × Declared))
    → position (λ k. are_same numbers.items k.items) (keys_of shares) ≡ None
    → map share_value (inserted seed numbers shares) ≡ noted seed numbers.items (map share_value shares)
noted_new seed numbers shares none =
    let keys = keys_of shares in
    let less = missing (place_of numbers.items shares) (length keys) _ refl none in
    noted_behind seed numbers shares (all_pass (λ k. are_same numbers.items k.items) keys less)
