-- A set that is kept as the rising list of its members.
use Rattle.std.proofs.Common.{◌≡◌, ℕ, zero, suc, ◌-◌, ◌<◌, ◌≤◌, nat_lt, Bool, true, false, cond, List, [], ◌∷◌, ◌++◌, length, get_or, refl, subst, Err, Some, None, slice_get, nat_cmp, filter, All, arith, ap, sym}
use Rattle.std.specs.List.{insert}
use Rattle.std.proofs.lemmas.List.Edits.{length-insert}
use Rattle.std.proofs.lemmas.List.Elements.{All-append, All-filter, All-cons, All-nil}
use Rattle.xk_collections.specs.NumberSets.{AreBelow, IsRising, with_member, AreMembers}
use Rattle.std.specs.List.Sorted.{IsBinarySearchResult}
use Rattle.std.proofs.lemmas.List.{length-append}
use Rattle.xk_collections.proofs.MemberListLemmas.{there, at, nobody}
use Rattle.xk_collections.proofs.RisingListLemmas.{added_last, rising_far, rising_up, with_member_rises, missing_put_in}

-- each is its place at least
at_least : (xs : List ℕ) → IsRising xs → (i : ℕ) → i < length xs → i ≤ get_or xs i 0
at_least xs up zero inside = omega arith
at_least xs up (suc i) inside =
    let before : i ≤ get_or xs i 0 = at_least xs up i (omega arith) in
    let less : get_or xs i 0 < get_or xs (suc i) 0 = rising_far xs up i (suc i) (omega arith) inside in
    omega arith

-- they are no more than the room
few_members : (xs : List ℕ) (room : ℕ) → AreMembers xs room → length xs ≤ room
few_members [] room h = omega arith
few_members (x ∷ xs) room h =
    let last : length xs ≤ get_or (x ∷ xs) (length xs) 0 = at_least (x ∷ xs) h.rise (length xs) (omega arith) in
    let within : get_or (x ∷ xs) (length xs) 0 < room = h.within (length xs) 0 (omega arith) in
    omega arith

one_within : (room b : ℕ) (s : Bool) → b < room → All (λ x. x < room) (cond s (b ∷ []) [])
one_within room b true lt = All-cons (λ x. x < room) b [] lt (All-nil (λ x. x < room))
one_within room b false lt = All-nil (λ x. x < room)

-- with a number in it
are_members_with : (b : ℕ) (xs : List ℕ) (room : ℕ) → b < room → AreMembers xs room → AreMembers (with_member b true xs) room
are_members_with b xs room lt h = record {
  rise = with_member_rises b true xs h.rise;
  within =
      All-append (λ x. x < room) (filter (λ x. nat_lt x b) xs) ((b ∷ []) ++ filter (λ x. nat_lt b x) xs)
      (All-filter (λ x. nat_lt x b) (λ x. x < room) xs h.within)
      (All-append (λ x. x < room) (b ∷ []) (filter (λ x. nat_lt b x) xs) (one_within room b true lt)
      (All-filter (λ x. nat_lt b x) (λ x. x < room) xs h.within));
}

-- and without it
pub are_members_without : (b : ℕ) (xs : List ℕ) (room : ℕ) → AreMembers xs room → AreMembers (with_member b false xs) room
are_members_without b xs room h = record {
  rise = with_member_rises b false xs h.rise;
  within =
      All-append (λ x. x < room) (filter (λ x. nat_lt x b) xs) (filter (λ x. nat_lt b x) xs)
      (All-filter (λ x. nat_lt x b) (λ x. x < room) xs h.within)
      (All-filter (λ x. nat_lt b x) (λ x. x < room) xs h.within);
}

-- where one more can be put in there is room for it
room_for_one : (b : ℕ) (xs : List ℕ) (i room : ℕ) → b < room → AreMembers xs room → i ≤ length xs → insert xs i b ≡ with_member b true xs → length xs < room
room_for_one b xs i room lt h inside is =
    omega (arith, length-insert xs i b inside, ap length is, few_members (with_member b true xs) room (are_members_with b xs room lt h))

-- what it comes to that a search for a number ends without it
pub record IsMissing (b : ℕ) (xs : List ℕ) (i room : ℕ) : Type 0 where
  pub puts : insert xs i b ≡ with_member b true xs
  pub fits : length xs < room
  pub keeps : AreMembers (insert xs i b) room

pub missing : (b : ℕ) (xs ys : List ℕ) (i room : ℕ) → b < room → AreMembers xs room → ys ≡ xs → i ≤ length ys
    → IsBinarySearchResult (λ y. nat_cmp y b) ys (Err i) → IsMissing b xs i room
missing b xs ys i room lt h same inside found =
    let puts : insert xs i b ≡ with_member b true xs =
    missing_put_in b true xs i refl h.rise (subst (λ (l : List ℕ). IsBinarySearchResult (λ y. nat_cmp y b) l (Err i)) same found) in
    record {
      puts = puts;
      fits = room_for_one b xs i room lt h (omega (arith, inside, ap length same)) puts;
      keeps = subst (λ (l : List ℕ). AreMembers l room) (sym puts) (are_members_with b xs room lt h);
    }

-- what it comes to that a number is above all others
pub record IsLast (b : ℕ) (xs : List ℕ) (room : ℕ) : Type 0 where
  pub puts : xs ++ b ∷ [] ≡ with_member b true xs
  pub fits : length xs < room
  pub keeps : AreMembers (xs ++ b ∷ []) room

pub put_last : (b : ℕ) (xs : List ℕ) (room : ℕ) → b < room → AreMembers xs room → AreBelow b xs → IsLast b xs room
put_last b xs room lt h below =
    let puts : xs ++ b ∷ [] ≡ with_member b true xs = added_last b true xs below in
    record {
      puts = puts;
      fits = omega (arith, length-append xs (b ∷ []), ap length puts, few_members (with_member b true xs) room (are_members_with b xs room lt h));
      keeps = subst (λ (l : List ℕ). AreMembers l room) (sym puts) (are_members_with b xs room lt h);
    }

-- where the last of them is less than a number all are
pub below_last : (b : ℕ) (xs : List ℕ) (last : ℕ) → IsRising xs → slice_get xs (length xs - 1) ≡ Some last → last < b → AreBelow b xs
below_last b xs last up is lt i x e =
    let inside : i < length xs = there xs i x e in
    let up_to_last : get_or xs i 0 ≤ get_or xs (length xs - 1) 0 = rising_up xs up i (length xs - 1) (omega arith) (omega arith) in
    omega (arith, up_to_last, at xs i x e, at xs (length xs - 1) last is, lt)
