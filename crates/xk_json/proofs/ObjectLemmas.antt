-- Members that are put into plain ones leave them plain, so that the text of an object is known and read back.
use Rattle.std.proofs.Common.{◌≡◌, ◌≤◌, ℕ, suc, false, ◌||◌, List, [], ◌∷◌, map, String, Result, Ok, Err, refl, sym, subst, arith}
use Rattle.std.proofs.lemmas.Bool.{or_from, or_parts}
use Rattle.std.specs.Prelude.{OnOk, OnErr}
use Rattle.std.specs.Ordering.{nat_cmp, match_ordering}
use Rattle.std.specs.declared.cmp.Ordering.{Ordering}
use Rattle.std.specs.declared.cmp.Ordering.TheVariants as ordering
use Rattle.std.specs.declared.alloc.Global.{Global}
use Rattle.std.specs.Cmp.Lexicographic.{slice_cmp}
use Rattle.serde_json.specs.Data.{Data, object, Members, no_members, member, put, depth, items_depth, members_depth}
use Rattle.serde_json.specs.View.{items_of, members_view}
use Rattle.serde_json.specs.declared.value.Value.{Value}
use Rattle.serde_json.specs.Written.{has_float, items_have_float, members_have_float}
use Rattle.xk_json.specs.Objects.{array_of}
use Rattle.xk_json.specs.Plain.{IsPlain, ArePlain}

put_no_float : (k : List ℕ) (d : Data) (ms : Members) → has_float d ≡ false → members_have_float ms ≡ false → members_have_float (put k d ms) ≡ false
put_no_float k d no_members p q = or_from (has_float d) false p refl
put_no_float k d (member l e ms) p q =
    let h = or_parts (has_float e) (members_have_float ms) q in by (put_no_float k d ms p h.1) h (slice_cmp nat_cmp k l)
  where
    by : members_have_float (put k d ms) ≡ false → (has_float e ≡ false) × (members_have_float ms ≡ false) → (o : Ordering)
        → members_have_float (match_ordering o (member k d (member l e ms)) (member l d ms) (member l e (put k d ms))) ≡ false
    by r h ordering.Less = or_from (has_float d) (has_float e || members_have_float ms) p q
    by r h ordering.Equal = or_from (has_float d) (members_have_float ms) p h.1
    by r h ordering.Greater = or_from (has_float e) (members_have_float (put k d ms)) h.0 r

put_depth : (n : ℕ) (k : List ℕ) (d : Data) (ms : Members) → depth d ≤ n → members_depth ms ≤ n → members_depth (put k d ms) ≤ n
put_depth n k d no_members p q = omega (arith, p)
put_depth n k d (member l e ms) p q = by (put_depth n k d ms p (omega (arith, q))) (slice_cmp nat_cmp k l)
  where
    by : members_depth (put k d ms) ≤ n → (o : Ordering)
        → members_depth (match_ordering o (member k d (member l e ms)) (member l d ms) (member l e (put k d ms))) ≤ n
    by r ordering.Less = omega (arith, p, q)
    by r ordering.Equal = omega (arith, p, q)
    by r ordering.Greater = omega (arith, q, r)

pub put_plain : (n : ℕ) (k : List ℕ) (d : Data) (ms : Members) → IsPlain n d → ArePlain n ms → ArePlain n (put k d ms)
put_plain n k d ms p q = record { no_float = put_no_float k d ms p.no_float q.no_float; nest = put_depth n k d ms p.nests q.nest }

-- what nests less deep
pub plain_deeper : (n m : ℕ) (d : Data) → n ≤ m → IsPlain n d → IsPlain m d
plain_deeper n m d l p = record { no_float = p.no_float; nests = omega (arith, l, p.nests) }

pub object_plain : (n : ℕ) (ms : Members) → ArePlain n ms → IsPlain (suc n) (object ms)
object_plain n ms p = record { no_float = p.no_float; nests = omega (arith, p.nest) }

-- a list of plain values is one that nests by one more
pub array_plain : {A : Type 0} (n : ℕ) (value : A → Data) → ((x : A) → IsPlain n (value x)) → (xs : List A) → IsPlain (suc n) (array_of value xs)
array_plain {A = A} n value each xs = record { no_float = none xs; nests = omega (arith, least xs) }
  where
    none : (xs : List A) → items_have_float (items_of (map value xs)) ≡ false
    none [] = refl
    none (x ∷ xs) = or_from (has_float (value x)) (items_have_float (items_of (map value xs))) ((each x).no_float) (none xs)

    least : (xs : List A) → items_depth (items_of (map value xs)) ≤ n
    least [] = omega arith
    least (x ∷ xs) = omega (arith, (each x).nests, least xs)

-- ---- an object that gained a member, or was left as it was

pub put_in_plain : {A E : Type 0} (r : Result A E) (k : List ℕ) (d : Data) (old new : List (String Global × Value)) →
    OnOk r (members_view new ≡ put k d (members_view old)) → OnErr r (new ≡ old) → IsPlain 4 d → ArePlain 4 (members_view old)
    → ArePlain 4 (members_view new)
put_in_plain (Ok x) k d old new ok err p q = subst (λ ms. ArePlain 4 ms) (sym ok) (put_plain 4 k d (members_view old) p q)
put_in_plain (Err x) k d old new ok err p q = subst (λ ms. ArePlain 4 (members_view ms)) (sym err) q
