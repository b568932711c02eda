-- Lists of plain values are plain, however they were put together.
use Rattle.std.proofs.Common.{◌≡◌, ◌≤◌, refl, ℕ, zero, suc, false, List, [], ◌∷◌, ◌++◌, subst, sym, arith}
use Rattle.std.proofs.lemmas.Bool.{or_from}
use Rattle.std.specs.Prelude.{⊤}
use Rattle.serde_json.specs.Data.{Data, array, items_depth}
use Rattle.serde_json.specs.View.{items_of}
use Rattle.serde_json.specs.Written.{has_float, items_have_float}
use Rattle.xk_json.specs.Plain.{IsPlain}
use Rattle.xk_json.proofs.ObjectLemmas.{plain_deeper}
use Rattle.xk_show_events.specs.Worlds.{each_below}

-- each of these is
abbrev pub AreAllPlain : ℕ → List Data → Type 0
AreAllPlain n [] = ⊤
AreAllPlain n (d ∷ ds) = IsPlain n d × AreAllPlain n ds

pub both_plain : (n : ℕ) (xs ys : List Data) → AreAllPlain n xs → AreAllPlain n ys → AreAllPlain n (xs ++ ys)
both_plain n [] ys h k = k
both_plain n (x ∷ xs) ys h k = (h.0, both_plain n xs ys h.1 k)

-- what comes of each number is
pub below_plain : (n : ℕ) (told : ℕ → List Data) → ((k : ℕ) → AreAllPlain n (told k)) → (count : ℕ) → AreAllPlain n (each_below told count)
below_plain n told each zero = tt
below_plain n told each (suc count) = both_plain n (each_below told count) (told count) (below_plain n told each count) (each count)

-- and the list of them nests by one more
pub list_plain : (n : ℕ) (ds : List Data) → AreAllPlain n ds → IsPlain (suc n) (array (items_of ds))
list_plain n ds h = record { no_float = none ds h; nests = omega (arith, least ds h) }
  where
    none : (ds : List Data) → AreAllPlain n ds → items_have_float (items_of ds) ≡ false
    none [] h = refl
    none (d ∷ ds) h = or_from (has_float d) (items_have_float (items_of ds)) h.0.no_float (none ds h.1)

    least : (ds : List Data) → AreAllPlain n ds → items_depth (items_of ds) ≤ n
    least [] h = omega arith
    least (d ∷ ds) h = omega (arith, h.0.nests, least ds h.1)

-- within an object
pub fits : (n : ℕ) (c d : Data) → n ≤ 4 → IsPlain n c → d ≡ c → IsPlain 4 d
fits n c d few p e = subst (λ v. IsPlain 4 v) (sym e) (plain_deeper n 4 c few p)
