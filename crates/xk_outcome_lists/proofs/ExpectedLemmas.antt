-- The lines of a text, one after another.
use Rattle.std.proofs.Common.{◌≡◌, ◌∙◌, ℕ, suc, ◌+◌, ◌-◌, ◌<◌, Bool, true, false, not, cond, if◌then◌else◌, List, []}
use Rattle.std.proofs.Common.{◌∷◌, ◌++◌, length, take, drop, length-drop, append_assoc, Option, Some, None, refl, sym}
use Rattle.std.proofs.Common.{ap, arith}
use Rattle.std.specs.Prelude.{◌==◌, nat_lt}
use Rattle.std.specs.List.{cons_option, filter_map, prefix_len}
use Rattle.std.specs.Option.{option_to_list}
use Rattle.std.proofs.lemmas.Bool.{ltb-true, lt-ltb}
use Rattle.std.proofs.lemmas.List.{drop-drop}
use Rattle.xk_outcome_lists.specs.declared.reading.ListFault.{ListFault}
use Rattle.xk_outcome_lists.specs.declared.reading.ListFault.TheVariants as fault
use Rattle.xk_outcome_lists.specs.Expected.{IsStray, IsStrayIn, in_first, line_feed, lines_of, may_stand, stray_from, stray_line, told_in}

-- how many bytes stand before the next line feed
abbrev pub until_feed : List ℕ → ℕ
until_feed text = prefix_len (λ b. not (b == line_feed)) text

-- the lines behind the first one
abbrev rest_of : ℕ → List ℕ → List (List ℕ)
rest_of n text = if nat_lt n (length text) then lines_of (drop (suc n) text) else []

same_test : (x y : Bool) → (x ≡ true → y ≡ true) → (y ≡ true → x ≡ true) → x ≡ y
same_test true true f g = refl
same_test true false f g = sym (f refl)
same_test false true f g = g refl
same_test false false f g = refl

below_suc : (n m : ℕ) → nat_lt n m ≡ nat_lt (suc n) (suc m)
below_suc n m = same_test (nat_lt n m) (nat_lt (suc n) (suc m)) (λ e. lt-ltb (suc n) (suc m) (let less = ltb-true n m e in omega (arith, less)))
    (λ e. lt-ltb n m (let less = ltb-true (suc n) (suc m) e in omega (arith, less)))

below_all : (n : ℕ) → 0 < suc n
below_all n = omega arith

one : (n : ℕ) → suc n ≡ 1 + n
one n = omega arith

more : (e : Bool) (b n : ℕ) (text : List ℕ) → lines_of text ≡ take n text ∷ rest_of n text
    → (if e then [] ∷ lines_of text else in_first b (lines_of text)) ≡ take (cond (not e) (1 + n) 0) (b ∷ text) ∷ rest_of (cond (not e) (1 + n) 0) (b ∷ text)
more true b n text h = sym (ap (λ found. [] ∷ (if found then lines_of text else [])) (lt-ltb 0 (suc (length text)) (below_all (length text))))
more false b n text h =
    ap (in_first b) h ∙ ap (λ found. (b ∷ take n text) ∷ (if found then lines_of (drop (suc n) text) else [])) (below_suc n (length text))
    ∙ ap (λ k. take k (b ∷ text) ∷ rest_of k (b ∷ text)) (one n)

-- the first line ends at the next line feed
first_line : (text : List ℕ) → lines_of text ≡ take (until_feed text) text ∷ rest_of (until_feed text) text
first_line [] = refl
first_line (b ∷ text) = more (b == line_feed) b (until_feed text) text (first_line text)

-- the lines from an offset on; behind the last line feed's line there is none
abbrev pub left : ℕ → List ℕ → List (List ℕ)
left from text = if nat_lt from (length text + 1) then lines_of (drop from text) else []

behind_one : (from n : ℕ) → from + suc n ≡ from + (n + 1)
behind_one from n = omega arith

-- from an offset on there is one line, and then those behind it
pub next_line : (from : ℕ) (text : List ℕ) → from < length text + 1
    → left from text ≡ take (until_feed (drop from text)) (drop from text) ∷ left (from + (until_feed (drop from text) + 1)) text
next_line from text within =
    let rest = drop from text in
    let n = until_feed rest in
    let size : length rest ≡ length text - from = length-drop from text in
    let test : nat_lt n (length rest) ≡ nat_lt (from + (n + 1)) (length text + 1) = same_test (nat_lt n (length rest)) (nat_lt (from + (n + 1)) (length text + 1))
    (λ e. lt-ltb (from + (n + 1)) (length text + 1) (let less = ltb-true n (length rest) e in omega (arith, less, size)))
    (λ e. lt-ltb n (length rest) (let less = ltb-true (from + (n + 1)) (length text + 1) e in omega (arith, less, size))) in
    ap (λ found. if found then lines_of rest else []) (lt-ltb from (length text + 1) within)
    ∙ first_line rest
    ∙ ap (λ lines. take n rest ∷ (if nat_lt n (length rest) then lines else [])) (ap lines_of (drop-drop (suc n) from text ∙ ap (λ k. drop k text) (behind_one from n)))
    ∙ ap (λ found. take n rest ∷ (if found then lines_of (drop (from + (n + 1)) text) else [])) test

-- ---- what was read so far, and one line more

cons_is : {X : Type 0} (o : Option X) (xs : List X) → option_to_list o ++ xs ≡ cons_option o xs
cons_is None xs = refl
cons_is (Some x) xs = refl

pub told_more : (line : List ℕ) (lines rest old new all : List (List ℕ)) → lines ≡ line ∷ rest → new ≡ old ++ option_to_list (told_in line)
    → old ++ filter_map told_in lines ≡ all → new ++ filter_map told_in rest ≡ all
told_more line lines rest old new all next kept before =
    ap (λ xs. xs ++ filter_map told_in rest) kept ∙ append_assoc old (option_to_list (told_in line)) (filter_map told_in rest)
    ∙ ap (λ xs. old ++ xs) (cons_is (told_in line) (filter_map told_in rest)) ∙ ap (λ xs. old ++ filter_map told_in xs) (sym next) ∙ before

pub stray_more : (line : List ℕ) (lines rest : List (List ℕ)) (number : ℕ) (all : Option ℕ) → lines ≡ line ∷ rest → may_stand line ≡ true
    → stray_from number lines ≡ all → stray_from (number + 1) rest ≡ all
stray_more line lines rest number all next stands before =
    sym (ap (stray_from number) next ∙ ap (λ may. if may then stray_from (number + 1) rest else Some number) stands) ∙ before

pub stray_here : (text line : List ℕ) (lines rest : List (List ℕ)) (number : ℕ) (e : ListFault) → lines ≡ line ∷ rest
    → stray_from number lines ≡ stray_line text
    → IsStray number line e → IsStrayIn text e
stray_here text line lines rest number (fault.Stray n) next before stray =
    sym before ∙ ap (stray_from number) next ∙ ap (λ may. if may then stray_from (number + 1) rest else Some number) stray.1 ∙ ap Some (sym stray.0)
stray_here text line lines rest number fault.OutOfMemory next before stray = tt
