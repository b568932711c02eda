-- Which step wrote a shared number last, step by step.
use Rattle.std.proofs.Common.{◌≡◌, ◌∙◌, ◌⊎◌, inl, inr, ℕ, zero, suc, ◌+◌, ◌-◌, ◌<◌, ◌≤◌, ◌==◌, Bool, true, false, cond, List, [], ◌∷◌}
use Rattle.std.proofs.Common.{◌++◌, length, take, replicate, get_or, refl, sym, ap, subst, arith, length-append}
use Rattle.std.specs.Prelude.{if◌then◌else◌, ◌&&◌}
use Rattle.std.specs.Option.{option_map_or}
use Rattle.std.proofs.Math.Seq.{take-suc}
use Rattle.std.proofs.lemmas.Bool.{cases_lt, eqb-true, eqb-false}
use Rattle.std.proofs.lemmas.List.{get_or-set_same, get_or-set_other, get_or_past, get_or-replicate, get_or-append_right}
use Rattle.std.proofs.lemmas.List.{get_or_append_left, length-replicate}
use Rattle.std.proofs.lemmas.Option.{slice_get-get_or}
use Rattle.xk_show_names.specs.declared.accounts.Account.{Account}
use Rattle.xk_show_names.specs.declared.accounts.Subject.{Subject}
use Rattle.xk_show_names.specs.declared.accounts.Subject.TheVariants as subject
use Rattle.xk_show_names.specs.Accounts.{is_shared, puts, writer, writer_for, writes}
use Rattle.xk_show_names.specs.ClockNames.{NamesValue}
use Rattle.xk_show_events.specs.Events.{PlacesValue}
use Rattle.xk_show_events.specs.Worlds.{each_below}
use Rattle.xk_show_names.specs.Events.{account_line, line_at}
use Rattle.xk_show_names.specs.Writers.{AreWriters, in_row, noted, set_for, with_at}

-- ---- one step more

writer_more : (s n : ℕ) (steps : List Account) (a : Account)
    → writer s n (steps ++ a ∷ []) ≡ (if writes s a then a.step.number else writer s n steps)
writer_more s n [] a = refl
writer_more s n (b ∷ steps) a = writer_more s (if writes s b then b.step.number else n) steps a

-- ---- the row

filler : (n i : ℕ) → get_or (replicate n zero) i zero ≡ zero
filler n i = of (cases_lt i n)
  where
    of : (i < n) ⊎ (n ≤ i) → get_or (replicate n zero) i zero ≡ zero
    of (inl lt) = get_or-replicate n i zero zero lt
    of (inr ge) = get_or_past (replicate n zero) i zero (subst (λ k. k ≤ i) (sym (length-replicate n zero)) ge)

padded : (xs : List ℕ) (n j : ℕ) → get_or (xs ++ replicate n 0) j 0 ≡ get_or xs j 0
padded xs n j = of (cases_lt j (length xs))
  where
    of : (j < length xs) ⊎ (length xs ≤ j) → get_or (xs ++ replicate n 0) j 0 ≡ get_or xs j 0
    of (inl lt) = get_or_append_left xs (replicate n 0) 0 j lt
    of (inr ge) = get_or-append_right xs (replicate n 0) (length xs) j 0 refl ge ∙ filler n (j - length xs) ∙ sym (get_or_past xs j 0 ge)

long : (xs : List ℕ) (k : ℕ) → k < length (xs ++ replicate (suc k - length xs) 0)
long xs k = omega (arith, length-append xs (replicate (suc k - length xs) zero), length-replicate (suc k - length xs) zero)

-- what stands at place s behind a write to place k
set_at : (row : List ℕ) (k s n : ℕ) (b : Bool) → (k == s) ≡ b → get_or (with_at row k n) s 0 ≡ cond b n (get_or row s 0)
set_at row k s n true h =
    subst (λ j. get_or (with_at row k n) j 0 ≡ n) (eqb-true k s h)
    (get_or-set_same (row ++ replicate (suc k - length row) 0) k n 0 (long row k))
set_at row k s n false h =
    get_or-set_other (row ++ replicate (suc k - length row) 0) k s n 0 (λ e. eqb-false k s h (sym e)) ∙ padded row (suc k - length row) s

set_for_at : (row : List ℕ) (n s : ℕ) (u : Subject) → get_or (set_for row n u) s 0 ≡ cond (is_shared s u) n (get_or row s 0)
set_for_at row n s subject.Nothing = refl
set_for_at row n s (subject.Clock c) = refl
set_for_at row n s (subject.Shared k) = set_at row k s n (k == s) refl

noted_at : (row : List ℕ) (a : Account) (s : ℕ) → get_or (noted row a) s 0 ≡ cond (writes s a) a.step.number (get_or row s 0)
noted_at row a s = of (puts a.step.event)
  where
    of : (b : Bool) → get_or (cond b (set_for row a.step.number a.subject) row) s 0
        ≡ cond (b && is_shared s a.subject) a.step.number (get_or row s 0)
    of true = set_for_at row a.step.number s a.subject
    of false = refl

noted_writers : (row : List ℕ) (steps : List Account) (a : Account) → AreWriters row steps → AreWriters (noted row a) (steps ++ a ∷ [])
noted_writers row steps a are s = noted_at row a s ∙ ap (cond (writes s a) a.step.number) (are s) ∙ sym (writer_more s 0 steps a)

in_row_is : (row : List ℕ) (steps : List Account) (u : Subject) → AreWriters row steps → in_row row u ≡ writer_for steps u
in_row_is row steps subject.Nothing are = refl
in_row_is row steps (subject.Clock c) are = refl
in_row_is row steps (subject.Shared s) are = are s

-- ---- lines

-- the line of the next step, and the row behind it
pub next_lines : (p : PlacesValue) (n : NamesValue) (row new : List ℕ) (steps : List Account) (i k : ℕ) (z : Account)
    (text more : List ℕ) → i < length steps
    → (text ≡ each_below (line_at p n steps) i) × AreWriters row (take i steps) → k ≡ in_row row (get_or steps i z).subject
    → more ≡ text ++ account_line p n k (get_or steps i z) → new ≡ noted row (get_or steps i z)
    → (more ≡ each_below (line_at p n steps) (i + 1)) × AreWriters new (take (i + 1) steps)
next_lines p n row new steps i k z text more inside so_far source grown noted_is =
    let next : suc i ≡ i + 1 = omega arith in
    let a = get_or steps i z in
    let wrote : k ≡ writer_for (take i steps) a.subject = source ∙ in_row_is row (take i steps) a.subject so_far.1 in
    let line : account_line p n k a ≡ line_at p n steps i =
    ap (λ j. account_line p n j a) wrote
    ∙ sym (ap (λ o. option_map_or (λ (b : Account). account_line p n (writer_for (take i steps) b.subject) b) o [])
    (slice_get-get_or steps i z inside)) in
    let longer : take i steps ++ a ∷ [] ≡ take (i + 1) steps = sym (take-suc steps i z inside) ∙ ap (λ j. take j steps) next in (
      grown ∙ ap (λ l. text ++ l) line ∙ ap (λ l. l ++ line_at p n steps i) so_far.0 ∙ ap (each_below (line_at p n steps)) next,
      subst (λ l. AreWriters new l) longer
          (subst (λ r. AreWriters r (take i steps ++ a ∷ [])) (sym noted_is) (noted_writers row (take i steps) a so_far.1)),
    )
