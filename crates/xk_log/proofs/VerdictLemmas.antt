-- A text has one verdict at most: it can be left off at one place only.
use Rattle.std.proofs.Common.{◌≡◌, ℕ, suc, ◌+◌, ◌-◌, ◌<◌, ◌≤◌, true, List, [], ◌∷◌, ◌++◌, length, take, decimal, ap, sym, ◌∙◌, arith, refl, subst, inl, inr, true≢false, append_assoc, append-nil, length-append, lit<}
use Rattle.std.specs.List.{AllByRecursion}
use Rattle.std.specs.Char.{is_ascii_digit}
use Rattle.std.specs.Str.{all_ascii_digits}
use Rattle.std.specs.Coded.{le_prop}
use Rattle.std.proofs.Math.Seq.{take-append-add}
use Rattle.std.proofs.lemmas.Bool.{and_parts}
use Rattle.std.proofs.lemmas.List.{append_cancel_left}
use Rattle.std.proofs.lemmas.Fmt.{decimal_injective}
use Rattle.xk_types.specs.declared.world.Entry.{Entry}
use Rattle.xk_log.specs.LogText.{Lacks, line_feed, blank, head_line, entry_line, end_line, ended, entry_lines, log_text, most_entries, FitsEntry, IsLog}
use Rattle.xk_log.specs.Verdicts.{Place, Start, Within, Behind, before, IsPlace, line_at, Fits, IsOneLine, longest_line, IsWrong, Misfit, TooLong, Surplus, IsWrongAt, IsOpen, IsTruncated, Verdict, Whole, Wrong, Cut, Says}
use Rattle.xk_log.proofs.LineLemmas.{lacks_append, lacks_none, split_unique}
use Rattle.xk_log.proofs.NumberLemmas.{number_lacks, number_short, number_nonempty, number_digits, wide}

-- ---- lines

same_numbers : (a b m n : ℕ) (x : 0 < m) (y : 0 < n) → a ≡ b → m ≡ n
    → (let e : Entry = record { act = a; steps = m; at_least_one = x } in e) ≡ (let f : Entry = record { act = b; steps = n; at_least_one = y } in f)
same_numbers a b m n x y p q =
    let make : (k : ℕ) → 0 < k → Entry = λ k z. record { act = b; steps = k; at_least_one = z } in
    let first : (let e : Entry = record { act = a; steps = m; at_least_one = x } in e) ≡ make m x = ap
    (λ k. let e : Entry = record { act = k; steps = m; at_least_one = x } in e) p in
    let P : ℕ → Type 0 = λ k. (z : 0 < k) → make m x ≡ make k z in
    first ∙ subst P q (λ z. ap (make m) (le_prop x z)) y

entry_one_line : (e : Entry) → FitsEntry e → IsOneLine (entry_line e)
entry_one_line e h =
    lacks_append line_feed (decimal e.act) (blank ∷ decimal e.steps) (number_lacks line_feed e.act (lit< tt) h.act)
    (lacks_append line_feed (blank ∷ []) (decimal e.steps) refl (number_lacks line_feed e.steps (lit< tt) h.steps))

end_one_line : (n : ℕ) → n ≤ most_entries → IsOneLine (end_line n)
end_one_line n h = lacks_append line_feed (101 ∷ 110 ∷ 100 ∷ blank ∷ []) (decimal n) refl (number_lacks line_feed n (lit< tt) (omega (arith, h)))

pub entry_short : (e : Entry) → FitsEntry e → length (entry_line e) ≤ longest_line
entry_short e h = omega (arith, length-append (decimal e.act) (blank ∷ decimal e.steps), number_short e.act h.act, number_short e.steps h.steps)

-- an entry's line is the line of that entry alone
entry_line_unique : (e f : Entry) → FitsEntry e → FitsEntry f → entry_line e ≡ entry_line f → e ≡ f
entry_line_unique e f h k eq =
    let u = split_unique blank (decimal e.act) (decimal e.steps) (decimal f.act) (decimal f.steps)
    (number_lacks blank e.act (lit< tt) h.act) (number_lacks blank f.act (lit< tt) k.act) eq in
    same_numbers e.act f.act e.steps f.steps e.at_least_one f.at_least_one
    (decimal_injective e.act f.act (wide e.act h.act) (wide f.act k.act) u.0)
    (decimal_injective e.steps f.steps (wide e.steps h.steps) (wide f.steps k.steps) u.1)

digits_no_word : (ds x y : List ℕ) → 0 < length ds → all_ascii_digits ds ≡ true → 101 ∷ x ≡ ds ++ y → ⊥
digits_no_word [] x y some h e = omega (arith, some)
digits_no_word (d ∷ ds) x y some h e =
    let same : d ≡ 101 = cc in
    let digit : is_ascii_digit 101 ≡ true = subst (λ k. is_ascii_digit k ≡ true) same (and_parts (is_ascii_digit d) (all_ascii_digits ds) h).0 in
    true≢false (sym digit)

-- the last line is no entry's
pub end_is_no_entry : (n : ℕ) (e : Entry) → FitsEntry e → end_line n ≡ entry_line e → ⊥
end_is_no_entry n e h eq = digits_no_word (decimal e.act) _ _ (number_nonempty e.act h.act) (number_digits e.act h.act) eq

-- ---- what fits is a line

fits_short : (p : Place) (line : List ℕ) → IsPlace p → Fits p line → length line ≤ longest_line
fits_short Start line h k = let e : length line ≡ 8 = ap length k in omega (arith, e)
fits_short (Within es) line h (inl k) = subst (λ l. length l ≤ longest_line) (sym k.spelled) (entry_short k.entry k.fits)
fits_short (Within es) line h (inr k) = let e : length line ≡ length (end_line (length es)) = ap length k in omega (
  arith,
  e,
  number_short
      (length es) (omega (arith, h.short)),
)
fits_short (Behind es) line h k = absurd k

-- ---- no line at a place

-- no line that begins the rest fits the place
pub record NoLine (p : Place) (rest : List ℕ) : Type 0 where
  pub refuted : (line more : List ℕ) → IsOneLine line → rest ≡ line ++ line_feed ∷ more → Fits p line → ⊥

front_of : (n : ℕ) (a b : List ℕ) → length a < n → take n (a ++ line_feed ∷ b) ≡ a ++ line_feed ∷ take (n - length a - 1) b
front_of n a b h =
    let m = n - length a - 1 in
    let e : length a + suc m ≡ n = omega arith in
    subst (λ k. take k (a ++ line_feed ∷ b) ≡ a ++ line_feed ∷ take m b) e (take-append-add a (line_feed ∷ b) (suc m))

no_line_wrong : (p : Place) (rest : List ℕ) → IsPlace p → IsWrong p rest → NoLine p rest
no_line_wrong p rest h (Misfit bad others one is unfit) = record {
  refuted = λ line more single eq fits. let u = split_unique line_feed bad others line more one single (sym is
      ∙ eq) in unfit (subst (Fits p) (sym u.0) fits);
}
no_line_wrong p rest h (TooLong long one) = record {
  refuted = λ line more single eq fits.
      let short : length line ≤ longest_line = fits_short p line h fits in
      let front : take (longest_line + 1) rest ≡ line ++ line_feed ∷ take (longest_line + 1 - length line - 1) more =
      ap (take (longest_line + 1)) eq ∙ front_of (longest_line + 1) line more (omega arith) in
      lacks_none line_feed line _ (subst (Lacks line_feed) front one);
}
no_line_wrong p rest h (Surplus es is some) = record { refuted = λ line more single eq fits. subst (λ q. Fits q line) is fits }

no_line_open : (p : Place) (rest : List ℕ) → IsOneLine rest → NoLine p rest
no_line_open p rest one = record { refuted = λ line more single eq fits. lacks_none line_feed line more (subst (Lacks line_feed) eq one) }

no_line_behind : (es : List Entry) (rest : List ℕ) → NoLine (Behind es) rest
no_line_behind es rest = record { refuted = λ line more single eq fits. fits }

-- ---- entries

-- the rest begins with no line of an entry, where there may be one more than count
record NoEntry (count : ℕ) (rest : List ℕ) : Type 0 where
  refused : (e : Entry) (more : List ℕ) → count < most_entries → FitsEntry e → rest ≡ entry_line e ++ line_feed ∷ more → ⊥

no_entry : (es : List Entry) (rest : List ℕ) → NoLine (Within es) rest → NoEntry (length es) rest
no_entry es rest h = record {
  refused = λ e more room fits eq. h.refuted (entry_line e) more (entry_one_line e fits) eq (inl
      (record { entry = e; room = room; fits = fits; spelled = refl }));
}

no_entry_at_end : (count n : ℕ) (rest : List ℕ) → n ≤ most_entries → NoEntry count (end_line n ++ line_feed ∷ rest)
no_entry_at_end count n rest h = record {
  refused = λ e more room fits eq.
      end_is_no_entry n e fits (split_unique line_feed (end_line n) rest (entry_line e) more (end_one_line n h) (entry_one_line e fits) eq).0;
}

regroup : (line lines rest : List ℕ) → ((line ++ line_feed ∷ []) ++ lines) ++ rest ≡ line ++ line_feed ∷ (lines ++ rest)
regroup line lines rest = append_assoc (line ++ line_feed ∷ []) lines rest ∙ append_assoc line (line_feed ∷ []) (lines ++ rest)

same_entries : (k l : ℕ) (es fs : List Entry) (a b : List ℕ) → k ≤ most_entries → l ≤ most_entries → k + length fs ≡ l + length es
    → AllByRecursion FitsEntry es → AllByRecursion FitsEntry fs → NoEntry k a → NoEntry l b
    → entry_lines es ++ a ≡ entry_lines fs ++ b → (es ≡ fs) × (a ≡ b)
same_entries k l [] [] a b x y d h i m n eq = (refl, eq)
same_entries k l [] (f ∷ fs) a b x y d h i m n eq =
    absurd (m.refused f (entry_lines fs ++ b) (omega (arith, d, y)) i.0 (eq ∙ regroup (entry_line f) (entry_lines fs) b))
same_entries k l (e ∷ es) [] a b x y d h i m n eq =
    absurd (n.refused e (entry_lines es ++ a) (omega (arith, d, x)) h.0 (sym eq ∙ regroup (entry_line e) (entry_lines es) a))
same_entries k l (e ∷ es) (f ∷ fs) a b x y d h i m n eq =
    let u = split_unique line_feed (entry_line e) (entry_lines es ++ a) (entry_line f) (entry_lines fs ++ b)
    (entry_one_line e h.0) (entry_one_line f i.0) (sym (regroup (entry_line e) (entry_lines es) a) ∙ eq
    ∙ regroup (entry_line f) (entry_lines fs) b) in
    let less : k + length fs ≡ l + length es = omega (arith, d) in
    let rest = same_entries k l es fs a b x y less h.1 i.1 m n u.1 in
    (ap (λ z. z ∷ es) (entry_line_unique e f h.0 i.0 u.0) ∙ ap (λ z. f ∷ z) rest.0, rest.1)

-- ---- places

end_group : (lines last rest : List ℕ) → (lines ++ (last ++ line_feed ∷ [])) ++ rest ≡ lines ++ (last ++ line_feed ∷ rest)
end_group lines last rest = append_assoc lines (last ++ line_feed ∷ []) rest ∙ ap (λ l. lines ++ l) (append_assoc last (line_feed ∷ []) rest)

turned : (k l : ℕ) → k + l ≡ l + k
turned k l = omega arith

within_both : (es fs : List Entry) (a b : List ℕ) → IsLog es → IsLog fs → NoEntry (length es) a → NoEntry (length fs) b
    → entry_lines es ++ a ≡ entry_lines fs ++ b → (es ≡ fs) × (a ≡ b)
within_both es fs a b h i m n eq = same_entries (length es) (length fs) es fs a b h.short i.short (turned (length es)
    (length fs)) h.each i.each m n eq

within_behind : (es fs : List Entry) (rest tail : List ℕ) → IsLog es → IsLog fs → NoLine (Within es) rest
    → before (Within es) ++ rest ≡ before (Behind fs) ++ tail → ⊥
within_behind es fs rest tail h i m eq =
    let last = end_line (length fs) in
    let body : entry_lines es ++ rest ≡ entry_lines fs ++ (last ++ line_feed ∷ tail) = append_cancel_left (ended head_line) _ _ eq
    ∙ end_group (entry_lines fs) last tail in
    let u = within_both es fs rest (last ++ line_feed ∷ tail) h i (no_entry es rest m) (no_entry_at_end (length fs) (length fs) tail i.short) body in
    m.refuted last tail (end_one_line (length fs) i.short) u.1 (inr (ap (λ z. end_line (length z)) (sym u.0)))

behind_both : (es fs : List Entry) (rest tail : List ℕ) → IsLog es → IsLog fs
    → before (Behind es) ++ rest ≡ before (Behind fs) ++ tail → (es ≡ fs) × (rest ≡ tail)
behind_both es fs rest tail h i eq =
    let first = end_line (length es) in
    let last = end_line (length fs) in
    let body : entry_lines es ++ (first ++ line_feed ∷ rest) ≡ entry_lines fs ++ (last ++ line_feed ∷ tail) =
    sym (end_group (entry_lines es) first rest) ∙ append_cancel_left (ended head_line) _ _ eq ∙ end_group (entry_lines fs) last tail in
    let u = within_both es fs (first ++ line_feed ∷ rest) (last ++ line_feed ∷ tail) h i
    (no_entry_at_end (length es) (length es) rest h.short) (no_entry_at_end (length fs) (length fs) tail i.short) body in
    (u.0, (split_unique line_feed first rest last tail (end_one_line (length es) h.short) (end_one_line (length fs) i.short) u.1).1)

-- a text where no further line fits is left off at one place
one_place : (p q : Place) (rest tail : List ℕ) → IsPlace p → IsPlace q → NoLine p rest → NoLine q tail
    → before p ++ rest ≡ before q ++ tail → (p ≡ q) × (rest ≡ tail)
one_place Start Start rest tail h i m n eq = (refl, eq)
one_place Start (Within fs) rest tail h i m n eq = absurd (m.refuted head_line (entry_lines fs ++ tail) refl eq refl)
one_place Start (Behind fs) rest tail h i m n eq = absurd (m.refuted head_line ((entry_lines fs ++ ended (end_line
    (length fs))) ++ tail) refl eq refl)
one_place (Within es) Start rest tail h i m n eq = absurd (n.refuted head_line (entry_lines es ++ rest) refl (sym eq) refl)
one_place (Behind es) Start rest tail h i m n eq = absurd (n.refuted head_line ((entry_lines es ++ ended (end_line (length es))) ++ rest) refl
    (sym eq) refl)
one_place (Within es) (Within fs) rest tail h i m n eq =
    let u = within_both es fs rest tail h i (no_entry es rest m) (no_entry fs tail n) (append_cancel_left (ended head_line) _ _ eq) in
    (ap Within u.0, u.1)
one_place (Within es) (Behind fs) rest tail h i m n eq = absurd (within_behind es fs rest tail h i m eq)
one_place (Behind es) (Within fs) rest tail h i m n eq = absurd (within_behind fs es tail rest i h n (sym eq))
one_place (Behind es) (Behind fs) rest tail h i m n eq = let u = behind_both es fs rest tail h i eq in (ap Behind u.0, u.1)

-- ---- verdicts

-- what behind a log's text is wrong isn't nothing
nothing_wrong : (p : Place) → IsWrong p [] → ⊥
nothing_wrong p (Misfit line more one is unfit) = let n : 0 ≡ length (line ++ line_feed ∷ more) = ap length is in omega
    (arith, n, length-append line (line_feed ∷ more))
nothing_wrong p (TooLong long one) = omega (arith, long)
nothing_wrong p (Surplus es is some) = omega (arith, some)

-- what isn't ended, and is no longer than a line, isn't wrong where a line may stand
open_right : (p : Place) (rest : List ℕ) → IsOpen p → IsOneLine rest → length rest ≤ longest_line → IsWrong p rest → ⊥
open_right p rest o one short (Misfit line more single is unfit) = lacks_none line_feed line more (subst (Lacks line_feed) is one)
open_right p rest o one short (TooLong long begun) = omega (arith, long, short)
open_right p rest o one short (Surplus es is some) = subst IsOpen is o

whole_wrong : (text : List ℕ) (es : List Entry) (line : ℕ) → Says (Whole es) text → IsWrongAt text line → ⊥
whole_wrong text es line h k =
    let is : before (Behind es) ++ [] ≡ before k.place ++ k.rest = append-nil (log_text es) ∙ sym h.1 ∙ k.split in
    let u = one_place (Behind es) k.place [] k.rest h.0 k.fits (no_line_behind es []) (no_line_wrong k.place k.rest k.fits k.wrong) is in
    nothing_wrong k.place (subst (IsWrong k.place) (sym u.1) k.wrong)

whole_cut : (text : List ℕ) (es : List Entry) → Says (Whole es) text → IsTruncated text → ⊥
whole_cut text es h k =
    let is : before (Behind es) ++ [] ≡ before k.place ++ k.rest = append-nil (log_text es) ∙ sym h.1 ∙ k.split in
    let u = one_place (Behind es) k.place [] k.rest h.0 k.fits (no_line_behind es []) (no_line_open k.place k.rest k.one_line) is in
    subst IsOpen (sym u.0) k.open_yet

wrong_cut : (text : List ℕ) (line : ℕ) → IsWrongAt text line → IsTruncated text → ⊥
wrong_cut text line h k =
    let u = one_place h.place k.place h.rest k.rest h.fits k.fits (no_line_wrong h.place h.rest h.fits h.wrong)
    (no_line_open k.place k.rest k.one_line) (sym h.split ∙ k.split) in
    open_right k.place k.rest k.open_yet k.one_line k.short (subst (IsWrong k.place) u.1 (subst (λ p. IsWrong p h.rest) u.0 h.wrong))

pub one_verdict : (text : List ℕ) (v w : Verdict) → Says v text → Says w text → v ≡ w
one_verdict text (Whole es) (Whole fs) h k =
    let u = behind_both es fs [] [] h.0 k.0 (ap (λ l. l ++ []) (sym h.1 ∙ k.1)) in ap Whole u.0
one_verdict text (Whole es) (Wrong line) h k = absurd (whole_wrong text es line h k)
one_verdict text (Whole es) Cut h k = absurd (whole_cut text es h k)
one_verdict text (Wrong line) (Whole es) h k = absurd (whole_wrong text es line k h)
one_verdict text (Wrong line) (Wrong other) h k =
    let u = one_place h.place k.place h.rest k.rest h.fits k.fits (no_line_wrong h.place h.rest h.fits h.wrong)
    (no_line_wrong k.place k.rest k.fits k.wrong) (sym h.split ∙ k.split) in
    ap Wrong (h.number ∙ ap line_at u.0 ∙ sym k.number)
one_verdict text (Wrong line) Cut h k = absurd (wrong_cut text line h k)
one_verdict text Cut (Whole es) h k = absurd (whole_cut text es k h)
one_verdict text Cut (Wrong line) h k = absurd (wrong_cut text line k h)
one_verdict text Cut Cut h k = refl

-- no log's text begins another's
pub no_log_begins_another : (es fs : List Entry) (more : List ℕ) → IsLog es → IsLog fs → log_text es ++ more ≡ log_text fs → es ≡ fs
no_log_begins_another es fs more h k e = (behind_both es fs more [] h k (e ∙ sym (append-nil (log_text fs)))).0
