-- Reading one line.
use Rattle.std.proofs.Common.{◌≡◌, ℕ, ◌+◌, ◌^◌, ◌<◌, ◌≤◌, List, ◌∷◌, ◌++◌, length, get_or, decimal, Option, Some, None, IfSome, IfNone, ap, sym, ◌∙◌, arith, subst, inl, inr, lit<}
use Rattle.std.proofs.lemmas.Fmt.{decimal_injective}
use Rattle.xk_types.specs.declared.world.Entry.{Entry}
use Rattle.xk_log.specs.declared.fault.LogFault.TheVariants as fault
use Rattle.xk_log.specs.declared.progress.Stage.{Stage}
use Rattle.xk_log.specs.declared.progress.Stage.TheVariants as stage
use Rattle.xk_log.specs.LogText.{Lacks, blank, entry_line, most_entries, FitsEntry}
use Rattle.xk_log.specs.Verdicts.{Within, Fits}
use Rattle.xk_log.specs.Numbers.{value_from}
use Rattle.xk_log.specs.Reading.{place_of, Refuses}
use Rattle.xk_log.proofs.LineLemmas.{split_unique}
use Rattle.xk_log.proofs.NumberLemmas.{none_some, number_found, number_again, number_leads, number_nonempty, number_lacks, wide}
use Rattle.xk_log.proofs.VerdictLemmas.{end_is_no_entry}

-- ---- numbers

pub found_from : (r : Option ℕ) (ds : List ℕ) → r ≡ value_from 0 ds → 0 < length ds → (get_or ds 0 0 ≡ 48 → length ds ≡ 1)
    → IfSome r (λ n. ds ≡ decimal n)
found_from None ds e some lead = tt
found_from (Some n) ds e some lead = number_found ds n some lead (sym e)

pub none_from : (r : Option ℕ) (ds : List ℕ) → r ≡ value_from 0 ds → IfNone r ((n : ℕ) → n < 2 ^ 32 → ¬ (ds ≡ decimal n))
none_from None ds e = λ n h is. none_some n (e ∙ ap (value_from 0) is ∙ number_again n h)
none_from (Some n) ds e = tt

pub no_digits : (ds : List ℕ) (n : ℕ) → length ds ≡ 0 → n < 2 ^ 32 → ds ≡ decimal n → ⊥
no_digits ds n none h is = let some = number_nonempty n h in let same : length ds ≡ length (decimal n) = ap length is in omega
    (arith, some, same, none)

pub leading_zero : (ds : List ℕ) (n : ℕ) → get_or ds 0 0 ≡ 48 → 1 < length ds → n < 2 ^ 32 → ds ≡ decimal n → ⊥
leading_zero ds n zero some h is =
    let one : length (decimal n) ≡ 1 = number_leads n h (ap (λ l. get_or l 0 0) (sym is) ∙ zero) in
    let same : length ds ≡ length (decimal n) = ap length is in
    omega (arith, one, same, some)

-- ---- lines of entries

pub parts_of : (line x y : List ℕ) (e : Entry) → line ≡ x ++ blank ∷ y → Lacks blank x → FitsEntry e → line ≡ entry_line e
    → (x ≡ decimal e.act) × (y ≡ decimal e.steps)
parts_of line x y e split first fits is =
    split_unique blank x y (decimal e.act) (decimal e.steps) first (number_lacks blank e.act (lit< tt) fits.act) (sym split ∙ is)

pub no_steps : (line x y : List ℕ) (e : Entry) (n : ℕ) → line ≡ x ++ blank ∷ y → Lacks blank x → y ≡ decimal n → n ≡ 0 → FitsEntry e
    → line ≡ entry_line e → ⊥
no_steps line x y e n split first is zero fits eq =
    let same : 0 ≡ e.steps = decimal_injective 0 e.steps (lit< tt) (wide e.steps fits.steps)
    (ap decimal (sym zero) ∙ sym is ∙ (parts_of line x y e split first fits eq).1) in
    omega (arith, same, e.at_least_one)

-- ---- lines behind the first

pub refused_full : (s : Stage) (es : List Entry) (e : Entry) (line : List ℕ) (k : ℕ) → s ≡ stage.Within → k ≡ length es + 2 → FitsEntry e
    → line ≡ entry_line e
    → most_entries ≤ length es → Refuses (place_of s es) line (fault.Grammar k)
refused_full s es e line k is number fits spelled full =
    let unfit : Fits (Within es) line → ⊥ = λ h. elim h [
      | inl entry ↦ omega (arith, entry.room, full)
      | inr last ↦ end_is_no_entry (length es) e fits (sym last ∙ spelled)
    ] in
    let P : Stage → Type 0 = λ z. Refuses (place_of z es) line (fault.Grammar k) in
    subst P (sym is) (number, unfit)

pub refused_memory : (s : Stage) (es : List Entry) (e : Entry) (line : List ℕ) → s ≡ stage.Within → FitsEntry e → line ≡ entry_line e
    → Refuses (place_of s es) line fault.OutOfMemory
refused_memory s es e line is fits spelled =
    let P : Stage → Type 0 = λ z. Refuses (place_of z es) line fault.OutOfMemory in
    subst P (sym is) (e, fits, spelled)

-- what is so where there is no entry
pub none_of : (line : List ℕ) (r : Option Entry) → ((e : Entry) → FitsEntry e → line ≡ entry_line e → ⊥) → IfNone r ((e : Entry) → FitsEntry e
    → ¬ (line ≡ entry_line e))
none_of line None h = h
none_of line (Some e) h = tt
