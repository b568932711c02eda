-- Rows by a table are those by rounds; and rows go on from round to round.
use Rattle.std.proofs.Common.{◌≡◌, ◌∙◌, ℕ, suc, ◌+◌, ◌-◌, ◌<◌, ◌≤◌, Bool, true, false, cond, List, ◌++◌, Option, length, ap, sym, arith, append_assoc}
use Rattle.std.specs.Str.{bytes_eq}
use Rattle.std.proofs.Math.Path.{fun_ext}
use Rattle.xk_show_names.specs.declared.accounts.Account.{Account}
use Rattle.xk_show_names.specs.ClockNames.{NamesValue}
use Rattle.xk_show_lanes.specs.declared.grid.Grid.{Grid}
use Rattle.xk_show_path.specs.Rounds.{Rounds}
use Rattle.xk_show_events.specs.declared.steps.RunStep.{RunStep}
use Rattle.xk_show_rounds.specs.RoundRows.{AreByRounds, head, head_and_rows, label, line, row, rows_from, rows_of, shown, shown_at, wide}

-- head and rows by a table that has, by rounds, each of these steps
pub rows_by_rounds : (r : Rounds) (g : Grid) (n : Option NamesValue) (steps : List Account) (table : List (List Account))
    (path : List RunStep) (text : List ℕ) → AreByRounds r steps table → path ≡ r.path
    → text ≡ head (wide (length path)) g ++ rows_of (length path) (wide (length path)) (shown_at g n table)
    → text ≡ head_and_rows r g n steps
rows_by_rounds r g n steps table path text placed along is =
    is
    ∙ ap (λ (p : List RunStep). head (wide (length p)) g ++ rows_of (length p) (wide (length p)) (shown_at g n table)) along
    ∙ ap (λ show. head (wide (length r.path)) g ++ rows_of (length r.path) (wide (length r.path)) show)
    (fun_ext (λ k. ap (shown g n) (placed k)))

-- what was kept of the stretch, and stands in the next round, is told apart as that of their rounds
alike : (show : ℕ → List ℕ) (first last next : ℕ) (held there : List ℕ) (b : Bool) → next ≡ suc last → held ≡ show first → there ≡ show next
    → bytes_eq held there ≡ b → bytes_eq (show first) (show (suc last)) ≡ b
alike show first last next held there b behind kept stands is =
    ap (λ l. bytes_eq l (show (suc last))) (sym kept) ∙ ap (bytes_eq held) (sym (stands ∙ ap show behind)) ∙ is

-- rows go on by whether the same stands in the next round
abbrev go_by : (show : ℕ → List ℕ) (width first last more : ℕ) → Bool → List ℕ
go_by show width first last more same =
    cond same (rows_from more width show first (suc last)) (row width show first last ++ rows_from more width show (suc last) (suc last))

-- where it does, the stretch has that round, too
pub same_goes_on : (show : ℕ → List ℕ) (width first last next : ℕ) (held there out : List ℕ) → next ≡ suc last → held ≡ show first
    → there ≡ show next → bytes_eq held there ≡ true
    → (more : ℕ) → out ++ rows_from more width show first next ≡ out ++ rows_from (suc more) width show first last
same_goes_on show width first last next held there out behind kept stands is more =
    ap (λ n. out ++ rows_from more width show first n) behind
    ∙ ap (λ b. out ++ go_by show width first last more b) (sym (alike show first last next held there true behind kept stands is))

-- where it doesn't, another stretch begins there, behind the row of this one
pub other_begins : (show : ℕ → List ℕ) (width first last next : ℕ) (held there out grown : List ℕ) → next ≡ suc last → held ≡ show first
    → there ≡ show next → bytes_eq held there ≡ false → grown ≡ out ++ line width (label first last) held
    → (more : ℕ) → grown ++ rows_from more width show next next ≡ out ++ rows_from (suc more) width show first last
other_begins show width first last next held there out grown behind kept stands is added more =
    ap (λ n. grown ++ rows_from more width show n n) behind
    ∙ ap (λ l. l ++ rows_from more width show (suc last) (suc last)) (added ∙ ap (λ h. out ++ line width (label first last) h) kept)
    ∙ append_assoc out (row width show first last) (rows_from more width show (suc last) (suc last))
    ∙ ap (λ b. out ++ go_by show width first last more b) (sym (alike show first last next held there false behind kept stands is))

-- from a round to the next one
pub rows_next : (show : ℕ → List ℕ) (width rounds last next old_first old_last new_first : ℕ) (out grown all : List ℕ)
    → last < rounds → old_last ≡ last → next ≡ last + 1
    → ((more : ℕ) → grown ++ rows_from more width show new_first next ≡ out ++ rows_from (suc more) width show old_first old_last)
    → out ++ rows_from (rounds - last) width show old_first last ≡ all
    → grown ++ rows_from (rounds - next) width show new_first next ≡ all
rows_next show width rounds last next old_first old_last new_first out grown all inside stood behind goes so_far =
    let one_more : suc (rounds - next) ≡ rounds - last = omega (arith, inside, behind) in
    goes (rounds - next)
    ∙ ap (λ n. out ++ rows_from n width show old_first old_last) one_more
    ∙ ap (λ l. out ++ rows_from (rounds - last) width show old_first l) stood
    ∙ so_far

-- no round comes behind the last one
pub rows_stop : (show : ℕ → List ℕ) (width rounds last first old_last : ℕ) (out all : List ℕ) → rounds ≤ last → old_last ≡ last
    → out ++ rows_from (rounds - last) width show first last ≡ all → out ++ row width show first old_last ≡ all
rows_stop show width rounds last first old_last out all done stood so_far =
    let none : rounds - last ≡ 0 = omega (arith, done) in
    ap (λ l. out ++ row width show first l) stood
    ∙ ap (λ n. out ++ rows_from n width show first last) (sym none)
    ∙ so_far

-- and the last stretch has its row
pub rows_end : (show : ℕ → List ℕ) (width first last : ℕ) (out held grown all : List ℕ) → out ++ row width show first last ≡ all
    → held ≡ show first → grown ≡ out ++ line width (label first last) held → grown ≡ all
rows_end show width first last out held grown all so_far kept added =
    added ∙ ap (λ h. out ++ line width (label first last) h) kept ∙ so_far
