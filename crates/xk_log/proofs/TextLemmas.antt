-- The text of a log in parts.
use Rattle.std.proofs.Common.{◌≡◌, ℕ, List, ◌++◌, length, take, drop, ap, sym, ◌∙◌, append_assoc}
use Rattle.xk_types.specs.declared.world.Entry.{Entry}
use Rattle.xk_io.proofs.LineLemmas.{lines_at}
use Rattle.xk_log.specs.LogText.{head_line, end_line, ended, entry_lines, log_text}

-- the lines so far, and what is left
pub log_at : (n : ℕ) (es : List Entry)
    → (ended head_line ++ entry_lines (take n es)) ++ (entry_lines (drop n es) ++ ended (end_line (length es))) ≡ log_text es
log_at n es =
    let tail = ended (end_line (length es)) in
    append_assoc (ended head_line) (entry_lines (take n es)) (entry_lines (drop n es) ++ tail)
    ∙ ap (λ l. ended head_line ++ l) (sym (append_assoc (entry_lines (take n es)) (entry_lines (drop n es)) tail) ∙ ap (λ l. l ++ tail) (lines_at _ n es))
