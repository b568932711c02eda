use Rattle.std.proofs.Common.{◌≡◌, ◌+◌, ◌<◌, ◌≤◌, ◌∷◌, ◌++◌, length, take, drop, ap, sym, ◌∙◌, subst, arith}
use Rattle.std.specs.List.{prefix_len}
use Rattle.std.proofs.lemmas.List.{take_all, take_rest}
use Rattle.xk_log.specs.LogText.{isnt, blank, Lacks}
use Rattle.xk_log.proofs.LineLemmas.{front_lacks, front_ends}
use Rattle.xk_log.proofs.lines.words.Goals as goal

pub returns-then-length-line-clause-none : goal.returns-then-length-line-clause-none
returns-then-length-line-clause-none c =
    let line = c.args.line.now in
    let n = prefix_len (isnt blank) line in
    let all : length line ≤ n = omega (arith, c.until-length.ensures, c.if-length-line.true) in
    subst (Lacks blank) (take_all n line all) (front_lacks blank line)

pub returns-clause-found : goal.returns-clause-found
returns-clause-found c =
    let line = c.args.line.now in
    let n = c.until-length.result in
    let is : prefix_len (isnt blank) line ≡ n = sym c.until-length.ensures in
    let some : prefix_len (isnt blank) line < length line = omega (arith, is, c.if-length-line.false) in
    subst (λ k. line ≡ take k line ++ blank ∷ drop (k + 1) line) is (front_ends blank line some)
    ∙ ap (λ l. take n line ++ blank ∷ l) (sym (take_rest line (n + 1)))

pub returns-clause-first : goal.returns-clause-first
returns-clause-first c =
    let line = c.args.line.now in
    subst (λ k. Lacks blank (take k line)) (sym c.until-length.ensures) (front_lacks blank line)
