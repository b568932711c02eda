-- Where nothing weighs up to a deed the path begins; else it goes on.
use Rattle.std.proofs.Common.{◌≡◌, ◌∙◌, ◌+◌, ◌-◌, ◌<◌, [], ◌∷◌, ◌++◌, sym, ap, arith, append_assoc}
use Rattle.std.proofs.lemmas.List.{append-nil}
use Rattle.xk_span.specs.declared.marks.Mark.{Mark}
use Rattle.xk_span.specs.Paths.{back_from}
use Rattle.xk_span.specs.Times.{mark_at}
use Rattle.xk_span.proofs.BackLemmas.{back_ends, back_goes_on}
use Rattle.xk_span.proofs.paths.push_back.Goals as goal

pub returns-then-link-eq0 : goal.returns-then-link-eq0
returns-then-link-eq0 c =
    let links = c.args.links.now in
    let path = c.loop.path.items in
    let less : c.loop.counter < c.args.j = omega (arith, c.loop-test.true) in
    let none : (mark_at links c.loop.at).time ≡ 0 =
    ap (λ (m : Mark). m.time) (sym c.mark_at-link.ensures) ∙ c.if-link-eq0.true in
    sym (append-nil path) ∙ ap (λ l. path ++ l) (sym (back_ends links c.args.j c.loop.counter c.loop.at less none))
    ∙ c.loop.invariant

pub loop-preserved : goal.loop-preserved
loop-preserved c =
    let links = c.args.links.now in
    let path = c.loop.path.items in
    let less : c.loop.counter < c.args.j = omega (arith, c.loop-test.true) in
    let same = ap (λ (m : Mark). m.time) c.mark_at-link.ensures in
    let some : (mark_at links c.loop.at).time ≡ 0 → ⊥ = λ z. omega (arith, c.if-link-eq0.false, same, z) in
    let rest = c.args.j - (c.loop.counter + 1) in
    ap (λ l. l ++ back_from links rest c.mark_at-link.result.from) c.in_ok-push.ensures.items
    ∙ append_assoc path (c.mark_at-link.result.from ∷ []) (back_from links rest c.mark_at-link.result.from)
    ∙ ap (λ (m : Mark). path ++ (m.from ∷ back_from links rest m.from)) c.mark_at-link.ensures
    ∙ ap (λ l. path ++ l) (sym (back_goes_on links c.args.j c.loop.counter c.loop.at less some))
    ∙ c.loop.invariant
