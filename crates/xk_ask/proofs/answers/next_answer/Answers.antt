use Rattle.std.proofs.Common.{◌≡◌, ◌∙◌, ◌+◌, ◌∷◌, [], IfSome, subst, arith}
use Rattle.std.specs.Io.KnownBytes.{Consumes}
use Rattle.std.proofs.lemmas.Bool.{ne_eqb}
use Rattle.xk_ask.specs.Asking.{to_come}
use Rattle.xk_ask.proofs.LineLemmas.{passing_more, reading_more}
use Rattle.xk_ask.proofs.answers.next_answer.Goals as goal

pub loop-byte-preserved : goal.loop-byte-preserved
loop-byte-preserved g c =
    let b = c.in-Some.byte in
    let eaten : Consumes (to_come c.loop-byte.left (g.R.Source.remaining c.loop-byte.source)) (to_come c.next_byte.new.left (g.R.Source.remaining c.next_byte.new.source)) (b ∷ []) =
    subst (λ o. IfSome o (λ x. Consumes (to_come c.loop-byte.left (g.R.Source.remaining c.loop-byte.source))
    (to_come c.next_byte.new.left (g.R.Source.remaining c.next_byte.new.source)) (x ∷ []))) c.in-Some.is c.in_ok-byte.ensures.some in
    let one : Consumes (g.R.Source.remaining c.loop-byte.source) (g.R.Source.remaining c.next_byte.new.source) (b ∷ []) =
    subst (λ o. IfSome o (λ x. Consumes (g.R.Source.remaining c.loop-byte.source) (g.R.Source.remaining c.next_byte.new.source) (x ∷ [])))
    c.in-Some.is c.in_ok-byte.ensures.one in
    let fewer : c.loop-byte.left ≡ c.next_byte.new.left + 1 =
    subst (λ o. IfSome o (λ x. c.loop-byte.left ≡ c.next_byte.new.left + 1)) c.in-Some.is c.in_ok-byte.ensures.fewer in
    record {
      reading = reading_more _ _ _ c.loop-byte.line c.with-line.result b (ne_eqb b 10 c.if-byte-eq10.false) c.loop-byte.invariant.reading eaten c.with-line.ensures;
      passing = passing_more _ _ _ b _ _ _ (ne_eqb b 10 c.if-byte-eq10.false) fewer c.loop-byte.invariant.passing one;
      fewer = omega (arith, fewer, c.loop-byte.invariant.fewer);
      no_fault = c.in_ok-byte.ensures.no_fault ∙ c.loop-byte.invariant.no_fault;
    }
