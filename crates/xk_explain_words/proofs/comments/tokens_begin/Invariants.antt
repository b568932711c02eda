use Rattle.std.proofs.Common.{◌≡◌, ◌+◌, drop}
use Rattle.xk_explain_words.specs.declared.comments.Part.TheVariants as part
use Rattle.xk_explain_words.specs.Comments.{tokens_begin}
use Rattle.xk_explain_words.proofs.comments.tokens_begin.Given as goal

-- no token began so far
abbrev pub invariant-loop-i : goal.invariant-loop-i
invariant-loop-i l = tokens_begin l.part (drop l.i l.text) + l.i ≡ tokens_begin part.Tokens l.text
