use Rattle.std.proofs.Common.{◌≡◌, ◌≤◌, drop}
use Rattle.xk_explain_words.specs.declared.comments.Part.TheVariants as part
use Rattle.xk_explain_words.specs.Comments.{tokens_end}
use Rattle.xk_explain_words.proofs.comments.tokens_end.Given as goal

-- what is left, behind the tokens so far, ends where the text's tokens do
abbrev pub invariant-loop-i : goal.invariant-loop-i
invariant-loop-i l = record {
  end : tokens_end l.part l.i l.end (drop l.i l.text) ≡ tokens_end part.Tokens 0 0 l.text;
  within : l.end ≤ l.i;
}
