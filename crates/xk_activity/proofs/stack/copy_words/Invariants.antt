use Rattle.std.proofs.Common.{◌≡◌, take}
use Rattle.xk_activity.proofs.stack.copy_words.Given as goal

-- those passed were copied
abbrev pub invariant-loop-word : goal.invariant-loop-word
invariant-loop-word l = (l.copy.items ≡ take l.word-index l.stack.items) × (l.copy.capacity ≡ l.stack.capacity)
