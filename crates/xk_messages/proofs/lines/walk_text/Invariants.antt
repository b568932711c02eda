use Rattle.std.proofs.Common.{◌≡◌, take, string_bytes}
use Rattle.xk_messages.specs.Lines.{walk_text}
use Rattle.xk_messages.proofs.lines.walk_text.Given as goal

abbrev pub invariant-loop-visit : goal.invariant-loop-visit
invariant-loop-visit l = string_bytes l.text ≡ walk_text (take l.visit-index l.walk)
