use Rattle.std.proofs.Common.{◌≡◌, ◌++◌, take}
use Rattle.xk_show_page.specs.Page.{escaped}
use Rattle.xk_show_page.proofs.texts.push_escaped.Given as goal

-- the bytes so far were added
abbrev pub invariant-loop-byte : goal.invariant-loop-byte
invariant-loop-byte l = l.out.items ≡ l.fn.out.items ++ escaped (take l.byte-index l.text)
