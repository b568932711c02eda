use Rattle.std.proofs.Common.{◌≡◌, drop}
use Rattle.std.specs.List.{list_any}
use Rattle.xk_tree.specs.Tree.{words}
use Rattle.xk_hints.specs.Deeds.{is_named}
use Rattle.xk_hints.proofs.deeds.is_among.Given as goal

-- it is none before what is left
abbrev pub invariant-loop-w : goal.invariant-loop-w
invariant-loop-w l = list_any (is_named l.x) (words (drop l.w-index l.ws)) ≡ list_any (is_named l.x) (words l.ws)
