use Rattle.std.proofs.Common.{◌≡◌, drop, map}
use Rattle.xk_tree.specs.Tree.{word}
use Rattle.xk_names.specs.FaultList.{put_texts}
use Rattle.xk_names.proofs.capture.put_shared.Given as goal

abbrev pub invariant-loop-number : goal.invariant-loop-number
invariant-loop-number l = put_texts l.own (map (λ s. word s.name) (drop l.number-index l.shared)) ≡ put_texts l.fn.own (map (λ s. word s.name) l.shared)
