use Rattle.std.proofs.Common.{◌≡◌, drop}
use Rattle.xk_tree.specs.Tree.{statements}
use Rattle.xk_names.specs.Captures.{outer_among, own_after}
use Rattle.xk_names.specs.FaultList.{put_texts}
use Rattle.xk_names.proofs.capture.+taken.Given as goal

abbrev pub invariant-take_block-loop-s : goal.invariant-take_block-loop-s
invariant-take_block-loop-s l = record {
  out : put_texts l.out (outer_among l.methods l.own (statements (drop l.s-index l.ss))) ≡ put_texts l.fn.out (outer_among l.methods l.fn.own (statements l.ss));
  own : own_after l.own (statements (drop l.s-index l.ss)) ≡ own_after l.fn.own (statements l.ss);
}
