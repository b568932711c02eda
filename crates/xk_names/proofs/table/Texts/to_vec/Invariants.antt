use Rattle.std.proofs.Common.{◌≡◌, map, take}
use Rattle.xk_names.proofs.TableLemmas.{listed}
use Rattle.xk_names.proofs.table.Texts.to_vec.Given as goal

abbrev pub invariant-loop-name : goal.invariant-loop-name
invariant-loop-name l = map (λ x. x.now) l.names.items ≡ listed (take l.name-index l.name-items)
