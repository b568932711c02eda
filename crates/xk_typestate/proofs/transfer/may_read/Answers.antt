-- the slot, where there is one
use Rattle.xk_typestate.proofs.transfer.may_read.Goals as goal

pub returns-in-Some : goal.returns-in-Some
returns-in-Some c = λ go. rw c.in-Some.is (c.read.ensures go)
