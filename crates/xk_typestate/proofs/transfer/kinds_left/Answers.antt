-- a row as what may be left
use Rattle.std.proofs.Common.{sym, subst}
use Rattle.xk_types.specs.Walk.{After, MayBecome, stays}
use Rattle.xk_typestate.proofs.transfer.kinds_left.Goals as goal

pub returns-in-Ok-clause-on : goal.returns-in-Ok-clause-on
returns-in-Ok-clause-on c = λ k.
    let row = c.in-Ok.ensures in
    let P : After → Type 0 = λ a. MayBecome a k in
    (λ t. subst P (sym row.1) ((row.2 k).0 t), λ h. (row.2 k).1 (subst P row.1 h))

pub returns-in-Err-clause-on : goal.returns-in-Err-clause-on
returns-in-Err-clause-on c = λ k.
    let P : After → Type 0 = λ a. MayBecome a k in
    (λ t. absurd (c.empty.ensures.has k t), λ h. absurd (subst P (c.in-Err.ensures) h))

pub returns-in-Err-clause-past : goal.returns-in-Err-clause-past
returns-in-Err-clause-past c = λ k.
    let P : After → Type 0 = λ a. MayBecome (stays c.args.kind a) k in
    (λ t. absurd (c.empty-in-Err.ensures.has k t), λ h. absurd (subst P (c.in-Err.ensures) h))
