use Rattle.std.proofs.Common.{◌≡◌, drop, None, option_map}
use Rattle.xk_explain_kinds.specs.Declarations.{declared, declared_here}
use Rattle.xk_explain_kinds.specs.Kinds.{is_seen, last_of}
use Rattle.xk_explain_kinds.proofs.kinds.visible.Given as goal

-- of those that are left, behind the one found, the last is that of all
abbrev pub invariant-loop-d : goal.invariant-loop-d
invariant-loop-d l =
    last_of (is_seen l.name l.at) (option_map (λ d. declared d) l.found) (declared_here (drop l.d-index l.all))
    ≡ last_of (is_seen l.name l.at) None (declared_here l.all)
