use Rattle.std.proofs.Common.{◌≡◌, ℕ, zero, suc, ◌+◌, ◌<◌, List, [], ◌∷◌, ◌++◌, length, map, drop, refl, sym, ap, ◌∙◌, arith, append_assoc, add-one}
use Rattle.xk_types.specs.declared.unit.ParamKind.{ParamKind}
use Rattle.xk_emit.proofs.units.push_kinds.Goals as goal

one_more : {X Y : Type 0} (k : ParamKind) (f : X → Y) (xs : List X) (i : ℕ) → i < length xs → map (λ _. k) (map f (drop i xs)) ≡ k ∷ map (λ _. k) (map f (drop (suc i) xs))
one_more k f [] i h = absurd (omega arith)
one_more k f (x ∷ xs) zero h = refl
one_more k f (x ∷ xs) (suc i) h = one_more k f xs i (omega arith)

next : {X Y : Type 0} (k : ParamKind) (f : X → Y) (xs : List X) (i : ℕ) → i < length xs → map (λ _. k) (map f (drop i xs)) ≡ k ∷ map (λ _. k) (map f (drop (i + 1) xs))
next k f xs i h = rw add-one (one_more k f xs i h)

pub loop-name-preserved : goal.loop-name-preserved
loop-name-preserved c =
    let kind = c.args.kind in
    let names = c.args.names.now in
    let at = c.loop-name._name-index in
    ap (λ (ks : List ParamKind). ks ++ map (λ _. kind) (map (λ x. x.now) (drop (at + 1) names))) c.in_ok-push.ensures.items
    ∙ append_assoc c.loop-name.kinds.items (kind ∷ []) (map (λ _. kind) (map (λ x. x.now) (drop (at + 1) names)))
    ∙ ap (λ ks. c.loop-name.kinds.items ++ ks) (sym (next kind (λ x. x.now) names at (omega arith)))
    ∙ c.loop-name.invariant
