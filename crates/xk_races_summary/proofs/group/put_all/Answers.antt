use Rattle.std.proofs.Common.{◌≡◌, ◌∙◌, true, ◌+◌, ◌++◌, [], ◌∷◌, get_or, map, take, sym, subst, ap}
use Rattle.std.proofs.lemmas.List.{append-nil, append_assoc, map-append, take_more}
use Rattle.xk_races_summary.specs.Accesses.{is_placed, single}
use Rattle.xk_races_summary.proofs.GroupLemmas.{one_more_placed}
use Rattle.xk_races_summary.proofs.group.put_all.Goals as goal

pub loop-x-init : goal.loop-x-init
loop-x-init c = λ z h. subst (λ gs. is_placed gs z ≡ true) (append-nil c.args.groups.now.items) h

pub loop-x-preserved : goal.loop-x-preserved
loop-x-preserved c =
    λ z h.
    let first = c.args.groups.now.items in
    let list = c.args.list.now in
    let i = c.loop-x.x-index in
    let x = get_or list i _ in
    let more : first ++ map single (take (i + 1) list) ≡ (first ++ map single (take i list)) ++ single x ∷ [] =
    ap (λ xs. first ++ map single xs) (take_more list i _ c.loop-x-test.true)
    ∙ ap (λ gs. first ++ gs) (map-append single (take i list) (x ∷ []))
    ∙ sym (append_assoc first (map single (take i list)) (single x ∷ [])) in
    one_more_placed (first ++ map single (take i list)) c.put_in_group.new.groups.items x z (λ g. c.in_ok-put_in_group.ensures.kept z (c.loop-x.invariant z g))
    c.in_ok-put_in_group.ensures.there (subst (λ gs. is_placed gs z ≡ true) more h)
