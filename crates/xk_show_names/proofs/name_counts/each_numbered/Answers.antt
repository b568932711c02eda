use Rattle.std.proofs.Common.{◌≡◌, ◌∙◌, ◌++◌, ◌∷◌, [], ◌+◌, map, get_or, ap, subst}
use Rattle.std.specs.Prelude.{if◌then◌else◌}
use Rattle.std.proofs.lemmas.List.{map-append}
use Rattle.xk_show_names.specs.ClockNames.{among, is_text}
use Rattle.xk_show_names.specs.NameCounts.{count_of}
use Rattle.xk_show_names.proofs.ClockNameLemmas.{next_name}
use Rattle.xk_show_names.proofs.name_counts.each_numbered.Goals as goal

pub loop-name-preserved : goal.loop-name-preserved
loop-name-preserved c =
    let names = c.args.names.now in
    let i = c.loop-name.name-index in
    let item = c.name-item.result in
    let old = c.loop-name.counts in
    let before = c.in_ok-before.before in
    let same : c.as_slice.result.now ≡ (get_or names i item).items = c.as_slice.ensures.value ∙ ap (λ v. v.items) c.name-item.is in
    let again : c.as_slice-in-loop-name.result.now ≡ (get_or names i item).items = c.as_slice-in-loop-name.ensures.value
    ∙ ap (λ v. v.items) c.name-item.is in
    next_name (λ v. v.items) names i item old c.count.new.counts (map (λ v. v.items) c.loop-name.list.items)
    (map (λ v. v.items) c.push.new.self.items) before
    c.loop-name-test.true c.loop-name.invariant
    (subst (λ s. before ≡ count_of old s) same c.in_ok-before.ensures.before)
    (λ x. subst (λ s. count_of c.count.new.counts x ≡ count_of old x + (if is_text x s then 1 else 0)) same (c.in_ok-before.ensures.more x))
    (ap (map (λ v. v.items)) c.in_ok-push.ensures.items
    ∙ map-append (λ v. v.items) c.loop-name.list.items (c.in_ok-among.field-0 ∷ [])
    ∙ ap (λ l. map (λ v. v.items) c.loop-name.list.items ++ l ∷ []) (c.in_ok-among.ensures ∙ ap (λ s. s ++ among before) again))
