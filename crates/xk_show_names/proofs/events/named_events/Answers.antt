use Rattle.std.proofs.Common.{◌≡◌, ◌∙◌, ℕ, List, Bor, IfOk, map, string_bytes, subst}
use Rattle.xk_show_events.specs.Events.{places_of}
use Rattle.xk_show_names.proofs.BirthLemmas.{lines_seen}
use Rattle.xk_show_names.proofs.events.named_events.Goals as goal

pub returns : goal.returns
returns c =
    let e = c.args.legal.now in
    let p = places_of c.args.text.now c.args.origins.now in
    let shared = map {A = Bor (List ℕ)} {B = List ℕ} (λ x. x.now) c.args.shared.now in
    subst (λ (t : List ℕ). IfOk c.lines_of.result (λ lines. string_bytes lines ≡ t))
    (lines_seen p c.in_ok-places.places shared e.module.now e.core.now.world.arguments e.log.now c.in_ok-names.names c.deref-2.result.now
    c.in_ok-places.ensures (c.deref-2.ensures.value ∙ c.in_ok-steps.ensures) c.in_ok-names.ensures)
    c.lines_of.ensures
