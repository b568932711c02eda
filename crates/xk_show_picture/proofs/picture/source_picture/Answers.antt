use Rattle.std.proofs.Common.{◌≡◌, ℕ, List, Bor, IfOk, map, subst}
use Rattle.xk_show_events.specs.Events.{PlacesValue}
use Rattle.xk_show_picture.specs.Picture.{named_picture_text}
use Rattle.xk_show_picture.proofs.picture.source_picture.Goals as goal

pub returns-clause-text : goal.returns-clause-text
returns-clause-text c =
    let e = c.args.legal.now in
    let shared = map {A = Bor (List ℕ)} {B = List ℕ} (λ x. x.now) c.args.shared.now in
    subst
    (λ (q : PlacesValue). IfOk c.picture.result (λ d. d.text.items ≡ named_picture_text q shared c.args.window e.module.now e.log.now e.core.now.world))
    c.in_ok-places.ensures c.picture.ensures.text
