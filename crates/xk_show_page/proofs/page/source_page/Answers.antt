use Rattle.std.proofs.Common.{◌≡◌, ℕ, List, Bor, Some, IfOk, map, subst}
use Rattle.xk_show_events.specs.Events.{PlacesValue}
use Rattle.xk_show_picture.specs.Picture.{is_drawn, names_for, picture_text}
use Rattle.xk_show_page.specs.Page.{moments, page_by}
use Rattle.xk_show_page.proofs.page.source_page.Goals as goal

pub returns-clause-text : goal.returns-clause-text
returns-clause-text c =
    let e = c.args.legal.now in
    let m = e.module.now in
    let log = e.log.now in
    let last = e.core.now.world in
    let w = c.args.window in
    let shared = map {A = Bor (List ℕ)} {B = List ℕ} (λ x. x.now) c.args.shared.now in
    subst
    (λ (q : PlacesValue). IfOk c.page.result (λ d. d.text.items ≡ page_by (is_drawn w m log last)
    c.args.file.now c.args.text.now
    (picture_text q (names_for q (Some shared) w m log last) w m log last)
    (moments w q (names_for q (Some shared) w m log last) m log last)))
    c.in_ok-places.ensures c.page.ensures.text
