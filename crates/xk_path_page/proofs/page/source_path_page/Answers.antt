use Rattle.std.proofs.Common.{◌≡◌, ℕ, List, Bor, Some, IfOk, map, subst}
use Rattle.xk_show_events.specs.Events.{PlacesValue}
use Rattle.xk_show_picture.specs.Picture.{is_drawn, names_for}
use Rattle.xk_show_path.specs.PathPicture.{path_picture_text}
use Rattle.xk_show_page.specs.Page.{moments}
use Rattle.xk_path_page.specs.PathPage.{path_page_by, path_told}
use Rattle.xk_path_page.proofs.page.source_path_page.Goals as goal

pub returns-clause-text : goal.returns-clause-text
returns-clause-text c =
    let e = c.args.ended.now in
    let m = e.module.now in
    let log = e.log.items in
    let last = e.core.world in
    let w = c.args.window in
    let shared = map {A = Bor (List ℕ)} {B = List ℕ} (λ x. x.now) c.args.shared.now in
    subst
    (λ (q : PlacesValue). IfOk c.page.result (λ d. d.text.items ≡ path_page_by (is_drawn w m log last)
    c.args.file.now c.args.text.now
    (path_picture_text q (Some shared) w m log last)
    (moments w q (names_for q (Some shared) w m log last) m log last)
    (path_told q w m last.arguments log)))
    c.in_ok-places.ensures c.page.ensures.text
