use Rattle.std.proofs.Common.{◌≡◌, ◌∙◌, ◌+◌, suc, [], ◌∷◌, length, ap, sym, arith}
use Rattle.std.specs.Prelude.{max}
use Rattle.xk_show_events.specs.Worlds.{each_below}
use Rattle.xk_show_names.specs.Events.{clock_word}
use Rattle.xk_show_lanes.proofs.LaneLemmas.{longest_append}
use Rattle.xk_show_picture.specs.Picture.{widest_name}
use Rattle.xk_show_picture.proofs.words.widest_name.Goals as goal

pub loop-clock-preserved : goal.loop-clock-preserved
loop-clock-preserved c =
    let name = c.in_ok-name.name in
    let names = c.args.names.now in
    let k = c.loop-clock.clock in
    let long : c.len.result ≡ name.bytes.len = c.len.ensures in
    let next : suc k ≡ k + 1 = omega arith in
    c.greater-most.ensures
    ∙ ap (max c.loop-clock.most) (long ∙ name.bytes.ok.0 ∙ ap length c.in_ok-name.ensures)
    ∙ ap (λ n. max n (length (clock_word names k))) c.loop-clock.invariant
    ∙ sym (longest_append (each_below (λ j. clock_word names j ∷ []) k) (clock_word names k))
    ∙ ap (λ j. widest_name names j) next
