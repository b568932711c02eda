use Rattle.std.proofs.Common.{◌≡◌, ◌∙◌, refl, ap, subst, false}
use Rattle.std.specs.Prelude.{IfSome}
use Rattle.xk_types.specs.Schedule.{all_ended}
use Rattle.xk_ask.specs.Answers.{most_bytes}
use Rattle.xk_ask.specs.Asking.{TakesAnswer, TakesLine, to_come}
use Rattle.xk_ask.proofs.PlayLemmas.{playing_starts, playing_on, playing_breaks, playing_breaks_some, playing_ends_early, playing_ends_early_some, playing_some, playing_stops, playing_stops_some, playing_out, using_ends, using_on, using_starts, failed}
use Rattle.xk_ask.proofs.game.play_on.Goals as goal

pub loop-answer-init : goal.loop-answer-init
loop-answer-init g c = record {
  playing = playing_starts c.args.text.now c.args.game.now.driver c.args.game.now.log.items (g.E.Sink.contents c.args.err.now)
      (to_come most_bytes (g.R.Source.remaining c.args.input.now));
  using = using_starts c.args.game.now.driver.module_run c.args.game.now.driver.world (g.R.Source.remaining c.args.input.now);
  no_read_fault = refl;
  no_write_fault = refl;
}

pub returns-in_err-answer-clause-played : goal.returns-in_err-answer-clause-played
returns-in_err-answer-clause-played g c = failed _ _ c.from_residual.ensures.0

pub returns-in_err-answer-clause-told : goal.returns-in_err-answer-clause-told
returns-in_err-answer-clause-told g c = failed _ _ c.from_residual.ensures.0

pub returns-in_err-answer-clause-begins : goal.returns-in_err-answer-clause-begins
returns-in_err-answer-clause-begins g c = playing_stops _ _ _ _ _ _ _ _ _ c.loop-answer.invariant.playing

pub returns-in_err-answer-clause-begins_some : goal.returns-in_err-answer-clause-begins_some
returns-in_err-answer-clause-begins_some g c = playing_stops_some _ _ _ _ _ _ _ _ _ c.loop-answer.invariant.playing

pub loop-answer-preserved : goal.loop-answer-preserved
loop-answer-preserved g c =
    let l = c.loop-answer in
    let x = c.in-Some.answer in
    let takes : TakesAnswer x (to_come l.left (g.R.Source.remaining l.input)) (to_come c.awaited.new.left (g.R.Source.remaining c.awaited.new.input)) =
    subst (λ o. IfSome o (λ y. TakesAnswer y (to_come l.left (g.R.Source.remaining l.input)) (to_come c.awaited.new.left (g.R.Source.remaining c.awaited.new.input))))
    c.in-Some.is c.in_ok-answer.ensures.some in
    let line : TakesLine l.left (g.R.Source.remaining l.input) c.awaited.new.left (g.R.Source.remaining c.awaited.new.input) =
    subst (λ o. IfSome o (λ y. TakesLine l.left (g.R.Source.remaining l.input) c.awaited.new.left (g.R.Source.remaining c.awaited.new.input)))
    c.in-Some.is c.in_ok-answer.ensures.line in
    let goes : all_ended c.core.result.now.world ≡ false =
    subst (λ o. IfSome o (λ y. all_ended c.core.result.now.world ≡ false)) c.in-Some.is c.in_ok-answer.ensures.goes_on in
    record {
      playing = playing_on _ _ _ _ _ x l.game.driver c.follow.new.game.driver l.game.log.items c.follow.new.game.log.items _ _ _ _ l.invariant.playing takes
          (subst (λ d. all_ended d.world ≡ false) c.core.ensures goes)
          c.follow.ensures.same_module c.in_ok-follow.ensures.arguments c.in_ok-follow.ensures.led c.in_ok-follow.ensures.logged c.in_ok-follow.ensures.told;
      using = using_on _ _ l.game.driver c.follow.new.game.driver x _ _ _ _ _ l.invariant.using l.invariant.playing.same_module takes line
          (subst (λ d. all_ended d.world ≡ false) c.core.ensures goes) c.in_ok-follow.ensures.led;
      no_read_fault = c.in_ok-answer.ensures.no_fault ∙ l.invariant.no_read_fault;
      no_write_fault = c.in_ok-follow.ensures.no_fault ∙ l.invariant.no_write_fault;
    }

pub returns-in_err-follow-clause-played : goal.returns-in_err-follow-clause-played
returns-in_err-follow-clause-played g c = failed _ _ c.from_residual-in_err-follow.ensures.0

pub returns-in_err-follow-clause-told : goal.returns-in_err-follow-clause-told
returns-in_err-follow-clause-told g c = failed _ _ c.from_residual-in_err-follow.ensures.0

pub returns-in_err-follow-clause-begins : goal.returns-in_err-follow-clause-begins
returns-in_err-follow-clause-begins g c =
    let l = c.loop-answer in
    let x = c.in-Some.answer in
    let takes : TakesAnswer x (to_come l.left (g.R.Source.remaining l.input)) (to_come c.awaited.new.left (g.R.Source.remaining c.awaited.new.input)) =
    subst (λ o. IfSome o (λ y. TakesAnswer y (to_come l.left (g.R.Source.remaining l.input)) (to_come c.awaited.new.left (g.R.Source.remaining c.awaited.new.input))))
    c.in-Some.is c.in_ok-answer.ensures.some in
    let goes : all_ended c.core.result.now.world ≡ false =
    subst (λ o. IfSome o (λ y. all_ended c.core.result.now.world ≡ false)) c.in-Some.is c.in_ok-answer.ensures.goes_on in
    playing_breaks _ _ _ _ _ x l.game.driver l.game.log.items _ _ _ _ l.invariant.playing takes
    (subst (λ d. all_ended d.world ≡ false) c.core.ensures goes) c.follow.ensures.begins

pub returns-in_err-follow-clause-begins_some : goal.returns-in_err-follow-clause-begins_some
returns-in_err-follow-clause-begins_some g c =
    let l = c.loop-answer in
    let x = c.in-Some.answer in
    let goes : all_ended c.core.result.now.world ≡ false =
    subst (λ o. IfSome o (λ y. all_ended c.core.result.now.world ≡ false)) c.in-Some.is c.in_ok-answer.ensures.goes_on in
    playing_breaks_some _ _ _ _ _ x l.game.driver l.game.log.items _ _ _ l.invariant.playing
    (subst (λ d. all_ended d.world ≡ false) c.core.ensures goes) c.follow.ensures.begins

pub returns-clause-by_some : goal.returns-clause-by_some
returns-clause-by_some g c =
    playing_some _ _ _ _ _ c.loop-answer.game.driver c.core-2.result.now c.loop-answer.game.log.items _ _ _
    c.loop-answer.invariant.playing c.core-2.ensures c.in_ok-say_end.ensures.told

pub returns-clause-begins_some : goal.returns-clause-begins_some
returns-clause-begins_some g c =
    playing_ends_early_some _ _ _ _ _ c.loop-answer.game.driver c.core-2.result.now c.loop-answer.game.log.items _ _ _
    c.loop-answer.invariant.playing c.core-2.ensures c.say_end.ensures.begins

pub returns-clause-unread : goal.returns-clause-unread
returns-clause-unread g c =
    using_ends _ _ c.loop-answer.game.driver c.core.result.now _ _ _ _ c.in_ok-answer.field-0 c.loop-answer.invariant.using
    c.core.ensures c.in_default.not-Some (λ over. ap (g.R.Source.remaining) (c.awaited.ensures.unread over)) c.in_ok-answer.ensures.rest

pub returns-clause-played : goal.returns-clause-played
returns-clause-played g c =
    (playing_out _ _ _ _ _ c.loop-answer.game.driver c.core.result.now c.core-2.result.now c.loop-answer.game.log.items _ _ _
    c.in_ok-answer.field-0 c.loop-answer.invariant.playing c.core.ensures c.core-2.ensures c.in_default.not-Some
    c.in_ok-answer.ensures.none c.in_ok-say_end.ensures.told).0

pub returns-clause-told : goal.returns-clause-told
returns-clause-told g c =
    (playing_out _ _ _ _ _ c.loop-answer.game.driver c.core.result.now c.core-2.result.now c.loop-answer.game.log.items _ _ _
    c.in_ok-answer.field-0 c.loop-answer.invariant.playing c.core.ensures c.core-2.ensures c.in_default.not-Some
    c.in_ok-answer.ensures.none c.in_ok-say_end.ensures.told).1

pub returns-clause-begins : goal.returns-clause-begins
returns-clause-begins g c =
    playing_ends_early _ _ _ _ _ c.loop-answer.game.driver c.core.result.now c.core-2.result.now c.loop-answer.game.log.items _ _ _
    c.in_ok-answer.field-0 c.loop-answer.invariant.playing c.core.ensures c.core-2.ensures c.in_default.not-Some
    c.in_ok-answer.ensures.none c.say_end.ensures.begins

-- ---- where the last line could not be written

pub returns-in_err-say_end-clause-played : goal.returns-in_err-say_end-clause-played
returns-in_err-say_end-clause-played g c = failed _ _ c.from_residual-in_err-say_end.ensures.0

pub returns-in_err-say_end-clause-told : goal.returns-in_err-say_end-clause-told
returns-in_err-say_end-clause-told g c = failed _ _ c.from_residual-in_err-say_end.ensures.0

pub returns-in_err-say_end-clause-begins : goal.returns-in_err-say_end-clause-begins
returns-in_err-say_end-clause-begins g c =
    playing_ends_early _ _ _ _ _ c.loop-answer.game.driver c.core.result.now c.core-2.result.now c.loop-answer.game.log.items _ _ _
    c.in_ok-answer.field-0 c.loop-answer.invariant.playing c.core.ensures c.core-2.ensures c.in_default.not-Some
    c.in_ok-answer.ensures.none c.say_end.ensures.begins

pub returns-in_err-say_end-clause-begins_some : goal.returns-in_err-say_end-clause-begins_some
returns-in_err-say_end-clause-begins_some g c =
    playing_ends_early_some _ _ _ _ _ c.loop-answer.game.driver c.core-2.result.now c.loop-answer.game.log.items _ _ _
    c.loop-answer.invariant.playing c.core-2.ensures c.say_end.ensures.begins
