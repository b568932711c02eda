use Rattle.std.proofs.Common.{arith, map, subst, sym}
use Rattle.xk_lexer.specs.Tokens.{token_value}
use Rattle.xk_lexer.specs.Pieces.{IsReadAs}
use Rattle.xk_lexer.specs.Views.{piece_value}
use Rattle.xk_lexer.proofs.PieceLengthLemmas.{front_room, goes_on, ends}
use Rattle.xk_lexer.proofs.LexingLemmas.{lexed_reading}
use Rattle.xk_lexer.proofs.scan.tokens.Goals as goal

pub split_at-requires : goal.split_at-requires
split_at-requires c = (front_room c.loop-piece.rest.now (piece_value c.in-Some.piece) c.in-Some.ensures).1

pub loop-piece-smaller : goal.loop-piece-smaller
loop-piece-smaller c =
    let w = front_room c.loop-piece.rest.now (piece_value c.in-Some.piece) c.in-Some.ensures in
    omega (arith, w.0, w.1, c.split_at.ensures.back_len)

pub loop-piece-preserved : goal.loop-piece-preserved
loop-piece-preserved c =
    let old = map token_value c.loop-piece.tokens.items in
    let new = map token_value c.push_token.new.tokens.items in
    let was = c.loop-piece.invariant in
    let g = goes_on c.args.text.now c.loop-piece.rest.now c.split_at.result.1.now old new (piece_value c.in-Some.piece)
    c.in-Some.ensures was.room was.so_far c.in_ok-push_token.ensures c.split_at.ensures.back in
    record { room = g.0; so_far = g.1 }

pub returns-clause-read : goal.returns-clause-read
returns-clause-read c = ends (map token_value c.loop-piece.tokens.items) c.args.text.now c.loop-piece.rest.now c.in_default.ensures c.loop-piece.invariant.so_far

pub returns-clause-spelled : goal.returns-clause-spelled
returns-clause-spelled c =
    let read = ends (map token_value c.loop-piece.tokens.items) c.args.text.now c.loop-piece.rest.now c.in_default.ensures c.loop-piece.invariant.so_far in
    subst (IsReadAs c.args.text.now) (sym read) (lexed_reading c.args.text.now)
