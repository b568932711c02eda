-- how the place behind lies, by what stands at this one
use Rattle.std.proofs.Common.{None, sym, ap, ◌∙◌, arith}
use Rattle.xk_shape.specs.declared.places.Place.{Place}
use Rattle.xk_shape.specs.Nesting.{end_named}
use Rattle.xk_shape.proofs.EnclosingFinishLemmas.{depth_few}
use Rattle.xk_shape.proofs.NestingLemmas.{ended_behind}
use Rattle.xk_shape.proofs.PlaceLemmas.{found_at, place_known, names_begin, names_no_end, names_no_begin, behind_for, behind_forto, behind_finish, behind_end, behind_other, amiss_begin, amiss_end, amiss_within}
use Rattle.xk_shape.proofs.places.behind.Goals as goal
use Rattle.xk_shape.proofs.places.behind.Goals.{else-ends_span-via-then-ends_span+else-eq, else-ends_span-via-else-ends_span}

abbrev outside : Place
outside = record { within = None; finish = None; depth = 0; counters = 0 }

pub overflow_add-result : goal.overflow_add-result
overflow_add-result c =
    let so = place_known c.args.u.now c.args.known.now c.args.at outside c.requires.known (omega (arith, c.requires.last)) in
    omega (arith, so.depth, depth_few c.args.u.now c.args.at, c.requires.limit)

pub returns-in-For : goal.returns-in-For
returns-in-For c =
    let i = c.index-instr.result.now in
    let here = found_at c.args.u.now _ c.args.at i c.u.view_is (omega (arith, c.requires.last, c.requires.inside)) c.index-instr.ensures in
    let so = place_known c.args.u.now c.args.known.now c.args.at outside c.requires.known (omega (arith, c.requires.last)) in
    behind_for c.args.u.now c.args.at i _ here so c.requires.nested c.in-For.slot c.in-For.e c.with_slot.result c.in-For.lo c.in-For.hi
    c.in-For.is (sym c.begins_span.ensures ∙ c.if-begins_span.true) c.with_slot.ensures

pub returns-in-ForTo : goal.returns-in-ForTo
returns-in-ForTo c =
    let i = c.index-instr.result.now in
    let here = found_at c.args.u.now _ c.args.at i c.u.view_is (omega (arith, c.requires.last, c.requires.inside)) c.index-instr.ensures in
    let so = place_known c.args.u.now c.args.known.now c.args.at outside c.requires.known (omega (arith, c.requires.last)) in
    behind_forto c.args.u.now c.args.at i _ here so c.requires.nested c.in-ForTo.slot c.in-ForTo.limit c.in-ForTo.e c.with_slot-in-ForTo-2.result c.with_slot-in-ForTo.result c.in-ForTo.lo c.in-ForTo.hi
    c.in-ForTo.is (sym c.if-begins_span-2.ensures) c.with_slot-in-ForTo.ensures c.with_slot-in-ForTo-2.ensures

pub returns-in-Finish : goal.returns-in-Finish
returns-in-Finish c =
    let i = c.index-instr.result.now in
    let here = found_at c.args.u.now _ c.args.at i c.u.view_is (omega (arith, c.requires.last, c.requires.inside)) c.index-instr.ensures in
    let so = place_known c.args.u.now c.args.known.now c.args.at outside c.requires.known (omega (arith, c.requires.last)) in
    behind_finish c.args.u.now c.args.at i _ here so c.requires.nested c.in-Finish.field-0 c.in-Finish.is (sym c.if-begins_span-3.ensures)

pub returns-in_default : goal.returns-in_default
returns-in_default c =
    let i = c.index-instr.result.now in
    let here = found_at c.args.u.now _ c.args.at i c.u.view_is (omega (arith, c.requires.last, c.requires.inside)) c.index-instr.ensures in
    let so = place_known c.args.u.now c.args.known.now c.args.at outside c.requires.known (omega (arith, c.requires.last)) in
    behind_other c.args.u.now c.args.at i _ here so c.requires.nested (names_no_end i c.in_default.not-For c.in_default.not-ForTo c.in_default.not-Finish)
    (names_no_begin i c.in_default.not-Next c.in_default.not-EndFinish)

pub returns-then-eq : goal.returns-then-eq
returns-then-eq c =
    let i = c.index-instr.result.now in
    let here = found_at c.args.u.now _ c.args.at i c.u.view_is (omega (arith, c.requires.last, c.requires.inside)) c.index-instr.ensures in
    let so = place_known c.args.u.now c.args.known.now c.args.at outside c.requires.known (omega (arith, c.requires.last)) in
    let test = sym c.ends_span.ensures ∙ c.if-ends_span.true in
    let before = (ended_behind c.args.u.now c.args.at c.in-Next.first test).0 in
    let lies = place_known c.args.u.now c.args.known.now c.in-Next.first outside c.requires.known (omega (arith, c.requires.last)) in
    behind_end c.args.u.now c.args.at i _ here so c.requires.nested c.in-Next.first _ (names_begin i c.in-Next.first c.in-Next.is) test (sym c.eq.ensures ∙ c.if-eq.true) lies

pub returns-else-ends_span : goal.returns-else-ends_span
returns-else-ends_span c =
    let i = c.index-instr.result.now in
    let here = found_at c.args.u.now _ c.args.at i c.u.view_is (omega (arith, c.requires.last, c.requires.inside)) c.index-instr.ensures in
    let so = place_known c.args.u.now c.args.known.now c.args.at outside c.requires.known (omega (arith, c.requires.last)) in
    let named = names_begin i c.in-Next.first c.in-Next.is in
    elim c.else-ends_span.branch [
      | else-ends_span-via-then-ends_span+else-eq w ↦
          amiss_within c.args.u.now c.args.at i _ here so c.requires.nested c.in-Next.first named
          (sym c.ends_span.ensures ∙ w.if-ends_span.true) (sym w.eq.ensures ∙ w.if-eq.false)
      | else-ends_span-via-else-ends_span w ↦
          amiss_end c.args.u.now c.args.at i _ here so c.requires.nested c.in-Next.first named (sym c.ends_span.ensures ∙ w.if-ends_span.false)
    ]

pub returns-in-For-2 : goal.returns-in-For-2
returns-in-For-2 c =
    let i = c.index-instr.result.now in
    let here = found_at c.args.u.now _ c.args.at i c.u.view_is (omega (arith, c.requires.last, c.requires.inside)) c.index-instr.ensures in
    let so = place_known c.args.u.now c.args.known.now c.args.at outside c.requires.known (omega (arith, c.requires.last)) in
    amiss_begin c.args.u.now c.args.at i _ here so c.requires.nested c.in-For.e (ap end_named c.in-For.is) (sym c.begins_span.ensures ∙ c.if-begins_span.false)

pub returns-in-For-2-2 : goal.returns-in-For-2-2
returns-in-For-2-2 c =
    let i = c.index-instr.result.now in
    let here = found_at c.args.u.now _ c.args.at i c.u.view_is (omega (arith, c.requires.last, c.requires.inside)) c.index-instr.ensures in
    let so = place_known c.args.u.now c.args.known.now c.args.at outside c.requires.known (omega (arith, c.requires.last)) in
    amiss_begin c.args.u.now c.args.at i _ here so c.requires.nested c.in-ForTo.e (ap end_named c.in-ForTo.is) (sym c.if-begins_span-2.ensures)

pub returns-in-For-2-3 : goal.returns-in-For-2-3
returns-in-For-2-3 c =
    let i = c.index-instr.result.now in
    let here = found_at c.args.u.now _ c.args.at i c.u.view_is (omega (arith, c.requires.last, c.requires.inside)) c.index-instr.ensures in
    let so = place_known c.args.u.now c.args.known.now c.args.at outside c.requires.known (omega (arith, c.requires.last)) in
    amiss_begin c.args.u.now c.args.at i _ here so c.requires.nested c.in-Finish.field-0 (ap end_named c.in-Finish.is) (sym c.if-begins_span-3.ensures)
