use Rattle.std.proofs.Common.{◌≡◌, ◌+◌, arith, inl, length, refl, slice_get, Some}
use Rattle.std.proofs.lemmas.Option.{slice_get_read, slice_get_within}
use Rattle.xk_outcomes.proofs.NumberingLemmas.{added_more, added_within, first_here, nothing_added, nothing_rises, rising_more}
use Rattle.xk_outcomes.proofs.PathLemmas.{readings_more}
use Rattle.xk_outcomes.proofs.paths.note_readings.Goals as goal

pub loop-reading-init : goal.loop-reading-init
loop-reading-init c = record {
  of = λ k o there. inl there;
  kept = λ numbers listed. listed;
  distinct = λ distinct. distinct;
  listed = λ i r less. absurd (omega (arith, less));
  added = λ played. nothing_added c.args.found.now c.args.list.now;
  rising = λ played rises. nothing_rises c.args.list.now;
  few = omega arith;
}

pub loop-reading-preserved : goal.loop-reading-preserved
loop-reading-preserved c =
    let found = c.args.found.now in
    let at = c.loop-reading.reading-index in
    let here = c.reading-item.result in
    let there : slice_get found at ≡ Some here = slice_get_read found (length found) at here refl c.loop-reading-test.true c.reading-item.is in
    let old = c.loop-reading.list in
    let new = c.note_reading.new.list in
    let from = length c.args.list.now in
    record {
      of = c.note_reading.ensures.of c.args.list.now c.loop-reading.invariant.of;
      kept = λ numbers listed. c.note_reading.ensures.kept numbers (c.loop-reading.invariant.kept numbers listed);
      distinct = λ distinct. c.note_reading.ensures.distinct (c.loop-reading.invariant.distinct distinct);
      listed = readings_more c.args.all.now.start c.args.all.now.ways found at here c.loop-reading.list c.note_reading.new.list there
          c.note_reading.ensures.kept
          (c.in_ok-noted.ensures.listed c.if-not-noted.false) c.loop-reading.invariant.listed;
      added = λ played. added_more found at from here old new there (c.loop-reading.invariant.added played)
          (c.note_reading.ensures.each (played at here there));
      rising = λ played rises. rising_more found at from here old new there (c.loop-reading.invariant.added played)
          (c.note_reading.ensures.each (played at here there)) rises (c.loop-reading.invariant.rising played rises);
      few = omega (arith, c.note_reading.ensures.most, c.loop-reading.invariant.few);
    }

-- what isn't listed where one isn't noted comes behind
pub returns-then-not-noted-clause-rising : goal.returns-then-not-noted-clause-rising
returns-then-not-noted-clause-rising c played rises =
    let found = c.args.found.now in
    let at = c.loop-reading.reading-index in
    let here = c.reading-item.result in
    let there : slice_get found at ≡ Some here = slice_get_read found (length found) at here refl c.loop-reading-test.true c.reading-item.is in
    rising_more found at (length c.args.list.now) here c.loop-reading.list c.note_reading.new.list there (c.loop-reading.invariant.added played)
    (c.note_reading.ensures.each (played at here there)) rises (c.loop-reading.invariant.rising played rises)

pub returns-then-not-noted-clause-added : goal.returns-then-not-noted-clause-added
returns-then-not-noted-clause-added c played =
    let found = c.args.found.now in
    let at = c.loop-reading.reading-index in
    let here = c.reading-item.result in
    let inside = c.loop-reading-test.true in
    let there : slice_get found at ≡ Some here = slice_get_read found (length found) at here refl inside c.reading-item.is in
    added_within found (at + 1) (length c.args.list.now) c.note_reading.new.list (omega (arith, inside))
    (added_more found at (length c.args.list.now) here c.loop-reading.list c.note_reading.new.list there (c.loop-reading.invariant.added played)
    (c.note_reading.ensures.each (played at here there)))

pub returns-then-not-noted-clause-first : goal.returns-then-not-noted-clause-first
returns-then-not-noted-clause-first c played rises =
    let found = c.args.found.now in
    let at = c.loop-reading.reading-index in
    let here = c.reading-item.result in
    let there : slice_get found at ≡ Some here = slice_get_read found (length found) at here refl c.loop-reading-test.true c.reading-item.is in
    first_here found at (length c.args.list.now) here c.loop-reading.list c.note_reading.new.list there (c.loop-reading.invariant.added played)
    (c.note_reading.ensures.each (played at here there)) rises c.note_reading.ensures.kept
    (λ i r less at_i. c.loop-reading.invariant.listed i r less at_i (played i r at_i))

pub returns-clause-added : goal.returns-clause-added
returns-clause-added c played =
    added_within c.args.found.now c.loop-reading.reading-index (length c.args.list.now) c.loop-reading.list (omega (arith, c.loop-reading.auto))
    (c.loop-reading.invariant.added played)

pub returns-clause-first : goal.returns-clause-first
returns-clause-first c played rises i r there =
    let inside = slice_get_within c.args.found.now i r there in
    let over = c.loop-reading-test.false in
    inl (c.loop-reading.invariant.listed i r (omega (arith, inside, over)) there (played i r there))

pub returns-in_err-noted-clause-rising : goal.returns-in_err-noted-clause-rising
returns-in_err-noted-clause-rising c played rises =
    let found = c.args.found.now in
    let at = c.loop-reading.reading-index in
    let here = c.reading-item.result in
    let there : slice_get found at ≡ Some here = slice_get_read found (length found) at here refl c.loop-reading-test.true c.reading-item.is in
    rising_more found at (length c.args.list.now) here c.loop-reading.list c.note_reading.new.list there (c.loop-reading.invariant.added played)
    (c.note_reading.ensures.each (played at here there)) rises (c.loop-reading.invariant.rising played rises)

pub returns-in_err-noted-clause-added : goal.returns-in_err-noted-clause-added
returns-in_err-noted-clause-added c played =
    let found = c.args.found.now in
    let at = c.loop-reading.reading-index in
    let here = c.reading-item.result in
    let inside = c.loop-reading-test.true in
    let there : slice_get found at ≡ Some here = slice_get_read found (length found) at here refl inside c.reading-item.is in
    added_within found (at + 1) (length c.args.list.now) c.note_reading.new.list (omega (arith, inside))
    (added_more found at (length c.args.list.now) here c.loop-reading.list c.note_reading.new.list there (c.loop-reading.invariant.added played)
    (c.note_reading.ensures.each (played at here there)))
