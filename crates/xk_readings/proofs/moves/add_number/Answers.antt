use Rattle.std.proofs.Common.{List, ℤ, inl, subst, sym}
use Rattle.std.specs.Int.{w64}
use Rattle.std.proofs.lemmas.Int.{to_z-of_z}
use Rattle.xk_readings.specs.Sets.{AreDifferent, Has}
use Rattle.xk_readings.proofs.MoveLemmas.{is_there, not_there, push_only}
use Rattle.xk_readings.proofs.SetLemmas.{different_push, has_left, has_right}
use Rattle.xk_readings.proofs.moves.add_number.Goals as goal

pub returns-in_ok-push-clause-different : goal.returns-in_ok-push-clause-different
returns-in_ok-push-clause-different c are =
    let numbers = c.args.numbers.now.items in
    let same = to_z-of_z w64 c.args.number (record { sfits = c.ranges.number.sfits }) in
    subst AreDifferent (sym c.in_ok-push.ensures.items)
    (different_push numbers _ are
    (λ h. not_there numbers c.deref.result.now c.args.number _ c.contains.result c.contains.ensures.value c.deref.ensures.value same
    c.if-not-contains.true (subst (Has numbers) same h)))

pub returns-in_ok-push-clause-kept : goal.returns-in_ok-push-clause-kept
returns-in_ok-push-clause-kept c x h =
    subst (λ (l : List ℤ). Has l x) (sym c.in_ok-push.ensures.items) (has_left c.args.numbers.now.items _ x h)

pub returns-in_ok-push-clause-there : goal.returns-in_ok-push-clause-there
returns-in_ok-push-clause-there c =
    let same = to_z-of_z w64 c.args.number (record { sfits = c.ranges.number.sfits }) in
    subst (λ (l : List ℤ). Has l c.args.number) (sym c.in_ok-push.ensures.items)
    (has_right c.args.numbers.now.items _ c.args.number (inl (sym same)))

pub returns-else-not-contains-clause-there : goal.returns-else-not-contains-clause-there
returns-else-not-contains-clause-there c =
    let same = to_z-of_z w64 c.args.number (record { sfits = c.ranges.number.sfits }) in
    is_there c.args.numbers.now.items c.deref.result.now c.args.number _ c.contains.result c.contains.ensures.value c.deref.ensures.value same
    c.if-not-contains.false

pub returns-in_ok-push-clause-only : goal.returns-in_ok-push-clause-only
returns-in_ok-push-clause-only c x h =
    push_only c.args.numbers.now.items c.push.new.self.items _ c.args.number x c.in_ok-push.ensures.items
    (to_z-of_z w64 c.args.number (record { sfits = c.ranges.number.sfits })) h
