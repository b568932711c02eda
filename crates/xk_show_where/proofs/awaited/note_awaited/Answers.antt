-- The way up: each governor has a smaller number, and an excerpt.
use Rattle.std.proofs.Common.{◌≡◌, ◌∙◌, ◌<◌, ℕ, Bool, [], List, length, slice_set, sym, ap, subst, arith}
use Rattle.std.specs.Prelude.{slice_index_or}
use Rattle.xk_show_where.specs.Awaited.{is_in_innermost}
use Rattle.xk_show_where.specs.Excerpts.{ExcerptValue, excerpt_of, noted}
use Rattle.xk_scheduler.proofs.FinishOwnerLemmas.{core_owned}
use Rattle.xk_show_where.proofs.AwaitedLemmas.{IsNoting, ended_noted, governor_before, marked_below}
use Rattle.xk_show_where.proofs.AwaitedLemmas.{noting_few, noting_first, noting_last, noting_next, noting_there}
use Rattle.xk_show_where.proofs.awaited.note_awaited.Goals as goal

pub returns-then-not-is_living : goal.returns-then-not-is_living
returns-then-not-is_living c =
    ended_noted c.args.core.now.world c.args.act c.args.table.now.items (sym c.if-not-is_living.ensures) c.requires.before

pub up-init : goal.up-init
up-init c =
    let core = c.args.core.now in
    noting_first core.module_run core.world c.activities-there.ensures.core c.args.act c.args.table.now.items c.requires.there
    c.requires.before

pub note_at-requires-clause-there : goal.note_at-requires-clause-there
note_at-requires-clause-there c =
    let core = c.args.core.now in
    let owned = core_owned core.module_run core.world c.activities-there.ensures.core in
    let less = governor_before core.world owned c.up.member c.in-Some.owner (sym c.in-Some.ensures) in
    let inside : c.in-Some.owner < length core.world.activities = omega (arith, less, c.up.invariant.before, c.requires.there) in
    noting_there core.world c.args.act c.up.member c.in-Some.owner c.up.table.items inside c.up.invariant

pub note_at-requires-clause-room : goal.note_at-requires-clause-room
note_at-requires-clause-room c =
    let core = c.args.core.now in
    let owned = core_owned core.module_run core.world c.activities-there.ensures.core in
    let less = governor_before core.world owned c.up.member c.in-Some.owner (sym c.in-Some.ensures) in
    let inside : c.in-Some.owner < length core.world.activities = omega (arith, less, c.up.invariant.before, c.requires.there) in
    let there = c.activities-there.ensures.core in
    let few = noting_few core.module_run core.world there c.args.act c.up.member c.in-Some.owner c.up.table.items inside
    (sym c.in-Some.ensures) c.up.invariant in
    omega (arith, few)

pub up-smaller : goal.up-smaller
up-smaller c =
    let core = c.args.core.now in
    let owned = core_owned core.module_run core.world c.activities-there.ensures.core in
    let less = governor_before core.world owned c.up.member c.in-Some.owner (sym c.in-Some.ensures) in
    omega (arith, less, c.owner.view_is)

pub up-preserved : goal.up-preserved
up-preserved c =
    let core = c.args.core.now in
    let w = core.world in
    let b = c.args.act in
    let x = c.up.member in
    let o = c.in-Some.owner in
    let table = c.up.table.items in
    let inside : x < length w.activities = omega (arith, c.up.invariant.before, c.requires.there) in
    let marked = marked_below (is_in_innermost w) (length w.activities) x c.args.in_innermost.now c.requires.innermost inside in
    let items : c.note_at.new.table.items ≡ slice_set table o (noted (is_in_innermost w x) b (slice_index_or table o (excerpt_of []))) =
    c.in_ok-note_at.ensures
    ∙ ap (λ (d : Bool). slice_set table o (noted d b (slice_index_or table o (excerpt_of [])))) (c.is_marked-belongs.ensures ∙ marked) in
    let next = noting_next core.module_run w c.activities-there.ensures.core b x o table c.requires.there (sym c.in-Some.ensures)
    (sym c.if-not-is_living.ensures) c.up.invariant in
    subst (λ (k : ℕ). IsNoting w b k c.note_at.new.table.items) (sym c.owner.view_is)
    (subst (λ (t : List ExcerptValue). IsNoting w b o t) (sym items) next)

pub returns : goal.returns
returns c =
    noting_last c.args.core.now.module_run c.args.core.now.world c.activities-there.ensures.core c.args.act c.up.member c.up.table.items
    c.requires.there (sym c.in_default.ensures) c.up.invariant
