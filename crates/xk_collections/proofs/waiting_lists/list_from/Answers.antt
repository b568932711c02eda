use Rattle.std.proofs.Common.{rules, ◌≤◌, ◌<◌, ◌++◌, length-append, Option, List, ℕ, length, subst, sym, arith}
use Rattle.std.specs.Result.{IsOk}
use Rattle.std.specs.Vec.{vec_capacity, vec_len}
use Rattle.xk_collections.specs.Chains.{chain, at}
use Rattle.xk_collections.proofs.WaitingListingLemmas.{IsListing, Steps, begins, goes_on, ends}
use Rattle.xk_collections.proofs.waiting_lists.list_from.Goals as goal

pub loop-at-init : goal.loop-at-init
loop-at-init c =
    let next = c.args.next.now in
    let acts = chain next (length next) c.args.start in
    let before = c.args.shown.now.items in
    (begins next before acts c.args.start c.requires.chain, omega (arith, c.requires.capacity, length-append before acts), omega arith)

pub bounds-next-act : goal.bounds-next-act
bounds-next-act c =
    let next = c.args.next.now in
    let acts = c.args.shown.now.items ++ chain next (length next) c.args.start in
    let done = c.loop-at.shown.items in
    let steps : Steps next acts done c.in-Some.act =
    goes_on next acts done c.in-Some.act (subst (λ (o : Option ℕ). IsListing next acts done o) c.in-Some.is c.loop-at.invariant.0) in
    steps.inside

pub loop-at-preserved : goal.loop-at-preserved
loop-at-preserved c =
    let next = c.args.next.now in
    let acts = c.args.shown.now.items ++ chain next (length next) c.args.start in
    let done = c.loop-at.shown.items in
    let steps : Steps next acts done c.in-Some.act =
    goes_on next acts done c.in-Some.act (subst (λ (o : Option ℕ). IsListing next acts done o) c.in-Some.is c.loop-at.invariant.0) in (
      subst (λ (l : List ℕ). IsListing next acts l (at next c.in-Some.act)) (sym (rw c.if-is_err.ensures.negation at c.push.ensures.items)) steps.then,
      omega (arith, c.loop-at.invariant.1, c.push.ensures.capacity),
      omega (arith, c.loop-at.invariant.2, c.push.ensures.capacity),
    )

pub returns-clause-shown : goal.returns-clause-shown
returns-clause-shown c =
    let next = c.args.next.now in
    let acts = c.args.shown.now.items ++ chain next (length next) c.args.start in
    ends next acts c.loop-at.shown.items (subst (λ (o : Option ℕ). IsListing next acts c.loop-at.shown.items o) c.in_default.is c.loop-at.invariant.0)

pub unreachable-requires : goal.unreachable-requires
unreachable-requires c =
    let next = c.args.next.now in
    let acts = c.args.shown.now.items ++ chain next (length next) c.args.start in
    let done = c.loop-at.shown.items in
    let steps : Steps next acts done c.in-Some.act =
    goes_on next acts done c.in-Some.act (subst (λ (o : Option ℕ). IsListing next acts done o) c.in-Some.is c.loop-at.invariant.0) in
    let more : length done < length acts = steps.more in
    let held : length acts ≤ vec_capacity c.loop-at.shown = c.loop-at.invariant.1 in
    let room : vec_len c.loop-at.shown < vec_capacity c.loop-at.shown = search (arith, rules) in
    let done : IsOk c.push.result = c.push.ensures.succeeds room in
    search rules
