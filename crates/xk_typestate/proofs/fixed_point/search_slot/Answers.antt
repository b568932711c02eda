-- place after place
use Rattle.std.proofs.Common.{◌≡◌, None, length, replicate, refl, ap, ◌∙◌, arith}
use Rattle.xk_types.specs.Code.{UnitValue}
use Rattle.xk_typestate.specs.KindSet.{no_kinds}
use Rattle.xk_typestate.specs.Search.{IsLatest, HasEntries}
use Rattle.xk_typestate.proofs.SearchLemmas.{searched_none, none_latest, begun_at_first}
use Rattle.xk_typestate.proofs.fixed_point.search_slot.Goals as goal

pub loop-done-init : goal.loop-done-init
loop-done-init c =
    let m = c.args.m.now in
    let u = c.args.u.now in
    let s = c.args.slot in
    let same = ap (λ (x : UnitValue). x.code) c.u.view_is in
    let as_long : length c.u.inside.code.items ≡ length u.code = ap length same in
    let long : c.len.result ≡ length u.code = omega (arith, c.len.ensures, c.u.inside.code.ok.0) in
    let seen = c.in_ok-search.ensures.0 ∙ ap (λ n. replicate n no_kinds) long in
    let first = searched_none m u s c.in_ok-search.search seen c.in_ok-search.ensures.1 in
    let none : IsLatest c.in_ok-search.search.found.items None = none_latest c.in_ok-search.search.found.items None c.in_ok-search.ensures.1 in
    let searched = c.in_ok-put_all.ensures.searched m u s 0 first (record { come = λ k has. (refl, (c.kinds_at_entry.ensures k).0 has); latest = none; now = tt }) in
    let entries : HasEntries u s c.put_all.new.self = λ k has. c.in_ok-put_all.ensures.put k ((c.kinds_at_entry.ensures k).1 has) in
    record {
      searched = searched;
      entries = entries;
      begun = begun_at_first m u s c.put_all.new.self 0 searched entries (c.in_ok-put_all.ensures.latest none);
    }

pub loop-done-preserved : goal.loop-done-preserved
loop-done-preserved c = record {
  searched = c.in_ok-go_on.ensures.searched;
  entries = λ k has. c.in_ok-go_on.ensures.grown.kept _ (c.loop-done.invariant.entries k has);
  begun = λ k has. (let at = c.loop-done.invariant.begun k has in (at.0, at.1, c.in_ok-go_on.ensures.grown.found at.0 at.1 at.2, at.3, at.4));
}
