use Rattle.std.proofs.Common.{rules, leb, ◌≡◌, ◌-◌, get_or, length, slice_get, refl, sym, ap, ◌∙◌, arith}
use Rattle.std.proofs.lemmas.List.Sorted.{IsPartitionPoint-from_clause}
use Rattle.std.proofs.lemmas.Option.{slice_get_read}
use Rattle.xk_lines.specs.Lines.{line_starts}
use Rattle.xk_lines.proofs.Starts.{line_of, partitioned_at, read_at}
use Rattle.xk_lines.proofs.lines.LineStarts.line.Goals as goal

pub overflow_sub-number : goal.overflow_sub-number
overflow_sub-number c =
    let starts = c.deref.result.now in
    let number = c.partition_point-number.result in
    let are : starts ≡ line_starts c.args.self.now = c.deref.ensures.value ∙ c.self.invariant.0 ∙ ap line_starts c.self.view_is in
    let point = IsPartitionPoint-from_clause (λ y. leb y c.args.offset) starts number c.partition_point-number.ensures.partitioned
    (partitioned_at c.args.self.now starts c.args.offset are) (λ a r f' k. search rules) in
    (line_of c.args.self.now starts c.args.offset number are c.requires c.partition_point-number.ensures.bound point).some

pub returns : goal.returns
returns c =
    let starts = c.deref.result.now in
    let number = c.partition_point-number.result in
    let are : starts ≡ line_starts c.args.self.now = c.deref.ensures.value ∙ c.self.invariant.0 ∙ ap line_starts c.self.view_is in
    let point = IsPartitionPoint-from_clause (λ y. leb y c.args.offset) starts number c.partition_point-number.ensures.partitioned
    (partitioned_at c.args.self.now starts c.args.offset are) (λ a r f' k. search rules) in
    let line = line_of c.args.self.now starts c.args.offset number are c.requires c.partition_point-number.ensures.bound point in
    let start : c.index.result.now ≡ get_or starts (number - 1) 0 =
    read_at starts (number - 1) c.index.result.now (c.index.ensures ∙ ap (λ l. get_or l (number - 1) c.index.result.now) (sym c.deref.ensures.value))
    (let some = line.some in let bound = c.partition_point-number.ensures.bound in omega (arith, some, bound)) in
    record {
      number = line.number;
      start = start ∙ line.begins;
      before = let b = line.before in omega (arith, start, b);
      listed =
          ap (λ l. slice_get l (number - 1)) (sym are)
          ∙ slice_get_read starts (length starts) (number - 1) c.index.result.now refl
          (let some = line.some in let bound = c.partition_point-number.ensures.bound in omega (arith, some, bound))
          (c.index.ensures ∙ ap (λ l. get_or l (number - 1) c.index.result.now) (sym c.deref.ensures.value));
    }
