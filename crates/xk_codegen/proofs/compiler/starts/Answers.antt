use Rattle.std.proofs.Common.{◌∙◌, ◌++◌, ◌∷◌, [], ap}
use Rattle.std.specs.Int.{w64}
use Rattle.std.proofs.lemmas.Int.{to_z-of_z}
use Rattle.xk_codegen.proofs.ListLemmas.{starts_step}
use Rattle.xk_codegen.proofs.compiler.starts.Goals as goal

pub loop-number-preserved : goal.loop-number-preserved
loop-number-preserved c =
    let fits = to_z-of_z w64 c.start_of.result (record { sfits = c.start_of.type_inv }) in
    starts_step c.args.shared.now _ c.loop-number.number-index c.start_of.result c.loop-number.numbers.items c.push.new.self.items c.loop-number-test.true
    c.start_of.ensures (c.in_ok-push.ensures.items ∙ ap (λ v. c.loop-number.numbers.items ++ v ∷ []) fits)
    ∙ c.loop-number.invariant
