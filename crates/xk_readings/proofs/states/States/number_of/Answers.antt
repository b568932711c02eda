use Rattle.std.proofs.Common.{◌≡◌, ◌∙◌, ◌⊎◌, ◌++◌, ◌∷◌, [], List, ℕ, Some, ap, subst, sym}
use Rattle.std.specs.Prelude.{nat_eq}
use Rattle.std.specs.Cmp.Lexicographic.{pointwise}
use Rattle.std.specs.Global.{Vec}
use Rattle.xk_readings.specs.Automata.{lists_in}
use Rattle.xk_readings.proofs.StateLemmas.{list_at, one_met, same_nodes, states_each, states_kept}
use Rattle.xk_readings.proofs.states.States.number_of.Goals.{In_ok-number}
use Rattle.xk_readings.proofs.states.States.number_of.Goals as goal

met : (c : In_ok-number) → (lists_in c.insert_full.new.self.keys ≡ c.args.self.now)
    ⊎ (lists_in c.insert_full.new.self.keys ≡ c.args.self.now ++ c.args.nodes.items ∷ [])
met c =
    subst (λ (l : List (List ℕ)). (lists_in c.insert_full.new.self.keys ≡ l) ⊎ (lists_in c.insert_full.new.self.keys ≡ l ++ c.args.nodes.items ∷ []))
    c.self.view_is (one_met (λ (x y : Vec ℕ). pointwise nat_eq x.items y.items) c.self.inside.lists.keys c.insert_full.new.self.keys c.args.nodes c.in_ok-number.ensures.keys)

pub returns-clause-kept : goal.returns-clause-kept
returns-clause-kept c =
    states_kept c.args.self.now (lists_in c.insert_full.new.self.keys) c.args.nodes.items (met (goal.at.returns-clause-kept c).In_ok-number)

pub returns-clause-there : goal.returns-clause-there
returns-clause-there c =
    let s = c.in_ok-number.ensures.stored in
    list_at c.insert_full.new.self.keys c.in_ok-number.number s.0 s.1 ∙ ap Some (sym ((same_nodes c.args.nodes.items s.0.items).0 s.2))

pub returns-clause-each : goal.returns-clause-each
returns-clause-each c =
    states_each c.args.self.now (lists_in c.insert_full.new.self.keys) c.args.nodes.items (met (goal.at.returns-clause-each c).In_ok-number)
