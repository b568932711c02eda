-- The program's command line, as it is put together.
use Rattle.std.proofs.Common.{◌≡◌, ◌||◌, List, [], ◌∷◌, map, Ok, Err, Result, codes, refl, sym, subst, ap, ap₂, ◌∙◌}
use Rattle.std.specs.Prelude.{IfOk}
use Rattle.clap.specs.Words.{AddsArg, AddsInTurn, App, app_of, rule_of}
use Rattle.clap.specs.declared.builder.arg.Arg.{Arg}
use Rattle.clap.specs.declared.builder.command.Command.{Command}
use Rattle.xk_cli.specs.CommandLine.{AreLocal, HasNoGlobals, Names, WithOrders, with_rules}

-- the names of the orders lie somewhere
pub some_names : WithOrders (λ names. Unit {0})
some_names = (record { ref_ptr = (0, 0); now = map (λ t. record { ref_ptr = (0, 0); now = t }) (codes "first" ∷ codes "last" ∷ codes "round" ∷ codes "random" ∷ codes "greedy" ∷ codes "ask" ∷ []) }, refl, tt)

-- a command that takes one of these names takes one of the same names, whether there was memory for it or not
pub names_of : {E : Type 0} (r : Result Command E) (shape : Names → App) → IfOk r (λ c. WithOrders (λ names. app_of c ≡ shape names))
    → WithOrders (λ names. IfOk r (λ c. app_of c ≡ shape names))
names_of (Ok c) shape h = h
names_of (Err e) shape h = (some_names.0, some_names.1, tt)

-- a command to which arguments were added in turn takes them too
pub with_args : (old new : Command) (args : List Arg) → AddsInTurn AddsArg old args new → AreLocal args
    → app_of new ≡ with_rules (app_of old) (map rule_of args)
with_args old new [] h local = ap app_of (sym h)
with_args old new (a ∷ more) h local = with_args h.0 new more h.2 local.1 ∙ ap (λ b. with_rules b (map rule_of more)) (h.1.shape local.0)

-- and it has no global argument, if it had none
pub still_local : (old new : Command) (args : List Arg) → AddsInTurn AddsArg old args new → AreLocal args → HasNoGlobals old → HasNoGlobals new
still_local old new [] h local none = subst HasNoGlobals h none
still_local old new (a ∷ more) h local none = still_local h.0 new more h.2 local.1 (h.1.globals ∙ ap₂ ◌||◌ none local.0)
