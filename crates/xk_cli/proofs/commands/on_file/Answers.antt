use Rattle.std.proofs.Common.{◌≡◌, ◌||◌, false, map, ap, ap₂, ◌∙◌}
use Rattle.std.proofs.lemmas.Result.{IfOk-weaker}
use Rattle.clap.specs.Words.{app_of, new_app, rule_of, with_rule}
use Rattle.clap.specs.Simple.{app_of_fields}
use Rattle.clap.specs.declared.builder.command.Command.TheViews.{out-Command}
use Rattle.xk_cli.specs.CommandLine.{with_rules}
use Rattle.xk_cli.proofs.CommandLineLemmas.{still_local, with_args}
use Rattle.xk_cli.proofs.commands.on_file.Goals as goal

pub returns-clause-shape : goal.returns-clause-shape
returns-clause-shape c =
    let start_is : app_of c.about.result ≡ new_app c.args.name.now = ap app_of_fields c.about.ensures ∙ c.new.ensures.app in
    let takes_file = c.in_ok-command.ensures.shape c.place-file.ensures.local ∙ ap₂ with_rule start_is c.place-file.ensures.rule in
    IfOk-weaker c.args-2.result _ _
    (λ r h. with_args _ r c.args.further.items h c.requires ∙ ap (λ a. with_rules a (map rule_of c.args.further.items)) takes_file)
    c.args-2.ensures

pub returns-clause-local : goal.returns-clause-local
returns-clause-local c =
    let start_local : (out-Command c.about.result).has_globals ≡ false = ap (λ f. f.has_globals) c.about.ensures ∙ c.new.ensures.local in
    let file_local = c.in_ok-command.ensures.globals ∙ ap₂ ◌||◌ start_local c.place-file.ensures.local in
    IfOk-weaker c.args-2.result _ _ (λ r h. still_local _ r c.args.further.items h c.requires file_local) c.args-2.ensures
