use Rattle.std.proofs.Common.{◌≡◌, List, [], Option, refl, Some, None, option_map, sym, subst, ap, ◌∙◌}
use Rattle.std.specs.Prelude.{Box}
use Rattle.std.specs.Box.{box_value}
use Rattle.std.proofs.lemmas.Result.{IfErr-weaker, IfOk-weaker}
use Rattle.clap.specs.Words.{Row, Text, found_of, rows_of, subcommand_rows}
use Rattle.clap.specs.declared.parser.matches.SubCommand.{SubCommand}
use Rattle.clap.specs.declared.parser.matches.ArgMatches.TheViews.{out-SubCommand, out-ArgMatches}
use Rattle.xk_cli.specs.declared.words_fault.WordsFault.{WordsFault}
use Rattle.xk_cli.specs.CommandLine.{IsRefused, asked_in, misfits_by}
use Rattle.xk_cli.proofs.request.asked.Goals as goal

-- what was found is refused with this fault
abbrev IsRefusedBy : WordsFault → Option (Text × List Row) → Type 0
IsRefusedBy fault found = IsRefused [] (asked_in found) (misfits_by found) fault

-- the name of a subcommand that was found
abbrev name_found : {Z : Type 0} → Option (Box SubCommand Z) → Option Text
name_found = option_map (λ b. (out-SubCommand (box_value b)).name.now)

-- a name and rows that were found are those of the subcommand
both_found : {Z : Type 0} (s : Option (Box SubCommand Z)) (name : Text) (rows : List Row)
    → Some name ≡ name_found s → Some rows ≡ option_map (λ p. p.1) (subcommand_rows s) → Some (name, rows) ≡ subcommand_rows s
both_found None name rows n r = cc
both_found (Some b) name rows n r = cc

-- where no name was found, no subcommand was
none_found : {Z : Type 0} (s : Option (Box SubCommand Z)) → None ≡ name_found s → None ≡ subcommand_rows s
none_found None n = refl
none_found (Some b) n = cc

pub returns-in-Some-clause-job : goal.returns-in-Some-clause-job
returns-in-Some-clause-job c =
    let found = both_found (out-ArgMatches c.args.matches.now).subcommand
    c.in-Some.name.now (rows_of (found_of c.in-Some.given.now)) c.in-Some.ensures.name c.in-Some.ensures.rows in
    IfOk-weaker c.asked_by.result _ _ (λ asked h. sym (ap asked_in found) ∙ h) c.asked_by.ensures.job

pub returns-in-Some-clause-refused : goal.returns-in-Some-clause-refused
returns-in-Some-clause-refused c =
    let found = both_found (out-ArgMatches c.args.matches.now).subcommand
    c.in-Some.name.now (rows_of (found_of c.in-Some.given.now)) c.in-Some.ensures.name c.in-Some.ensures.rows in
    IfErr-weaker c.asked_by.result _ _ (λ fault h. subst (IsRefusedBy fault) found h) c.asked_by.ensures.refused

pub returns-in-None-clause-refused : goal.returns-in-None-clause-refused
returns-in-None-clause-refused c =
    subst (IsRefusedBy c.not_a_job.result) (none_found (out-ArgMatches c.args.matches.now).subcommand c.in-None.ensures.name) c.not_a_job.ensures
