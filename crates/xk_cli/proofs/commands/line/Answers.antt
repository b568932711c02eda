use Rattle.std.proofs.lemmas.Result.{IfOk-weaker}
use Rattle.std.specs.Prelude.{codes}
use Rattle.xk_cli.specs.CommandLine.{check_line, compile_line, events_line, explain_line, lanes_line, listing_line, on_run, outcomes_line, page_line, program, races_line, run_line, span_line, where_line, why_line}
use Rattle.xk_cli.proofs.CommandLineLemmas.{names_of}
use Rattle.xk_cli.proofs.commands.line.Goals as goal

pub returns : goal.returns
returns c =
    let run = names_of c.run_line.result run_line c.run_line.ensures.shape in
    let one = c.add-line.ensures program check_line c.program.ensures c.check_line.ensures.shape c.check_line.ensures.local in
    let two = c.add-line-2.ensures _ explain_line one c.explain_line.ensures.shape c.explain_line.ensures.local in
    let three = c.add-line-3.ensures _ compile_line two c.compile_line.ensures.shape c.compile_line.ensures.local in
    let four = c.add-line-4.ensures _ listing_line three c.listing_line.ensures.shape c.listing_line.ensures.local in
    let five = c.add-line-5.ensures _ (run_line run.0) four run.2 c.run_line.ensures.local in
    let six = c.add-line-6.ensures _ outcomes_line five c.outcomes_line.ensures.shape c.outcomes_line.ensures.local in
    let seven = c.add-line-7.ensures _ races_line six c.races_line.ensures.shape c.races_line.ensures.local in
    let eight = c.add-line-8.ensures _ (on_run (codes "replay")) seven c.replay_line.ensures.shape c.replay_line.ensures.local in
    let nine = c.add-line-9.ensures _ (on_run (codes "chart")) eight c.chart_line.ensures.shape c.chart_line.ensures.local in
    let ten = c.add-line-10.ensures _ events_line nine c.events_line.ensures.shape c.events_line.ensures.local in
    let eleven = c.add-line-11.ensures _ lanes_line ten c.lanes_line.ensures.shape c.lanes_line.ensures.local in
    let twelve = c.add-line-12.ensures _ page_line eleven c.page_line.ensures.shape c.page_line.ensures.local in
    let thirteen = c.add-line-13.ensures _ where_line twelve c.where_line.ensures.shape c.where_line.ensures.local in
    let fourteen = c.add-line-14.ensures _ span_line thirteen c.span_line.ensures.shape c.span_line.ensures.local in
    IfOk-weaker c.add.result _ _ (λ r h. (run.0, run.1, h))
    (c.add.ensures _ why_line fourteen c.why_line.ensures.shape c.why_line.ensures.local)
