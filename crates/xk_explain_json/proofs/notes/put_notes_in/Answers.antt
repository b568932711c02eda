use Rattle.xk_explain_json.proofs.PlainLemmas.{notes_in_plain}
use Rattle.xk_explain_json.proofs.notes.put_notes_in.Goals as goal

pub put-requires : goal.put-requires
put-requires c = notes_in_plain c.args.source.now c.args.notes.now _ c.in_ok-list.ensures
