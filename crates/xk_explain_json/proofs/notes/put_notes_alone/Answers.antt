use Rattle.xk_explain_json.proofs.PlainLemmas.{notes_alone_plain}
use Rattle.xk_explain_json.proofs.notes.put_notes_alone.Goals as goal

pub put-requires : goal.put-requires
put-requires c = notes_alone_plain c.args.notes.now _ c.in_ok-list.ensures
