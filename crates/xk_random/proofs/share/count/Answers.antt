use Rattle.xk_random.proofs.ShareLemmas.{counted, room_at}
use Rattle.xk_random.proofs.share.count.Goals as goal

pub overflow_add-index_mut : goal.overflow_add-index_mut
overflow_add-index_mut c =
    let room = room_at c.args.shares.now.entries c.args.place c.index_mut.result.now c.requires.room c.index_mut.ensures.value in
    record { fits = room }

pub returns : goal.returns
returns c = counted c.args.shares.now.entries c.args.place c.index_mut.result.now c.index_mut.ensures.value
