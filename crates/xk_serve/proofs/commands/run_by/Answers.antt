use Rattle.xk_serve.proofs.commands.run_by.Goals as goal

pub returns : goal.returns
returns g c =
    let given = c.requires.crew c.args.drive c.args.keeps_log c.args.verified c.args.arguments c.requires.taken in
    given.1 c.crew.result c.crew.ensures
