use Rattle.cli.proofs.showing.described.Goals as goal

pub returns : goal.returns
returns c = c.hinted.ensures c.in_ok-meaning.meaning c.in_ok-meaning.ensures c.in_ok-told.ensures
