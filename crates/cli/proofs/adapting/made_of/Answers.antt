use Rattle.std.specs.Prelude.{string_bytes}
use Rattle.cli.proofs.WantedLaws.{made_narrow}
use Rattle.cli.proofs.adapting.made_of.Goals as goal

pub returns-then-has_narrow : goal.returns-then-has_narrow
returns-then-has_narrow c =
    made_narrow c.args.native c.args.wanted.now.choice c.args.words.now c.narrowed.result (c.has_narrow.ensures.0 c.if-has_narrow.true)
    (c.narrowed.ensures c.args.wanted.now.choice (string_bytes c.in_ok-made.made.draft, c.in_ok-made.ensures))
