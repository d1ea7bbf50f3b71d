use Rattle.std.proofs.Common.{map, sym, ◌∙◌}
use Rattle.engines.proofs.WordLaws.{asked_is}
use Rattle.engines.proofs.HeardLaws.{is_asked}
use Rattle.engines.proofs.ReadLaws.{now_of}
use Rattle.engines.proofs.words.wanted_of.Goals as goal

pub returns : goal.returns
returns c =
    λ w. (
      λ is. asked_is (map now_of c.args.words.now) w (sym c.read.ensures ∙ is),
      λ asks. c.read.ensures ∙ is_asked (map now_of c.args.words.now) w asks,
    )
