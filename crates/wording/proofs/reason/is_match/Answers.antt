use Rattle.call_record.specs.Record.{words}
use Rattle.profile.specs.Rule.{Matches}
use Rattle.profile.specs.Said as said
use Rattle.profile.proofs.SaidLaws.{Decides-matches}
use Rattle.wording.proofs.Deciding.{same_answer}
use Rattle.wording.proofs.reason.is_match.Goals as goal

pub returns : goal.returns
returns c =
    same_answer c.matches.result (said.matches c.args.rule.now (words c.args.call.now)) (Matches c.args.rule.now (words c.args.call.now))
    c.matches.ensures (Decides-matches c.args.rule.now (words c.args.call.now))
