use Rattle.call_record.specs.Record.{words}
use Rattle.strace_logs.proofs.reasons.said_of.Goals as goal

pub returns : goal.returns
returns c =
    (c.each_record_is_said_one_verdict.ensures c.args.profile.now (words c.args.call.now) c.decide.result c.rules-rules.ensures.is_profile.clear
    c.words_are_a_record.ensures).0 c.decide.ensures
