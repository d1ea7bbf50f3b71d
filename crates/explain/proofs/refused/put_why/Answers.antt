use Rattle.std.proofs.Common.{string_bytes}
use Rattle.machines.specs.Arch.{family_of}
use Rattle.call_words.specs.Wrong.{TellsWrong}
use Rattle.explain.proofs.RefusedLaws.{no_reason, the_reason}
use Rattle.explain.proofs.refused.put_why.Goals as goal

pub returns-in-Chosen : goal.returns-in-Chosen
returns-in-Chosen c =
    no_reason (family_of c.args.native) (TellsWrong c.args.native c.args.words.now) (string_bytes c.args.text.now)
    (string_bytes c.args.text.now) c.in-Chosen.ensures

pub returns-in-Whole : goal.returns-in-Whole
returns-in-Whole c =
    the_reason (family_of c.args.native) (TellsWrong c.args.native c.args.words.now) (string_bytes c.args.text.now)
    (string_bytes c.put_wrong.new.text) c.put_wrong.result c.in-Whole.ensures c.put_wrong.ensures
