use Rattle.std.proofs.Common.{◌≡◌, string_bytes}
use Rattle.machines.specs.Arch.{family_of}
use Rattle.explain.specs.Refused.{no_record}
use Rattle.explain.proofs.RefusedLaws.{no_reason, one_reason}
use Rattle.explain.proofs.refused.put_why_no_record.Goals as goal

pub returns-in-Chosen : goal.returns-in-Chosen
returns-in-Chosen c =
    no_reason (family_of c.args.native) (λ line. line ≡ no_record) (string_bytes c.args.text.now) (string_bytes c.args.text.now)
    c.in-Chosen.ensures

pub returns-in-Whole : goal.returns-in-Whole
returns-in-Whole c =
    one_reason (family_of c.args.native) (λ line. line ≡ no_record) (string_bytes c.args.text.now) (string_bytes c.put_no_record.new.text)
    no_record c.put_no_record.result c.in-Whole.ensures c.put_no_record.ensures
