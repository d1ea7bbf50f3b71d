use Rattle.std.proofs.Common.{◌≡◌, string_bytes}
use Rattle.explain.specs.Refused.{no_record}
use Rattle.explain.proofs.RefusedLaws.{refuses}
use Rattle.explain.proofs.refused.refused_digits.Goals as goal

pub returns : goal.returns
returns c =
    refuses c.args.native (λ line. line ≡ no_record) (string_bytes c.in_ok-text.text) (string_bytes c.put_why_no_record.new.text)
    c.told_line.result c.in_ok-text.ensures.ok c.in_ok-put_why_no_record.ensures c.told_line.ensures
