use Rattle.std.proofs.Common.{string_bytes}
use Rattle.call_words.proofs.WrongLaws.{told_no_call}
use Rattle.call_words.proofs.wrong.put_no_call.Goals as goal

pub returns : goal.returns
returns c =
    told_no_call c.args.native c.args.word.now (string_bytes c.args.text.now) (string_bytes c.put_line.new.text) c.in_ok-edits.edits
    c.put_line.result c.in_ok-edits.ensures c.put_line.ensures
