use Rattle.std.proofs.Common.{[], string_bytes}
use Rattle.call_words.specs.Wrong.{TellsWrongCall}
use Rattle.explain.proofs.RefusedLaws.{refuses}
use Rattle.explain.proofs.refused.refused_word.Goals as goal

pub returns : goal.returns
returns c =
    refuses c.args.native (TellsWrongCall c.args.native c.args.word.now []) (string_bytes c.in_ok-text.text) (string_bytes c.put_why_not.new.text)
    c.told_line.result c.in_ok-text.ensures.ok c.in_ok-put_why_not.ensures c.told_line.ensures
