use Rattle.std.proofs.Common.{refl, sym, ◌∙◌}
use Rattle.strace_logs.proofs.WishLaws.{with_plain}
use Rattle.strace_logs.proofs.wish.put_word.Goals as goal

pub returns-clause-asks : goal.returns-clause-asks
returns-clause-asks c = λ before asks.
    with_plain before c.args.wish.now _ c.args.mark c.args.word c.in_default.is asks c.in_ok-push.ensures.items
    (sym c.is_mark.ensures ∙ c.if-is_mark.false) refl refl
