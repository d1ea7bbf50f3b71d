use Rattle.std.proofs.Common.{refl}
use Rattle.strace_logs.proofs.WishLaws.{with_keep}
use Rattle.strace_logs.proofs.wish.put_keep.Goals as goal

pub returns : goal.returns
returns c = λ before asks _. with_keep before c.args.wish.now asks _ _ c.args.word.now refl refl refl refl
