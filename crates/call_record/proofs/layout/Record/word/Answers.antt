use Rattle.std.proofs.Common.{arith, ◌∷◌, ◌-◌, ◌/◌}
use Rattle.call_record.proofs.RecordLemmas.{low_word, high_word}
use Rattle.call_record.proofs.layout.Record.word.Goals as goal

pub returns-then-i-eq0-2 : goal.returns-then-i-eq0-2
returns-then-i-eq0-2 c =
    low_word c.args.self.now.nr c.args.self.now.arch (c.args.self.now.ip ∷ c.args.self.now.args) c.args.i (c.args.i / 2 - 1) _
    (omega arith) c.wide-wide.ensures.some c.wide-wide.ensures.value

pub returns-else-i-eq0-2 : goal.returns-else-i-eq0-2
returns-else-i-eq0-2 c =
    high_word c.args.self.now.nr c.args.self.now.arch (c.args.self.now.ip ∷ c.args.self.now.args) c.args.i (c.args.i / 2 - 1) _
    (omega arith) c.wide-wide.ensures.some c.wide-wide.ensures.value
