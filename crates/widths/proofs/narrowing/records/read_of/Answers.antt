use Rattle.std.proofs.Common.{◌≡◌, ◌%◌, ◌^◌, get_or, sym, ◌∙◌, ap, arith}
use Rattle.call_record.specs.Words.{argument}
use Rattle.call_record.specs.Record.{words}
use Rattle.call_record.proofs.RecordLemmas.{argument-words_from, words-is_record}
use Rattle.widths.proofs.WidthLaws.{whole_read}
use Rattle.widths.proofs.narrowing.records.read_of.Goals as goal

pub returns-then-bits-ge64 : goal.returns-then-bits-ge64
returns-then-bits-ge64 c =
    let call = c.args.call.now in
    sym (argument-words_from call.nr call.arch call.ip call.args c.args.index)
    ∙ whole_read (words call) c.args.index (words-is_record call) (omega (arith, c.read_bits-bits.ensures, c.if-bits-ge64.true))

pub returns : goal.returns
returns c =
    let call = c.args.call.now in
    ap (λ u. u % c.power_of_two.result) (sym (argument-words_from call.nr call.arch call.ip call.args c.args.index))
    ∙ ap (λ p. argument (words call) c.args.index % p) (c.power_of_two.ensures ∙ ap (λ b. 2 ^ b) c.read_bits-bits.ensures)
