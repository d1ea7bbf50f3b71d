use Rattle.call_record.specs.Record.{words}
use Rattle.std.proofs.Common.{refl}
use Rattle.compare.proofs.BehindLaws.{not_told}
use Rattle.aside.proofs.AsideLaws.{refutes_too}
use Rattle.aside.proofs.judged.of_found.Goals as goal

pub returns : goal.returns
returns c = λ native bundle same filter taken is_same evidence.
    let aside = c.args.aside.now in
    let found = c.args.found.now in
    refutes_too native bundle same filter aside taken is_same found c.words_are_a_record.ensures
    (not_told aside aside (words found.call) c.is_answered.result c.is_answered.ensures refl c.if-is_answered.false) evidence
