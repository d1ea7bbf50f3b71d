use Rattle.std.proofs.Common.{arith}
use Rattle.call_record.proofs.BytesLemmas.{same_from_words_of}
use Rattle.call_record.proofs.laws.same_spelling.Goals as goal

pub returns : goal.returns
returns c =
    same_from_words_of 16 c.args.a.now c.args.b.now (omega arith) (omega arith) (λ i. omega (arith, c.type_inv.a i))
    (λ i. omega (arith, c.type_inv.b i)) c.requires.same
