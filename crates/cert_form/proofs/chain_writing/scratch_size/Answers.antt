use Rattle.std.proofs.Common.{refl, ap, arith}
use Rattle.std.proofs.lemmas.Bool.{ne_eqb}
use Rattle.cert_form.specs.Reading.{ones}
use Rattle.cert_form.proofs.ScratchLaws.{ones_few, length-scratch}
use Rattle.cert_form.proofs.chain_writing.scratch_size.Goals as goal

pub returns-then-version-eq2-clause-size : goal.returns-then-version-eq2-clause-size
returns-then-version-eq2-clause-size c = rw c.if-version-eq2.true refl

pub end_of_scratch-requires : goal.end_of_scratch-requires
end_of_scratch-requires c = omega (arith, ones_few c.bits_of.result 16)

pub returns-clause-size : goal.returns-clause-size
returns-clause-size c =
    let words = c.args.words.now in
    let same = ap (λ b. ones b 16) c.bits_of.ensures in
    rw (ne_eqb c.args.version 2 c.if-version-eq2.false) (omega (arith, c.end_of_scratch.ensures, same, length-scratch words c.told-words))

pub returns-clause-few : goal.returns-clause-few
returns-clause-few c = omega (arith, c.end_of_scratch.ensures, ones_few c.bits_of.result 16)
