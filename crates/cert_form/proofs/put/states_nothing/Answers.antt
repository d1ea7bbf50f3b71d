use Rattle.std.proofs.Common.{ap, arith}
use Rattle.std.proofs.lemmas.Bool.{eqb-true, eq-eqb}
use Rattle.cert_form.specs.Spelling.{stated_bits}
use Rattle.cert_form.proofs.WriteLaws.{no_scratch}
use Rattle.cert_form.proofs.put.states_nothing.Goals as goal

pub returns : goal.returns
returns c =
    let bits = c.bits_of.result in (
      λ t. no_scratch c.args.scratch.now c.told-scratch (omega (arith, c.bits_of.ensures, eqb-true bits 0 t)),
      λ same. eq-eqb bits 0 (omega (arith, c.bits_of.ensures, ap stated_bits same)),
    )
