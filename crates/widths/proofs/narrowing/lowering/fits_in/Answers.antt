use Rattle.std.proofs.Common.{rules, ◌^◌, ◌<◌, subst}
use Rattle.widths.proofs.LowerLaws.{fits_wider}
use Rattle.widths.specs.Lowered.{FitsIn}
use Rattle.widths.proofs.narrowing.lowering.fits_in.Goals as goal

pub returns-then-bits-ge64 : goal.returns-then-bits-ge64
returns-then-bits-ge64 c =
    let cond = c.args.cond.now in
    let fits : FitsIn c.args.bits cond =
    subst (λ n. n < 2 ^ c.args.bits) c.number_of-number.ensures
    (fits_wider c.number_of-number.result 64 c.args.bits c.number_of-number.type_inv c.if-bits-ge64.true) in
    record { fits = (λ _. fits, λ _. search rules); wide = λ _. search rules }
