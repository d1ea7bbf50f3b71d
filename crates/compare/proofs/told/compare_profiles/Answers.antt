use Rattle.std.proofs.Common.{subst}
use Rattle.machines.specs.declared.arch.Family.{Family}
use Rattle.machines.specs.Arch.{family_of}
use Rattle.compare.specs.Outcome.{IsComparison}
use Rattle.compare.proofs.ToldLaws.{are_told}
use Rattle.compare.proofs.told.compare_profiles.Goals as goal

pub returns : goal.returns
returns c =
    let p = c.args.one.now in
    let q = c.args.other.now in
    are_told c.args.atmost (family_of c.args.native) p q c.in_ok-comparison.comparison c.told.result
    (subst (λ (family : Family). IsComparison family p q c.in_ok-comparison.comparison) c.family.ensures c.in_ok-comparison.ensures.is)
    c.in_ok-comparison.ensures.equal c.told.ensures
