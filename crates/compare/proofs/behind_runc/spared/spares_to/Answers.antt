use Rattle.std.proofs.Common.{◌≤◌, All, List, arith, subst, sym}
use Rattle.machines.specs.declared.numbers.Numbers.{Numbers}
use Rattle.compare.specs.inner.Spans.{AreLeftIn}
use Rattle.compare.proofs.SparedLaws.{of_spared, spared_of}
use Rattle.compare.proofs.behind_runc.spared.spares_to.Goals as goal

pub returns : goal.returns
returns c =
    let below = c.ranges.last.fits in
    let same = c.requires in
    let most : c.args.calls.now.numbers.last ≤ 0xffffffff = omega (arith, below, same) in (
      λ h. record {
        each = spared_of c.args.profile.now c.args.calls.now
            (subst (λ (all : List Numbers). All (AreLeftIn c.args.profile.now c.args.calls.now) all) c.spans.ensures
            (c.are_spared_in_each.ensures.0 h))
            most;
      },
      λ s. c.are_spared_in_each.ensures.1
          (subst (λ (all : List Numbers). All (AreLeftIn c.args.profile.now c.args.calls.now) all) (sym c.spans.ensures)
          (of_spared c.args.profile.now c.args.calls.now s.each)),
    )
