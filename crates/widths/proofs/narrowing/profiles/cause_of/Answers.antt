use Rattle.std.proofs.Common.{subst}
use Rattle.widths.specs.inner.Sizes.{IsSize}
use Rattle.widths.proofs.narrowing.profiles.cause_of.Goals as goal

pub unreachable-requires : goal.unreachable-requires
unreachable-requires c = subst IsSize c.in-NativeMissing.is c.requires

pub unreachable-requires-in-MixedFamilies : goal.unreachable-requires-in-MixedFamilies
unreachable-requires-in-MixedFamilies c = subst IsSize c.in-MixedFamilies.is c.requires

pub unreachable-requires-in-ForeignRule : goal.unreachable-requires-in-ForeignRule
unreachable-requires-in-ForeignRule c = subst IsSize c.in-ForeignRule.is c.requires

pub unreachable-requires-in-Overlap : goal.unreachable-requires-in-Overlap
unreachable-requires-in-Overlap c = subst IsSize c.in-Overlap.is c.requires
