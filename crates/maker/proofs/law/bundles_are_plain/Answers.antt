use Rattle.maker.proofs.BundleLaws as laws
use Rattle.maker.proofs.law.bundles_are_plain.Goals as goal

pub returns : goal.returns
returns c = laws.bundles_are_plain
