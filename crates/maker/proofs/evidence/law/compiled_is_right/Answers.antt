use Rattle.maker.proofs.CompiledLaws.{compiled}
use Rattle.maker.proofs.evidence.law.compiled_is_right.Goals as goal

pub returns : goal.returns
returns c = compiled
