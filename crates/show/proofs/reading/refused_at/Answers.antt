use Rattle.std.proofs.Common.{ap, ◌∙◌}
use Rattle.show.proofs.reading.refused_at.Goals as goal

pub returns-clause-text : goal.returns-clause-text
returns-clause-text c = ap (λ v. v.items) c.into_bytes.ensures.value ∙ c.in_ok-write.ensures.bytes
