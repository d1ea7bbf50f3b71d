use Rattle.std.proofs.Common.{false}
use Rattle.std.proofs.lemmas.List.{get_or-replicate}
use Rattle.cert_check.proofs.claims.outs.Outs.none.Goals as goal

pub invariant_of-result : goal.invariant_of-result
invariant_of-result c = record { whole = λ k d lt. get_or-replicate 8192 k false d lt }
