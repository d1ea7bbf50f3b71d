use Rattle.std.proofs.Common.{ℕ}
use Rattle.serde_json.specs.View.{view}
use Rattle.profile_json.specs.Lookup.{whole}
use Rattle.profile_json.proofs.reading.Looking.{default_found, default_none}
use Rattle.profile_json.proofs.lookup.whole_or_zero.Goals as goal

pub returns-in-Some : goal.returns-in-Some
returns-in-Some c =
    default_found whole (λ (n : ℕ). n) c.whole_of.result (view c.in-Some.found.now) _ 0 c.in-Some.ensures c.whole_of.ensures

pub returns-in-None : goal.returns-in-None
returns-in-None c = default_none whole 0 _ c.in-None.ensures
