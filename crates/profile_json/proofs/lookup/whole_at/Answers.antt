use Rattle.std.proofs.Common.{ℕ}
use Rattle.profile_json.specs.Fault.{missing_key}
use Rattle.serde_json.specs.View.{view}
use Rattle.profile_json.specs.Lookup.{whole}
use Rattle.profile_json.proofs.reading.Looking.{needed_found, needed_none}
use Rattle.profile_json.proofs.lookup.whole_at.Goals as goal

pub returns-in-Some : goal.returns-in-Some
returns-in-Some c =
    needed_found whole (λ (n : ℕ). n) c.whole_of.result (view c.in-Some.found.now) _ missing_key c.in-Some.ensures c.whole_of.ensures

pub returns-in-None : goal.returns-in-None
returns-in-None c = needed_none whole missing_key _ c.in-None.ensures
