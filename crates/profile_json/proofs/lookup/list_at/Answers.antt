use Rattle.std.proofs.Common.{List, Bor, map}
use Rattle.serde_json.specs.declared.value.Value.{Value}
use Rattle.profile_json.specs.Fault.{missing_key}
use Rattle.serde_json.specs.View.{view}
use Rattle.profile_json.specs.Lookup.{list}
use Rattle.profile_json.proofs.reading.Looking.{needed_found, needed_none}
use Rattle.profile_json.proofs.lookup.list_at.Goals as goal

pub returns-in-Some : goal.returns-in-Some
returns-in-Some c =
    needed_found list (λ (xs : Bor (List Value)). map view xs.now) c.list_of.result (view c.in-Some.found.now) _ missing_key
    c.in-Some.ensures c.list_of.ensures

pub returns-in-None : goal.returns-in-None
returns-in-None c = needed_none list missing_key _ c.in-None.ensures
