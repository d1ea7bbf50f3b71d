use Rattle.std.proofs.Common.{ℕ, List, Bor}
use Rattle.profile_json.specs.Fault.{missing_key}
use Rattle.serde_json.specs.View.{view}
use Rattle.profile_json.specs.Lookup.{text}
use Rattle.profile_json.proofs.reading.Looking.{needed_found, needed_none}
use Rattle.profile_json.proofs.lookup.text_at.Goals as goal

pub returns-in-Some : goal.returns-in-Some
returns-in-Some c =
    needed_found text (λ (s : Bor (List ℕ)). s.now) c.text_of.result (view c.in-Some.found.now) _ missing_key
    c.in-Some.ensures c.text_of.ensures

pub returns-in-None : goal.returns-in-None
returns-in-None c = needed_none text missing_key _ c.in-None.ensures
