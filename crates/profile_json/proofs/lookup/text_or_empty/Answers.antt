use Rattle.std.proofs.Common.{ℕ, List, [], Bor}
use Rattle.serde_json.specs.View.{view}
use Rattle.profile_json.specs.Lookup.{text}
use Rattle.profile_json.proofs.reading.Looking.{default_found, default_none}
use Rattle.profile_json.proofs.lookup.text_or_empty.Goals as goal

pub returns-in-Some : goal.returns-in-Some
returns-in-Some c =
    default_found text (λ (s : Bor (List ℕ)). s.now) c.text_of.result (view c.in-Some.found.now) _ [] c.in-Some.ensures c.text_of.ensures

pub returns-in-None : goal.returns-in-None
returns-in-None c = default_none text [] _ c.in-None.ensures
