use Rattle.profile_json.specs.Fault.{fault_of}
use Rattle.profile_json.proofs.reading.PlaceIs.{told_stands}
use Rattle.profile_json.proofs.document.cause_of.Goals as goal

pub returns : goal.returns
returns c bytes native at = told_stands bytes native c.args.refusal.now.place (fault_of c.args.refusal.now.error) at
