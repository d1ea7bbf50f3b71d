use Rattle.std.proofs.Common.{Bor}
use Rattle.serde_json.specs.declared.value.Value.{Value}
use Rattle.profile_json.specs.Fault.{no_seccomp}
use Rattle.serde_json.specs.View.{view}
use Rattle.profile_json.specs.Lookup.{object}
use Rattle.profile_json.proofs.reading.Looking.{needed_found, needed_none}
use Rattle.profile_json.proofs.root.object_at.Goals as goal

pub returns-in-Some : goal.returns-in-Some
returns-in-Some c =
    needed_found object (λ (v : Bor Value). view v.now) c.object_of.result (view c.in-Some.found.now) _ no_seccomp
    c.in-Some.ensures c.object_of.ensures

pub returns-in-None : goal.returns-in-None
returns-in-None c = needed_none object no_seccomp _ c.in-None.ensures
