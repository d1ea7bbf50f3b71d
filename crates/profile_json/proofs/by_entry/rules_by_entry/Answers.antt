use Rattle.std.proofs.lemmas.Result.{err_from_is_err_and}
use Rattle.serde_json.specs.View.{view}
use Rattle.machines.specs.Arch.{family_of}
use Rattle.profile_json.specs.inner.View.{said_parts}
use Rattle.profile_json.proofs.reading.RootLaws.{root_means}
use Rattle.profile_json.proofs.reading.BundleLaws.{said_means, root_fault, rules_are_of}
use Rattle.profile_json.proofs.reading.PlaceTop.{said_at}
use Rattle.profile_json.proofs.reading.PlaceIs.{told_stands}
use Rattle.profile_json.specs.Fault.{fault_of}
use Rattle.profile_json.proofs.by_entry.rules_by_entry.Goals as goal

pub returns-in_err-seccomp-clause-err : goal.returns-in_err-seccomp-clause-err
returns-in_err-seccomp-clause-err c =
    let p = err_from_is_err_and c.from_residual-in_err-seccomp.result c.from_residual-in_err-seccomp.ensures.1 in
    rw (p.1, p.2) (root_fault c.args.text.now c.args.native (view c.in_ok-value.value) _ c.in_ok-value.ensures.ok c.in_err-seccomp.ensures)

pub returns-in-Err-clause-err : goal.returns-in-Err-clause-err
returns-in-Err-clause-err c =
    let root = root_means (family_of c.args.native) (view c.in_ok-value.value) (view c.in_ok-seccomp.seccomp.now) c.in_ok-seccomp.ensures in
    told_stands c.args.text.now c.args.native c.in-Err.told.place (fault_of c.in-Err.told.error)
    (said_at c.args.text.now c.args.native (view c.in_ok-value.value) c.in_ok-value.ensures.ok (view c.in_ok-seccomp.seccomp.now) root
    c.in-Err.told.place (fault_of c.in-Err.told.error) c.in-Err.ensures.err)

pub returns-clause-ok : goal.returns-clause-ok
returns-clause-ok c =
    let root = root_means (family_of c.args.native) (view c.in_ok-value.value) (view c.in_ok-seccomp.seccomp.now) c.in_ok-seccomp.ensures in
    let said = said_means (view c.in_ok-seccomp.seccomp.now) c.args.native (said_parts c.in-Ok.said) c.in-Ok.ensures.ok in
    rules_are_of c.args.text.now (view c.in_ok-value.value) (view c.in_ok-seccomp.seccomp.now) c.args.native (said_parts c.in-Ok.said) _ _
    c.in_ok-value.ensures.ok root said c.in_ok-rules_said.ensures.rules c.in_ok-rules_said.ensures.ends
