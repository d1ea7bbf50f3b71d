use Rattle.serde_json.specs.View.{view}
use Rattle.machines.specs.Arch.{family_of}
use Rattle.profile_json.specs.Fault.{fault_of}
use Rattle.profile_json.specs.inner.View.{said_parts}
use Rattle.profile_json.proofs.reading.RootLaws.{root_means}
use Rattle.profile_json.proofs.reading.ArchLaws.{listed_of_family}
use Rattle.profile_json.proofs.reading.BundleLaws.{said_means, bundle_means, rules_are_of}
use Rattle.profile_json.proofs.reading.PlaceTop.{root_at, said_at, made_at}
use Rattle.profile_json.proofs.place.bundle_of.Goals as goal

pub returns-in-Err-clause-err : goal.returns-in-Err-clause-err
returns-in-Err-clause-err c text is =
    root_at text c.args.native (view c.args.value.now) is (fault_of c.in-Err.error) c.in-Err.ensures

pub returns-in-Err-said_of-clause-err : goal.returns-in-Err-said_of-clause-err
returns-in-Err-said_of-clause-err c text is =
    let root = root_means (family_of c.args.native) (view c.args.value.now) (view c.in-Ok.seccomp.now) c.in-Ok.ensures in
    said_at text c.args.native (view c.args.value.now) is (view c.in-Ok.seccomp.now) root
    c.in-Err-said_of.told.place (fault_of c.in-Err-said_of.told.error) c.in-Err-said_of.ensures.err

pub profile_of-requires-clause-of_family : goal.profile_of-requires-clause-of_family
profile_of-requires-clause-of_family c =
    let said = said_means (view c.in-Ok.seccomp.now) c.args.native (said_parts c.in-Ok-said_of.said) c.in-Ok-said_of.ensures.ok in
    listed_of_family (view c.in-Ok.seccomp.now) c.args.native c.in-Ok-said_of.said.archs.items said.archs

pub returns-in-Ok-rules_said-clause-ok : goal.returns-in-Ok-rules_said-clause-ok
returns-in-Ok-rules_said-clause-ok c =
    let root = root_means (family_of c.args.native) (view c.args.value.now) (view c.in-Ok.seccomp.now) c.in-Ok.ensures in
    let said = said_means (view c.in-Ok.seccomp.now) c.args.native (said_parts c.in-Ok-said_of.said) c.in-Ok-said_of.ensures.ok in
    bundle_means (view c.args.value.now) (view c.in-Ok.seccomp.now) c.args.native (said_parts c.in-Ok-said_of.said)
    c.in-Ok-profile_of.profile root said c.in-Ok-profile_of.ensures.ok

pub returns-in-Ok-rules_said-clause-rules : goal.returns-in-Ok-rules_said-clause-rules
returns-in-Ok-rules_said-clause-rules c text is =
    let root = root_means (family_of c.args.native) (view c.args.value.now) (view c.in-Ok.seccomp.now) c.in-Ok.ensures in
    let said = said_means (view c.in-Ok.seccomp.now) c.args.native (said_parts c.in-Ok-said_of.said) c.in-Ok-said_of.ensures.ok in
    rules_are_of text (view c.args.value.now) (view c.in-Ok.seccomp.now) c.args.native (said_parts c.in-Ok-said_of.said) _ _
    is root said c.in-Ok-rules_said.ensures.rules c.in-Ok-rules_said.ensures.ends

pub returns-in-Err-profile_of-clause-err : goal.returns-in-Err-profile_of-clause-err
returns-in-Err-profile_of-clause-err c text is =
    let root = root_means (family_of c.args.native) (view c.args.value.now) (view c.in-Ok.seccomp.now) c.in-Ok.ensures in
    let said = said_means (view c.in-Ok.seccomp.now) c.args.native (said_parts c.in-Ok-said_of.said) c.in-Ok-said_of.ensures.ok in
    made_at text c.args.native (view c.args.value.now) is (view c.in-Ok.seccomp.now) root
    (said_parts c.in-Ok-said_of.said) (fault_of c.in-Err-profile_of.error) said c.in-Err-profile_of.ensures.err
