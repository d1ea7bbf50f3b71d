use Rattle.std.proofs.Common.{◌≡◌, ◌≢◌, ◌∙◌, ap, refl, rules, sym, subst, arith}
use Rattle.bpf_insn.specs.Bytes.{spelling}
use Rattle.kernel_check.specs.Accepted.{IsAccepted}
use Rattle.kernel_check.specs.Lent.{accepted_insns}
use Rattle.cert_form.specs.Reading.{version_of}
use Rattle.cert_form.specs.Views.{nodes_of}
use Rattle.cert_check.specs.declared.fault.CheckError.TheVariants.{OutOfMemory}
use Rattle.cert_check.specs.Certified.{IsFirst}
use Rattle.cert_check.specs.Checked.{cert_of, profile_of, program_of}
use Rattle.cert_check.specs.Valid.{IsValidCertificate}
use Rattle.cert_check.specs.inner.Broken.{IsFound, error_of}
use Rattle.cert_check.proofs.FirstLaws.{first_found}
use Rattle.cert_check.proofs.CheckLaws.{count_of_nodes, form_is_first, form_memory, no_memory, only_the_profiles}
use Rattle.cert_check.proofs.Right.{right}
use Rattle.cert_check.proofs.ValidLaws.{only_memory}
use Rattle.cert_check.proofs.checking.checked.Goals as goal

pub returns-in-Err-clause-first : goal.returns-in-Err-clause-first
returns-in-Err-clause-first c =
    let filter = spelling (accepted_insns c.args.program.now) in
    let accepted = subst IsAccepted (sym c.is_read.ensures.read) c.is_read.ensures.accepted in
    rw c.error_of.ensures (form_is_first c.args.profile.now filter c.args.cert.now c.is_read.ensures.whole accepted c.in-Err.e
    c.in-Err.ensures.fault c.in-Err.ensures.only)

pub returns-in-Err-clause-never : goal.returns-in-Err-clause-never
returns-in-Err-clause-never c = λ valid. c.error_of.ensures ∙ ap error_of (c.in-Err.ensures.only valid.0 valid.1)

pub returns-in-Err-clause-memory : goal.returns-in-Err-clause-memory
returns-in-Err-clause-memory c = λ e. form_memory c.args.cert.now c.in-Err.e c.in-Err.ensures.fault (sym c.error_of.ensures ∙ e)

pub check_nodes-requires-clause-some : goal.check_nodes-requires-clause-some
check_nodes-requires-clause-some c =
    let count = count_of_nodes c.args.cert.now (nodes_of c.in-Ok.view) c.in-Ok.ensures.found in omega (arith, count.0)

pub check_nodes-requires-clause-few : goal.check_nodes-requires-clause-few
check_nodes-requires-clause-few c =
    let count = count_of_nodes c.args.cert.now (nodes_of c.in-Ok.view) c.in-Ok.ensures.found in omega (arith, count.1)

pub returns-in_err-check_nodes-clause-first : goal.returns-in_err-check_nodes-clause-first
returns-in_err-check_nodes-clause-first c =
    let e = c.in_err-check_nodes.field-0.0 in
    let ns = nodes_of c.in-Ok.view in
    let filter = spelling (accepted_insns c.args.program.now) in
    let accepted = subst IsAccepted (sym c.is_read.ensures.read) c.is_read.ensures.accepted in
    let found = subst (λ p. IsFound c.args.profile.now p ns e) (sym c.is_read.ensures.read) c.in_err-check_nodes.ensures in
    let first : e ≢ OutOfMemory → IsFirst c.args.profile.now filter c.args.cert.now e =
    λ _. first_found c.args.profile.now filter c.args.cert.now c.is_read.ensures.whole accepted ns c.in-Ok.ensures.found c.in-Ok.ensures.only e found in
    search (rules, first)

pub returns-in_err-check_nodes-clause-never : goal.returns-in_err-check_nodes-clause-never
returns-in_err-check_nodes-clause-never c =
    let e = c.in_err-check_nodes.field-0.0 in
    let policy = c.args.profile.now in
    let p = accepted_insns c.args.program.now in
    let ns = nodes_of c.in-Ok.view in
    let filter = spelling p in
    let accepted = subst IsAccepted (sym c.is_read.ensures.read) c.is_read.ensures.accepted in
    let found = subst (λ q. IsFound policy q ns e) (sym c.is_read.ensures.read) c.in_err-check_nodes.ensures in
    let never : IsValidCertificate policy p c.args.cert.now → e ≡ OutOfMemory =
    only_memory policy filter c.args.cert.now p c.is_read.ensures.read c.is_read.ensures.whole c.is_read.ensures.accepted e
    (λ _. first_found policy filter c.args.cert.now c.is_read.ensures.whole accepted ns c.in-Ok.ensures.found c.in-Ok.ensures.only e found) in
    search (rules, never)

pub returns-in_err-check_nodes-clause-memory : goal.returns-in_err-check_nodes-clause-memory
returns-in_err-check_nodes-clause-memory c =
    let e = c.in_err-check_nodes.field-0.0 in
    let none : e ≢ OutOfMemory =
    no_memory c.args.profile.now (accepted_insns c.args.program.now) (nodes_of c.in-Ok.view) e c.in_err-check_nodes.ensures in
    let never : e ≡ OutOfMemory → version_of c.args.cert.now ≡ 1 = λ same. absurd (none same) in
    search (rules, never)

pub invariant_of-result : goal.invariant_of-result
invariant_of-result c =
    let policy = c.args.profile.now in
    let p = accepted_insns c.args.program.now in
    let clear = c.rules_are_clear.ensures in record {
      right = only_the_profiles policy p clear (right policy p (nodes_of c.in-Ok.view) clear c.is_read.ensures.accepted c.in_ok-check_nodes.ensures);
    }

pub returns-clause-profile : goal.returns-clause-profile
unfolding profile_of
returns-clause-profile c = refl

pub returns-clause-program : goal.returns-clause-program
unfolding program_of
returns-clause-program c = refl

pub returns-clause-cert : goal.returns-clause-cert
unfolding cert_of
returns-clause-cert c = refl

pub returns-clause-right : goal.returns-clause-right
returns-clause-right c =
    right c.args.profile.now (accepted_insns c.args.program.now) (nodes_of c.in-Ok.view) c.rules_are_clear.ensures
    c.is_read.ensures.accepted c.in_ok-check_nodes.ensures

pub returns-clause-valid : goal.returns-clause-valid
returns-clause-valid c = (nodes_of c.in-Ok.view, c.in-Ok.ensures.found, c.in_ok-check_nodes.ensures)
