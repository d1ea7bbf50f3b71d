use Rattle.std.proofs.Common.{◌≡◌, sym, subst, ◌∙◌}
use Rattle.std.proofs.lemmas.Option.{same_Some}
use Rattle.std.specs.Prelude.{Result, Ok, Err, IfOk, Some}
use Rattle.bpf_insn.specs.Code.{operation_of}
use Rattle.cert_check.specs.Rules.{verdict_by}
use Rattle.cert_form.specs.declared.node.Kind.{Kind}
use Rattle.certify.specs.declared.fault.PathsError.{PathsError}
use Rattle.certify.specs.inner.Places.{known_at}
use Rattle.certify.specs.inner.Plain.{TakesAtReturn}
use Rattle.certify.proofs.following.at_end.Goals as goal

-- a fact of each node that is made
on_ok : (result : Result Kind PathsError) (P Q : Kind → Type 0) → IfOk result P → ((kind : Kind) → P kind → Q kind) → IfOk result Q
on_ok (Ok kind) P Q p f = f kind p
on_ok (Err e) P Q p f = tt

pub returns-in-Some-clause-done : goal.returns-in-Some-clause-done
returns-in-Some-clause-done c =
    let is : verdict_by (operation_of c.args.insn.code) c.args.from.regs c.args.insn ≡ Some c.in-Some.word =
    sym c.verdict_at.ensures ∙ c.in-Some.is in
    on_ok c.at_return.result _ _ c.at_return.ensures.done (λ kind done. (c.in-Some.word, is, done))

pub returns-in-Some-clause-memory : goal.returns-in-Some-clause-memory
returns-in-Some-clause-memory c = λ word nodes is meant takes fits.
    let same : word ≡ c.in-Some.word = same_Some word c.in-Some.word (sym is ∙ sym c.verdict_at.ensures ∙ c.in-Some.is) in
    c.at_return.ensures.memory nodes meant
    (subst (λ w. TakesAtReturn c.args.profile.now (known_at c.args.paths.now.entries.items c.args.from) w nodes) same takes) fits
