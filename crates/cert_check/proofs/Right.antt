-- A valid certificate of an accepted program makes it right.
use Rattle.std.proofs.Common.{◌≡◌, ℕ, Some, sym, ◌∙◌, ap, subst}
use Rattle.std.specs.Option.{option_map}
use Rattle.std.proofs.lemmas.Option.{same_Some}
use Rattle.bpf_insn.specs.Machine.{verdict_of}
use Rattle.kernel_check.proofs.RunLaws.{runs}
use Rattle.profile.specs.Policy.{Says}
use Rattle.profile.proofs.SaidLaws.{each_record_is_said_one_verdict}
use Rattle.cert_check.specs.Right.{ValidIsRight}
use Rattle.cert_check.proofs.SeveralLaws.{return_sound}
use Rattle.cert_check.proofs.Follow.{only_right}

pub right : ValidIsRight
right policy p ns clear accepted valid r rec v =
    let run = runs p r accepted rec.length_is in
    let says = only_right r rec p accepted policy ns (λ n w agrees so told. return_sound r rec policy clear n w agrees so told.0 told.1) valid in
    let gives : verdict_of p r ≡ Some run.0 = ap (λ e. option_map (λ (end : ℕ × ℕ). end.0) e) run.2 in
    let one = each_record_is_said_one_verdict policy r v clear rec in
    let its = each_record_is_said_one_verdict policy r run.0 clear rec in
    let said = says run.0 run.1 run.2 in (
      λ given. subst (Says policy r) (same_Some run.0 v (sym gives ∙ given)) said,
      λ told. gives ∙ ap Some (its.0 said ∙ sym (one.0 told)),
    )
