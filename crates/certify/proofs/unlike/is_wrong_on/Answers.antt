use Rattle.std.proofs.Common.{◌≡◌, true, false, eqb, refl, sym, subst, ◌∙◌, ⊎_elim}
use Rattle.std.specs.Prelude.{not, Some}
use Rattle.std.proofs.lemmas.Bool.{cases_Bool, eq-eqb, eqb-true}
use Rattle.std.proofs.lemmas.Option.{same_Some}
use Rattle.bpf_insn.specs.Machine.{verdict_of}
use Rattle.call_record.specs.Record.{words}
use Rattle.kernel_check.specs.Lent.{accepted_insns}
use Rattle.profile.specs.Policy.{Says}
use Rattle.profile.proofs.SaidLaws.{each_record_is_said_one_verdict}
use Rattle.certify.proofs.unlike.is_wrong_on.Goals as goal

pub returns : goal.returns
returns c =
    let policy = c.args.profile.now in
    let p = accepted_insns c.args.program.now in
    let r = words c.args.call.now in
    let given = c.result.inside.0 in
    let said = c.result-2.inside.0 in
    let clear = c.rules.ensures.is_profile.clear in
    let is_record = c.words_are_a_record.ensures in
    let gives : verdict_of p r ≡ Some given = subst (λ w. verdict_of p r ≡ Some w) (sym c.result.view_is) c.verdict.ensures in
    let decided : Says policy r said = subst (Says policy r) (sym c.result-2.view_is) c.decide.ensures in (
      λ differ. record {
        is_record = is_record;
        word = given;
        gives = gives;
        unsaid = λ says.
            let same : given ≡ said =
            (each_record_is_said_one_verdict policy r given clear is_record).0 says
            ∙ sym ((each_record_is_said_one_verdict policy r said clear is_record).0 decided) in
            let bad : false ≡ true = subst (λ b. not b ≡ true) (eq-eqb given said same) differ in
            cc;
      },
      λ wrong. ⊎_elim
          (λ (same : eqb given said ≡ true).
          let is : said ≡ wrong.word = sym (eqb-true given said same) ∙ same_Some given wrong.word (sym gives ∙ wrong.gives) in
          absurd (wrong.unsaid (subst (Says policy r) is decided)))
          (λ (other : eqb given said ≡ false). subst (λ b. not b ≡ true) (sym other) refl)
          (cases_Bool (eqb given said)),
    )
