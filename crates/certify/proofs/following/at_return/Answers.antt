use Rattle.std.proofs.Common.{◌≡◌, ℕ, List, [], sym, refl, subst, ap, length, arith, inl, inr}
use Rattle.std.proofs.lemmas.Bool.{iff_false}
use Rattle.std.specs.Prelude.{All}
use Rattle.call_record.specs.Record.{words}
use Rattle.kernel_check.specs.Lent.{accepted_insns}
use Rattle.profile.specs.Said.{said}
use Rattle.profile.proofs.SaidLaws.{each_record_is_said_one_verdict}
use Rattle.cert_state.specs.declared.literal.Lit.{Lit}
use Rattle.cert_state.specs.Literals.{IsLit}
use Rattle.cert_check.specs.Agree.{Agrees}
use Rattle.cert_check.specs.Settled.{AreStated}
use Rattle.certify.specs.Fault.{IsWrongOn}
use Rattle.certify.specs.inner.Places.{known_at}
use Rattle.certify.specs.inner.Plain.{PartsAtReturn}
use Rattle.certify.proofs.CallLaws.{unsettled_there}
use Rattle.certify.proofs.FitLaws.{if_ok, only_memory}
use Rattle.certify.proofs.LitLaws.{known_lits}
use Rattle.certify.proofs.StatedLaws.{stated_by_record}
use Rattle.certify.proofs.ShapeLaws.{right}
use Rattle.certify.proofs.ToldLaws.{of_size, right_not_wrong, truly_of_size}
use Rattle.certify.proofs.following.at_return.Goals as goal

pub returns-in-Err-clause-truly : goal.returns-in-Err-clause-truly
returns-in-Err-clause-truly c =
    truly_of_size c.args.profile.now (accepted_insns c.args.program.now) c.split.result c.split.ensures.size

pub returns-in-Err-clause-wrong : goal.returns-in-Err-clause-wrong
returns-in-Err-clause-wrong c = λ gives.
    of_size c.args.profile.now (accepted_insns c.args.program.now) c.split.result c.split.ensures.size

pub returns-in-Ok-clause-wrong : goal.returns-in-Ok-clause-wrong
returns-in-Ok-clause-wrong c = λ gives.
    let es = c.args.paths.now.entries.items in
    let policy = c.args.profile.now in
    let known : List Lit = known_at es c.args.from in
    let lits : All IsLit known = known_lits es c.args.from.chain c.requires.paths.entries in
    let r : List ℕ = words c.in-Ok.call in
    let told : AreStated known r = subst (λ ls. AreStated ls r) c.known-known.ensures c.in-Ok.ensures.stated in
    let by = stated_by_record known lits r c.settles.ensures.is_record told c.requires.alive in
    let agrees : Agrees policy [] [] known (said policy r) =
    c.settles.ensures.settled policy known r c.settles.ensures.is_profile.machines_in_order by.is_record by.all_hold by.stated in
    let wrong : IsWrongOn policy (accepted_insns c.args.program.now) r = record {
      is_record = by.is_record;
      word = c.args.word;
      gives = gives r by.is_record by.all_hold;
      unsaid = λ says.
          let is : c.args.word ≡ said policy r =
          (each_record_is_said_one_verdict policy r c.args.word c.settles.ensures.is_profile.clear by.is_record).0 says in
          iff_false c.is_settled.ensures c.if-is_settled.false
          (subst (λ ls. Agrees policy [] [] ls c.args.word) (sym c.known-known.ensures)
          (subst (λ v. Agrees policy [] [] known v) (sym is) agrees));
    } in
    c.tried.ensures.wrong wrong

-- ---- of a profile without conditions

pub returns-then-is_wrong_on-clause-memory : goal.returns-then-is_wrong_on-clause-memory
returns-then-is_wrong_on-clause-memory c = λ nodes meant takes fits.
    let policy = c.args.profile.now in
    let p = accepted_insns c.args.program.now in
    absurd (right_not_wrong policy p (right policy p meant.plain meant.shape) (words c.likely_record-likely.result)
    (c.is_wrong_on.ensures.0 c.if-is_wrong_on.true))

pub returns-in-Err-clause-parts : goal.returns-in-Err-clause-parts
returns-in-Err-clause-parts c = λ nodes meant takes.
    if_ok c.split.result _ _ (λ kind parted. inr parted)
    (c.split.ensures.parts c.args.profile.now c.args.word nodes
    (subst (λ ls. PartsAtReturn c.args.profile.now ls c.args.word nodes c.in-Err.cut.one c.in-Err.cut.other) c.known-known.ensures
    (c.in-Err.ensures.plain c.args.word nodes (unsettled_there c.args.profile.now (accepted_insns c.args.program.now) meant (known_at c.args.paths.now.entries.items c.args.from)
    _ c.args.word nodes c.known-known.ensures takes c.requires.alive
    (λ agrees. iff_false c.is_settled.ensures c.if-is_settled.false agrees)))))

pub returns-in-Err-clause-memory : goal.returns-in-Err-clause-memory
returns-in-Err-clause-memory c = λ nodes meant takes fits.
    let parts = c.in-Err.ensures.plain c.args.word nodes (unsettled_there c.args.profile.now (accepted_insns c.args.program.now) meant (known_at c.args.paths.now.entries.items c.args.from)
    _ c.args.word nodes c.known-known.ensures takes c.requires.alive
    (λ agrees. iff_false c.is_settled.ensures c.if-is_settled.false agrees)) in
    let first = parts.first_takes in
    let second = parts.second_takes in
    let less = parts.enough in
    let one = first.some in
    let two = second.some in
    let short = first.short in
    only_memory c.args.paths.now c.args.from c.requires.from nodes 2 c.split.result fits (omega (arith, less, one, two))
    (omega (arith, short, ap length c.known-known.ensures)) c.split.ensures.refused

pub returns-in-Ok-clause-memory : goal.returns-in-Ok-clause-memory
returns-in-Ok-clause-memory c = λ nodes meant takes fits. absurd (c.in-Ok.ensures.never c.args.word nodes (unsettled_there c.args.profile.now (accepted_insns c.args.program.now) meant (known_at c.args.paths.now.entries.items c.args.from)
    _ c.args.word nodes c.known-known.ensures takes c.requires.alive
    (λ agrees. iff_false c.is_settled.ensures c.if-is_settled.false agrees)))

pub returns-then-is_settled-clause-parts : goal.returns-then-is_settled-clause-parts
returns-then-is_settled-clause-parts c = λ nodes meant takes. inl refl
