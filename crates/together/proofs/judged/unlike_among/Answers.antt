use Rattle.std.proofs.Common.{◌<◌, List, ℕ, length, sym, subst, arith}
use Rattle.std.proofs.lemmas.List.{take_all}
use Rattle.std.proofs.lemmas.List.Elements.{All-more, All-same}
use Rattle.call_record.specs.Words.{IsRecord}
use Rattle.differ.proofs.WalkLaws.{not_some}
use Rattle.together.specs.OnCall.{AgreesAt, AgreesOn, AreSamples}
use Rattle.together.proofs.SampleLaws.{by_samples}
use Rattle.together.proofs.judged.unlike_among.Goals as goal

pub loop-args-preserved : goal.loop-args-preserved
loop-args-preserved c =
    let i = c.loop-args.args-index in
    let items : List (List ℕ) = c.deref-args-items.result.now in
    let lt : i < length items = omega arith in
    All-more (AgreesAt c.args.way c.args.profiles.now c.args.joined.now c.args.call.now) items i _ lt c.loop-args.invariant
    (record {
      is_record = subst IsRecord c.record_of-record.ensures c.words_are_a_record.ensures;
      agrees =
          subst (AgreesOn c.args.way c.args.profiles.now c.args.joined.now) c.record_of-record.ensures
          (not_some c.in_ok-found.field-0 _ c.in_default.not-Some c.in_ok-found.ensures.none);
    })

pub returns-clause-none : goal.returns-clause-none
returns-clause-none c =
    let items : List (List ℕ) = c.deref-args-items.result.now in
    by_samples c.args.way c.args.profiles.now c.args.joined.now c.args.call.now items
    (subst (AreSamples c.args.profiles.now c.args.joined.now c.args.call.now 6) (sym c.deref-args-items.ensures.value) c.in-Ok.ensures.ok)
    (All-same (AgreesAt c.args.way c.args.profiles.now c.args.joined.now c.args.call.now) _ _ (sym (take_all c.loop-args.args-index items (omega arith)))
    c.loop-args.invariant)
