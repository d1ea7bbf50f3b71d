use Rattle.std.proofs.Common.{◌≡◌, ◌+◌, List, Some, refl, sym, subst, ap, ◌∙◌, arith, length}
use Rattle.std.specs.Prelude.{slice_get}
use Rattle.std.proofs.lemmas.List.{length-set}
use Rattle.std.proofs.lemmas.Option.{slice_get-get_or}
use Rattle.profile.specs.declared.rules.Rule.{Rule}
use Rattle.cert_check.specs.inner.Asked.{known_of}
use Rattle.cert_check.specs.inner.Told.{AreTold}
use Rattle.cert_check.proofs.ToldLaws.{none_told, one_told}
use Rattle.cert_check.proofs.judging.Agreement.tell_all.Goals as goal
use Rattle.cert_check.proofs.judging.Agreement.tell_all.Goals.{then-is_wanted, else-is_wanted}

pub loop-rule-init : goal.loop-rule-init
loop-rule-init g c =
    let a = c.args.self.now in
    record {
      told = subst (AreTold a.profile.now (known_of a) a.word) (sym c.requires) (none_told a.profile.now (known_of a) a.word 8192);
      place = refl;
    }

pub loop-rule-preserved : goal.loop-rule-preserved
loop-rule-preserved g c =
    let a = c.args.self.now in
    let known = known_of a in
    let rules = c.rules-rule-items.result.now in
    let n = c.loop-rule.rule-index in
    let place = c.loop-rule.place in
    let rule = c.rule-item.result in
    let so = c.loop-rule.invariant in
    let next = ap (λ k. k + 1) so.place in
    let at : slice_get rules n ≡ Some rule = slice_get-get_or rules n rule c.loop-rule-test.true ∙ ap Some (sym c.rule-item.is) in
    let here = subst (λ (rs : List Rule). slice_get rs n ≡ Some rule) c.rules-rule-items.ensures.rules at in
    let stands = subst (λ k. slice_get a.profile.now.rules k ≡ Some rule) (sym so.place) here in
    let small = c.rules-rule-items.ensures.is_profile.few in
    let size = ap length c.rules-rule-items.ensures.rules in
    elim c.if-is_wanted.branch [
      | then-is_wanted w ↦
          record {
            told = subst (AreTold a.profile.now known a.word) (sym w.table-is)
                (one_told a.profile.now known a.word c.loop-rule.table place rule w.tell-bears.result
                (omega (arith, small, size, so.place, c.loop-rule-test.true, c.if-is_wanted.array_long, ap length w.table-is, length-set c.loop-rule.table place (Some w.tell-bears.result)))
                stands so.told w.tell-bears.ensures);
            place = next;
          }
      | else-is_wanted w ↦ record { told = subst (AreTold a.profile.now known a.word) (sym w.table-is) so.told; place = next }
    ]
