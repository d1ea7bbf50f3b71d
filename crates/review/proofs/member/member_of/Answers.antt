use Rattle.std.proofs.Common.{List, ap, subst, ◌∙◌}
use Rattle.machines.specs.declared.arch.Arch.{Arch}
use Rattle.review.specs.Asked.{asked_by}
use Rattle.review.specs.Judged.{AreJudged}
use Rattle.review.specs.Systemd.{standing_of}
use Rattle.review.specs.declared.asked.Asked.{Asked}
use Rattle.review.proofs.member.member_of.Goals as goal

pub returns-clause-standing : goal.returns-clause-standing
returns-clause-standing c =
    let p = c.args.profile.now in
    record {
      part = c.any.result;
      is_any = c.any.ensures;
      judged = c.in_ok-judged.judged.items;
      are_judged = subst (λ (xs : List Asked). AreJudged p xs c.in_ok-judged.judged.items)
          (c.deref.ensures.value ∙ c.in_ok-asked.ensures
          ∙ ap (λ (ms : List Arch). asked_by ms c.any.result c.args.name.now) c.machines.ensures.machines)
          c.in_ok-judged.ensures;
      standing = c.standing_of.ensures ∙ ap standing_of c.deref-2.ensures.value;
    }
