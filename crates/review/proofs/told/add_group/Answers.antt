use Rattle.std.proofs.Common.{List, ◌∙◌, ◌++◌, ap, subst}
use Rattle.std.specs.Prelude.{string_bytes}
use Rattle.machines.specs.declared.arch.Arch.{Arch}
use Rattle.review.specs.Asked.{asked_of}
use Rattle.review.specs.Judged.{AreJudged}
use Rattle.review.specs.Told.{group_text}
use Rattle.review.specs.declared.asked.Asked.{Asked}
use Rattle.review.specs.declared.judged.Judged.{Judged}
use Rattle.review.proofs.told.add_group.Goals as goal

pub returns : goal.returns
returns c =
    let p = c.args.profile.now in
    let g = c.args.group.now in
    record {
      judged = c.in_ok-list.list.items;
      are_judged = subst (λ (xs : List Asked). AreJudged p xs c.in_ok-list.list.items)
          (c.deref.ensures.value ∙ c.in_ok-asked.ensures ∙ ap (λ (ms : List Arch). asked_of ms g.2.now) c.machines.ensures.machines)
          c.in_ok-list.ensures;
      is = c.in_ok-put_group.ensures
          ∙ ap (λ (js : List Judged). string_bytes c.args.text.now
          ++ group_text p c.args.all.now.rules.items c.args.all.now.ends.items g js) c.deref-2.ensures.value;
    }
