use Rattle.std.proofs.Common.{◌≡◌, List, sym, ◌∙◌, ap, subst, get_or}
use Rattle.std.specs.List.{All}
use Rattle.machines.specs.Width.{compared, is_narrow}
use Rattle.profile.specs.declared.conditions.Cond.{Cond}
use Rattle.profile.specs.Condition.{Meets}
use Rattle.profile.proofs.Arguments.{All-argument, All-field}
use Rattle.profile.proofs.rules.Rule.matches.Goals as goal

pub returns : goal.returns
returns c =
    let r = c.args.call.now in
    let narrow = c.is_narrow.result in
    let same : c.as_slice.result.now ≡ c.args.self.now.conds.items = c.as_slice.ensures.value in
    let machine = c.if-call-token.false ∙ c.token.ensures in
    let width : is_narrow r.arch ≡ narrow = ap is_narrow machine ∙ sym c.is_narrow.ensures in
    let P : List Cond → Type 0 = λ cs. All (λ x. Meets x (compared narrow (get_or r.args x.index 0))) cs in (
      λ yes-all. record {
        machine = machine;
        number = c.if-call-self.false;
        conditions = All-argument _ r.nr r.arch r.ip r.args narrow width (subst P same (c.hold.ensures.0 yes-all));
      },
      λ m. c.hold.ensures.1 (subst P (sym same) (All-field _ r.nr r.arch r.ip r.args narrow width m.conditions)),
    )
