use Rattle.std.proofs.Common.{inl, refl, sym, ◌∙◌}
use Rattle.cli.proofs.BesideLaws.{told_beside}
use Rattle.cli.proofs.beside.compared_beside.Goals as goal

pub returns-then-is_refused : goal.returns-then-is_refused
returns-then-is_refused c = λ one_machine. record {
  inner = c.in_ok-told.told;
  is = c.in_ok-told.ensures one_machine;
  text = inl (sym c.is_refused.ensures ∙ c.if-is_refused.true, refl);
}

pub returns : goal.returns
returns c = λ one_machine.
    told_beside c.args.at_most c.args.first.now.native c.args.first.now.bytes c.args.second.now.bytes c.in_ok-told.told c.behind_sides.result
    (c.in_ok-told.ensures one_machine) (sym c.is_refused.ensures ∙ c.if-is_refused.false) (c.behind_sides.ensures one_machine)
