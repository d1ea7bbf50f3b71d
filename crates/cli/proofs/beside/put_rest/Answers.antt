use Rattle.std.proofs.Common.{codes, refl, ap, ◌++◌, ◌∙◌, List, ℕ}
use Rattle.cli.proofs.BesideLaws.{appended, some_rest}
use Rattle.cli.proofs.beside.put_rest.Goals as goal

pub returns-in_ok-extend_from_slice-in-len1-up-2 : goal.returns-in_ok-extend_from_slice-in-len1-up-2
returns-in_ok-extend_from_slice-in-len1-up-2 c =
    appended c.args.text.now.items (codes " bundle has\n") c.args.lines.now c.extend_from_slice-in-len1-up.new.self.items
    c.extend_from_slice-in-len1-up-2.new.self.items c.args.lines.now c.in_ok-extend_from_slice-in-len1-up.ensures.items
    c.in_ok-extend_from_slice-in-len1-up-2.ensures.items refl
    ∙ ap (λ (t : List ℕ). c.args.text.now.items ++ t) (some_rest c.args.lines.now c.in-len1-up.len_at_least)
