use Rattle.std.proofs.Common.{List, ℕ, ap, subst, ◌∙◌}
use Rattle.section.specs.Texts.{IsPlainKind, bundle_of}
use Rattle.section.proofs.TakenLaws.{is_alike}
use Rattle.section.proofs.taken.take_alike.Goals as goal

pub returns : goal.returns
returns c =
    let bytes = c.args.bytes.items in
    is_alike c.args.native bytes _ c.requires.family (c.in_ok-document.ensures.native ∙ c.new-document.ensures.native) c.requires.small c.requires.lines
    c.requires.alike (subst (λ (b : List ℕ). IsPlainKind b c.in_ok-kind.kind) c.new-document.ensures.bytes c.in_ok-kind.ensures)
    (c.in_ok-document.ensures.bytes ∙ ap (bundle_of c.in_ok-kind.kind) c.new-document.ensures.bytes)
