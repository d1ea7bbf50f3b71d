use Rattle.std.proofs.Common.{inr, ap, ◌∙◌}
use Rattle.section.specs.Kinds.{kind_of_other_text}
use Rattle.section.proofs.taken.kind_of_alike.Goals as goal

pub returns-in_default : goal.returns-in_default
returns-in_default c =
    inr (c.in-Err.ensures.err c.in_default.not-OutOfMemory, c.kind_of_other_text.ensures ∙ ap kind_of_other_text c.bytes.ensures)
