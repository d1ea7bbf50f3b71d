-- What the compiler promises of its filters, in the checker's terms.
use Rattle.std.proofs.Common.{◌∙◌, ap, sym}
use Rattle.std.specs.Prelude.{Some}
use Rattle.std.proofs.lemmas.Option.{same_Some}
use Rattle.profile.specs.Said.{said}
use Rattle.profile.proofs.SaidLaws.{each_record_is_said_one_verdict}
use Rattle.maker.specs.evidence.Right.{CompiledIsRight}

pub compiled : CompiledIsRight
compiled policy p clear right r is_r v =
    let each = each_record_is_said_one_verdict policy r v clear is_r in (
      (λ gives. each.1 (same_Some v (said policy r) (sym gives ∙ right.gives r is_r))),
      (λ says. right.gives r is_r ∙ ap Some (sym (each.0 says))),
    )
