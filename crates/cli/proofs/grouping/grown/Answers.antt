use Rattle.std.proofs.Common.{◌∙◌, inl, inr, map, refl, subst, sym}
use Rattle.std.specs.Prelude.{string_bytes}
use Rattle.allow_groups.specs.Allowed.{HasGroups}
use Rattle.cli.proofs.WantedLaws.{now_of}
use Rattle.cli.proofs.DoubtLaws.{grown_as_doubtful}
use Rattle.cli.proofs.grouping.grown.Goals as goal

pub returns-then-not-is_done : goal.returns-then-not-is_done
returns-then-not-is_done c = inl (inr (sym c.is_done.ensures ∙ c.if-not-is_done.true), refl)

pub returns : goal.returns
returns c = inr (
  sym c.is_done.ensures ∙ c.if-not-is_done.false,
  λ done. (
    string_bytes c.in_ok-new.field-0.lines,
    subst (λ b. HasGroups c.args.native (map now_of c.args.groups.now) b c.as_doubtful.result.bytes.items
        (string_bytes c.in_ok-new.field-0.lines)) c.deref.ensures.value
        (grown_as_doubtful c.args.native (map now_of c.args.groups.now) c.deref.result.now c.in_ok-new.field-0.told c.as_doubtful.result
        (string_bytes c.in_ok-new.field-0.lines) c.as_doubtful.ensures.bytes c.as_doubtful.ensures.done c.in_ok-new.ensures done),
  ),
)
