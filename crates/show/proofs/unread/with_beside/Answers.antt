use Rattle.std.proofs.Common.{◌≡◌, ◌++◌, ◌∙◌, inl, inr, refl, subst, sym}
use Rattle.section.specs.Beside.{AreBeside}
use Rattle.wording.specs.declared.told.Told.{Told}
use Rattle.wording.proofs.Results.{if_ok_both}
use Rattle.show.specs.Unread.{TellsBeside}
use Rattle.show.proofs.unread.with_beside.Goals as goal

pub returns-then-not-is_done : goal.returns-then-not-is_done
returns-then-not-is_done c = inl (sym c.is_done.ensures ∙ c.if-not-is_done.true, refl)

pub returns : goal.returns
returns c =
    let native = c.args.native in
    let bundle = c.args.bundle.now in
    let lines = c.deref.result.now in
    let done = sym c.is_done.ensures ∙ c.if-not-is_done.false in
    if_ok_both (λ (new : Told). new.bytes.items ≡ c.args.told.bytes.items ++ lines) (λ (new : Told). new.end ≡ c.args.told.end)
    (TellsBeside native bundle c.args.told)
    (λ new bytes same. inr (
      done,
      record {
        lines = lines;
        beside = subst (AreBeside native bundle) (sym c.deref.ensures.value) c.in_ok-lines.ensures;
        bytes = bytes;
        end = same;
      },
    ))
    c.with_lines.result c.with_lines.ensures.bytes c.with_lines.ensures.end
