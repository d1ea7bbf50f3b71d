use Rattle.std.proofs.Common.{◌≡◌, ◌++◌, ◌==◌, length, subst, sym}
use Rattle.section.specs.Unread.{AreUnread}
use Rattle.wording.specs.Told.{end_if}
use Rattle.wording.specs.declared.told.Told.{Told}
use Rattle.wording.proofs.Results.{if_ok_both}
use Rattle.show.specs.Unread.{RefusesUnread}
use Rattle.show.proofs.unread.refusing_unread.Goals as goal

pub returns : goal.returns
returns c =
    let native = c.args.native in
    let bundle = c.args.bundle.now in
    let lines = c.deref.result.now in
    if_ok_both (λ (new : Told). new.bytes.items ≡ c.args.told.bytes.items ++ lines) (λ (new : Told). new.end ≡ end_if (length c.deref.result.now == 0) c.args.told.end)
    (RefusesUnread native bundle c.args.told)
    (λ new bytes end. record {
      lines = lines;
      unread = subst (AreUnread native bundle) (sym c.deref.ensures.value) c.in_ok-lines.ensures;
      bytes = bytes;
      end = end;
    })
    c.done_without_lines.result c.done_without_lines.ensures.bytes c.done_without_lines.ensures.end
