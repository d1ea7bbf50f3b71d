use Rattle.std.proofs.Common.{◌≡◌, ◌++◌, subst, sym}
use Rattle.section.specs.Unread.{AreUnread}
use Rattle.wording.specs.declared.told.Told.{Told}
use Rattle.wording.proofs.Results.{if_ok_both}
use Rattle.show.specs.Unread.{TellsUnread}
use Rattle.show.proofs.unread.with_unread.Goals as goal

pub returns : goal.returns
returns c =
    let native = c.args.native in
    let bundle = c.args.bundle.now in
    let lines = c.deref.result.now in
    if_ok_both (λ (new : Told). new.bytes.items ≡ c.args.told.bytes.items ++ lines) (λ (new : Told). new.end ≡ c.args.told.end)
    (TellsUnread native bundle c.args.told)
    (λ new bytes end. record {
      lines = lines;
      unread = subst (AreUnread native bundle) (sym c.deref.ensures.value) c.in_ok-lines.ensures;
      bytes = bytes;
      end = end;
    })
    c.with_lines.result c.with_lines.ensures.bytes c.with_lines.ensures.end
