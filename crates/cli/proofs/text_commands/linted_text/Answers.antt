use Rattle.std.proofs.Common.{ℕ, List, subst}
use Rattle.machines.specs.declared.arch.Arch.{Arch}
use Rattle.wording.proofs.Results.{if_ok_weaker}
use Rattle.show.specs.Unread.{RefusesUnread}
use Rattle.cli.specs.Read.{HasNames, TellsLinted}
use Rattle.cli.proofs.text_commands.linted_text.Goals as goal

pub returns : goal.returns
returns c =
    let native = c.args.document.now.native in
    let bundle = c.args.document.now.bytes in
    let found = c.in_ok-found.found in
    let inner = c.in_ok-told.told in
    if_ok_weaker (HasNames native bundle inner) (TellsLinted native bundle)
    (λ told named. record {
      found = found;
      is_linted = c.in_ok-found.ensures;
      inner = inner;
      unread = subst (λ (n : Arch). RefusesUnread n bundle found inner) c.native.ensures
          (subst (λ (b : List ℕ). RefusesUnread c.native.result b found inner) c.bytes.ensures c.in_ok-told.ensures);
      named = named;
    })
    c.with_names.result c.with_names.ensures
