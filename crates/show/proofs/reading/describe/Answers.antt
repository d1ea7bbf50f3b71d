use Rattle.std.proofs.Common.{ℕ, List, subst}
use Rattle.machines.specs.declared.arch.Arch.{Arch}
use Rattle.wording.proofs.Results.{if_ok_weaker}
use Rattle.show.specs.Read.{IsReadOut}
use Rattle.show.specs.Unread.{TellsBeside, TellsUnread}
use Rattle.show.proofs.reading.describe.Goals as goal

pub returns : goal.returns
returns c =
    let native = c.args.document.now.native in
    let bundle = c.args.document.now.bytes in
    let inner = c.in_ok-meaning.meaning in
    let middle = c.in_ok-told.told in
    let beside = subst (λ (n : Arch). TellsBeside n bundle inner middle) c.native-native.ensures
    (subst (λ (b : List ℕ). TellsBeside c.native-native.result b inner middle) c.bytes.ensures c.in_ok-told.ensures) in
    if_ok_weaker (TellsUnread c.native-native.result c.bytes-2.result.now middle) (IsReadOut native bundle)
    (λ told unread. record {
      inner = inner;
      is_read = c.in_ok-meaning.ensures;
      middle = middle;
      beside = beside;
      unread = subst (λ (n : Arch). TellsUnread n bundle middle told) c.native-native.ensures
          (subst (λ (b : List ℕ). TellsUnread c.native-native.result b middle told) c.bytes-2.ensures unread);
    })
    c.with_unread.result c.with_unread.ensures
