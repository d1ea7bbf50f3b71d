use Rattle.std.proofs.Common.{[], inl, inr, refl}
use Rattle.call_words.specs.Wrong.{TellsWrongCall}
use Rattle.explain.specs.Any.{IsExplained, IsWhat}
use Rattle.explain.specs.Refused.{Refuses}
use Rattle.wording.proofs.Results.{if_ok_weaker}
use Rattle.explain.proofs.audited.any.explain_any.Goals as goal

pub returns-in-None : goal.returns-in-None
returns-in-None c =
    let none = rw c.native-native.ensures at (c.in_ok-arch.ensures.none c.in-None.is) in
    if_ok_weaker (Refuses c.args.document.now.native (TellsWrongCall c.args.document.now.native c.args.word.now []))
    (IsExplained c.args.document.now.native c.args.document.now.bytes c.args.word.now)
    (λ told refuses. inl (record { none = none; refuses = refuses })) c.refused_word.result (rw c.native-native.ensures at c.refused_word.ensures)

pub returns-in-Ok : goal.returns-in-Ok
returns-in-Ok c =
    let found : IsWhat c.args.document.now.native c.args.word.now c.in-Some.arch c.in-Some.nr =
    rw c.native-native.ensures at (rw c.in-Some.is at c.in_ok-arch.ensures.found) in
    inr (inr (record {
      arch = c.in-Some.arch;
      nr = c.in-Some.nr;
      is_what = found;
      explains = rw c.into_bytes.ensures.value (rw c.token.ensures at c.in-Ok.ensures.explains);
      end = refl;
    }))
