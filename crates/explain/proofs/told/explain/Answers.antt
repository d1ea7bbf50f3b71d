use Rattle.std.proofs.Common.{inr, refl}
use Rattle.explain.specs.Asked.{IsCall}
use Rattle.explain.proofs.ToldLaws.{nothing_asked}
use Rattle.explain.proofs.told.explain.Goals as goal

pub returns-in_default : goal.returns-in_default
returns-in_default c =
    nothing_asked c.args.document.now.native c.args.document.now.bytes c.args.arguments.now c.refused_call.result (rw c.native-native.ensures at (c.in_ok-call.ensures.none c.in_default.is))
    (rw c.native-native.ensures at c.refused_call.ensures)

pub returns-in-Ok : goal.returns-in-Ok
returns-in-Ok c =
    let call : IsCall c.args.document.now.native c.args.arguments.now c.in-Some.call = rw c.native-native.ensures at (rw c.in-Some.is at c.in_ok-call.ensures.found) in
    inr (inr (record {
      call = c.in-Some.call;
      is_call = call;
      explains = rw c.into_bytes.ensures.value c.in-Ok.ensures.explains;
      end = refl;
    }))
