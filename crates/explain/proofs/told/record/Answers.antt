use Rattle.std.proofs.Common.{inr}
use Rattle.explain.specs.Asked.{IsAsked}
use Rattle.explain.proofs.ToldLaws.{no_call}
use Rattle.explain.proofs.told.record.Goals as goal

pub returns-in_default : goal.returns-in_default
returns-in_default c =
    no_call c.args.native c.args.arguments.now c.refused_words.result (c.in_ok-call.ensures.none c.in_default.is) c.refused_words.ensures

pub returns : goal.returns
returns c =
    let call : IsAsked c.args.native c.args.arguments.now c.in-Some.call = rw c.in-Some.is at c.in_ok-call.ensures.found in
    inr (record {
      call = c.in-Some.call;
      is_asked = call;
      whole = c.in_ok-told.ensures.whole;
      same = c.in_ok-told.ensures.same;
      end = c.in_ok-told.ensures.end;
    })
