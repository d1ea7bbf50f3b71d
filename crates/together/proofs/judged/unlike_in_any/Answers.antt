use Rattle.std.proofs.Common.{◌<◌, List, length, sym, arith}
use Rattle.std.specs.List.{All}
use Rattle.std.proofs.lemmas.List.{take_all}
use Rattle.std.proofs.lemmas.List.Elements.{All-more, All-same}
use Rattle.differ.specs.declared.named.Call.{Call}
use Rattle.differ.proofs.NamedLaws.{named_like}
use Rattle.differ.proofs.WalkLaws.{not_some}
use Rattle.together.specs.OnCall.{AgreesOnCall}
use Rattle.together.proofs.judged.unlike_in_any.Goals as goal

pub loop-call-preserved : goal.loop-call-preserved
loop-call-preserved c =
    let i = c.loop-call.call-index in
    let calls : List Call = c.args.calls.now in
    let lt : i < length calls = omega arith in
    All-more (λ call. AgreesOnCall c.args.way c.args.profiles.now c.args.joined.now call.token call.nr) calls i _ lt c.loop-call.invariant
    (not_some c.in_ok-found.field-0 _ c.in_default.not-Some c.in_ok-found.ensures.none)

pub returns-clause-none : goal.returns-clause-none
returns-clause-none c = λ t n named.
    let calls : List Call = c.args.calls.now in
    let all : All (λ call. AgreesOnCall c.args.way c.args.profiles.now c.args.joined.now call.token call.nr) calls =
    All-same (λ call. AgreesOnCall c.args.way c.args.profiles.now c.args.joined.now call.token call.nr) _ _
    (sym (take_all c.loop-call.call-index calls (omega arith))) c.loop-call.invariant in
    named_like (AgreesOnCall c.args.way c.args.profiles.now c.args.joined.now) calls t n all named
