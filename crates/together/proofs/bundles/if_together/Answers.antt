use Rattle.std.proofs.Common.{IfSome, List, subst, string_bytes, ℕ}
use Rattle.profile.specs.Policy.{Policy}
use Rattle.profile_json.specs.Breaks.{Breaks}
use Rattle.profile_json.specs.Fault.{fault_of}
use Rattle.together.specs.Combined.{IsBundle}
use Rattle.together.proofs.bundles.if_together.Goals as goal

pub returns-clause-together : goal.returns-clause-together
returns-clause-together c =
    let joined : Policy = c.in-Ok.joined in
    let means : IsBundle c.args.native (string_bytes c.args.bundle) joined =
    subst (λ (bytes : List ℕ). IsBundle c.args.native bytes joined) c.as_bytes.ensures.value c.in-Ok.ensures.read in
    c.if_settled.ensures.together c.args.native c.args.way c.args.profiles.now joined c.judge.ensures.none means

pub returns-clause-fault : goal.returns-clause-fault
returns-clause-fault c =
    let joined : Policy = c.in-Ok.joined in
    let means : IsBundle c.args.native (string_bytes c.args.bundle) joined =
    subst (λ (bytes : List ℕ). IsBundle c.args.native bytes joined) c.as_bytes.ensures.value c.in-Ok.ensures.read in
    c.if_settled.ensures.fault c.args.native c.args.way c.args.profiles.now joined c.judge.ensures.some c.judge.ensures.unsettled means

pub returns-in-Err-clause-fault : goal.returns-in-Err-clause-fault
returns-in-Err-clause-fault c =
    c.unread.ensures c.args.native c.args.way c.args.profiles.now (string_bytes c.args.bundle)
    (subst (λ (bytes : List ℕ). IfSome (fault_of c.in-Err.error) (Breaks bytes c.args.native)) c.as_bytes.ensures.value c.in-Err.ensures.fault)
