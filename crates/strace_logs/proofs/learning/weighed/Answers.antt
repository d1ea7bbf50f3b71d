use Rattle.std.proofs.Common.{List, refl, subst}
use Rattle.std.specs.List.{All}
use Rattle.profile.specs.declared.rules.Rule.{Rule}
use Rattle.strace_logs.specs.Learned.{IsNamed}
use Rattle.strace_logs.proofs.Taken.{are_seen, texts_allowed}
use Rattle.strace_logs.proofs.learning.weighed.Goals as goal

pub returns : goal.returns
returns c = λ native texts taken _. record {
  same = rw c.into_bytes.ensures.value refl;
  allows = texts_allowed native c.args.profile.now texts c.args.seen.now taken (c.allows_seen.ensures c.if-not-allows_seen.false);
  named =
      subst (λ (rules : List Rule). All (IsNamed native texts c.args.runtime) rules) c.rules.ensures.rules
      (c.are_named.ensures native texts (are_seen native texts c.args.seen.now taken) c.if-not-are_named.false);
  rest = c.is_rest.ensures c.if-not-is_rest.false;
}
