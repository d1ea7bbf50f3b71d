use Rattle.std.proofs.Common.{List, ℕ, subst, sym, ◌∙◌}
use Rattle.profile_json.specs.Meaning.{IsText}
use Rattle.strace_logs.proofs.MoreLaws.{no_more}
use Rattle.strace_logs.proofs.learning.judged.Goals as goal

pub returns-in_ok-told-in-Ok : goal.returns-in_ok-told-in-Ok
returns-in_ok-told-in-Ok c = λ texts taken done.
    let means = c.in-Ok.ensures.ok in
    let weighed = c.in_ok-told-in-Ok.ensures c.args.native texts taken done in
    record {
      t = means.0;
      is_text = subst (λ (bytes : List ℕ). IsText bytes means.0) (c.as_bytes.ensures.value ∙ sym weighed.same) means.1;
      policy = c.in-Ok.read.profile;
      means = means.2;
      allows = weighed.allows;
      named = weighed.named;
      rest = weighed.rest;
      no_more = no_more c.args.native texts c.args.runtime c.in-Ok.read.profile weighed.named;
    }
