use Rattle.std.proofs.Common.{sym, ◌∙◌, subst, List, ℕ}
use Rattle.profile.specs.declared.rules.Rule.{Rule}
use Rattle.profile_json.specs.Meaning.{IsText}
use Rattle.engines.specs.Settled.{Settles}
use Rattle.engines.specs.inner.Heads.{AreOfSameHead}
use Rattle.engines.proofs.HeadLaws.{default_kept, machines_kept}
use Rattle.engines.proofs.judging.settled.Goals as goal

pub returns : goal.returns
returns c = λ done.
    let native = c.args.native in
    let draft = c.args.draft.now in
    let all = c.in_ok-all.all in
    let are = c.in_ok-all.ensures.ok in
    let read = c.in_ok-read.ensures.ok in
    let profile = c.in_ok-read.read.profile in
    let written = sym (c.told_if.ensures.written done) in
    let is_text = subst (λ (b : List ℕ). IsText b read.0) (c.as_bytes.ensures.value ∙ written) read.1 in
    let settles = c.in_ok-is_settled.ensures (c.told_if.ensures.settled done) in
    let same_head = subst (AreOfSameHead draft) (c.as_bytes-2.ensures.value ∙ written)
    (c.in_ok-has_same_head.ensures (c.told_if.ensures.same_head done)) in
    record {
      t = read.0;
      is_text = is_text;
      policy = profile;
      means = read.2;
      rules = all.rules.items;
      ends = all.ends.items;
      are = are;
      settles = subst (λ (rules : List Rule). Settles c.args.choice rules profile) c.deref.ensures.value settles;
      default_is = default_kept native draft _ all.rules.items all.ends.items read.0 profile same_head are is_text read.2;
      machines_are = machines_kept native draft _ all.rules.items all.ends.items read.0 profile same_head are is_text read.2;
    }
