use Rattle.std.proofs.Common.{◌≡◌, ◌∙◌, true, false, length, refl, sym, subst, inl, inr, arith}
use Rattle.std.proofs.lemmas.Bool.{eqb-true, eq-eqb}
use Rattle.machines.specs.Arch.{token_of}
use Rattle.profile.specs.Latest.{IsLatest}
use Rattle.cert_check.specs.inner.Asked.{known_of, met_of, out_of}
use Rattle.cert_check.specs.Agree.{IsLeft}
use Rattle.cert_check.specs.inner.Judged.{Bears, IsAnswered, IsKnownNumber, RulesSoFar}
use Rattle.cert_check.proofs.CallLaws.{HasCome, begins, comes_to, earlier_for, ends, goes_down, inside, is_for_call, passes, stands_there}
use Rattle.cert_check.proofs.MetsLaws.{none_asked}
use Rattle.cert_check.proofs.RulesLaws.{none_agree, default_agrees}
use Rattle.cert_check.proofs.judging.Agreement.call_agrees.Goals as goal
use Rattle.cert_check.proofs.judging.Agreement.call_agrees.Goals.{then-is_open+in-Agrees, then-is_open+in-Differs, else-is_open}

pub loop-next-init : goal.loop-next-init
loop-next-init g c =
    let a = c.args.self.now in
    let rules = a.profile.now.rules in
    let nr = c.args.nr in
    let latest = subst (λ t. IsLatest rules t nr (length rules) c.latest-next.result) c.token.ensures c.latest-next.ensures in
    record {
      inside = inside rules (token_of c.args.arch) nr (length rules) c.latest-next.result latest;
      walk = begins (out_of a) (met_of a) (known_of a) a.word c.args.arch rules nr c.latest-next.result latest;
      last = none_asked (known_of a);
    }

pub weigh-requires-clause-number : goal.weigh-requires-clause-number
weigh-requires-clause-number g c =
    let a = c.args.self.now in
    let rules = a.profile.now.rules in
    let rule = c.index-rules-place.result in
    let place = c.in-Some.place in
    let so = c.loop-next.invariant in
    let stands = stands_there rules c.rules-rules.result.now c.loop-next.next place rule c.rules-rules.ensures.rules c.index-rules-place.is
    c.in-Some.is so.inside in
    let its = is_for_call (out_of a) (met_of a) (known_of a) a.word c.args.arch rules c.args.nr c.loop-next.next c.loop-next.others place rule
    c.in-Some.is so.walk stands in
    subst (λ n. IsKnownNumber (known_of a) n c.ask_number-number.result) (sym its.number) c.ask_number-number.ensures

pub returns-in-Settles : goal.returns-in-Settles
returns-in-Settles g c =
    let a = c.args.self.now in
    let rules = a.profile.now.rules in
    let rule = c.index-rules-place.result in
    let place = c.in-Some.place in
    let so = c.loop-next.invariant in
    let stands = stands_there rules c.rules-rules.result.now c.loop-next.next place rule c.rules-rules.ensures.rules c.index-rules-place.is
    c.in-Some.is so.inside in
    let its = is_for_call (out_of a) (met_of a) (known_of a) a.word c.args.arch rules c.args.nr c.loop-next.next c.loop-next.others place rule
    c.in-Some.is so.walk stands in
    let left : IsLeft (out_of a) c.args.arch place rule = record {
      not_out = c.if-is_open.ensures.left refl;
      is_for = its.machine;
    } in
    let settles = subst (Bears (met_of a) (known_of a) a.word place rule) c.in-Settles.is c.weigh.ensures.bearing in (
      λ _. inl (record { place = place; rule = rule; is_of = record { stands = stands; left = left }; is_yes = settles.0; word = settles.1 }),
      λ _. refl,
    )

pub loop-next-smaller : goal.loop-next-smaller
loop-next-smaller g c =
    let a = c.args.self.now in
    let rules = a.profile.now.rules in
    let found = comes_to (out_of a) (met_of a) (known_of a) a.word c.args.arch rules c.args.nr c.loop-next.next c.loop-next.others c.in-Some.place
    c.in-Some.is c.loop-next.invariant.walk in
    goes_down rules (token_of found.0.arch) found.0.nr c.in-Some.place c.loop-next.next c.earlier-next.result c.in-Some.is
    (c.earlier-next.ensures found.0 found.1)

pub loop-next-preserved : goal.loop-next-preserved
loop-next-preserved g c =
    let a = c.args.self.now in
    let out = out_of a in
    let met = met_of a in
    let known = known_of a in
    let v = a.word in
    let arch = c.args.arch in
    let rules = a.profile.now.rules in
    let nr = c.args.nr in
    let next = c.loop-next.next in
    let more = c.earlier-next.result in
    let others = c.loop-next.others in
    let place = c.in-Some.place in
    let so = c.loop-next.invariant in
    let found = comes_to out met known v arch rules nr next others place c.in-Some.is so.walk in
    let latest = earlier_for rules (token_of arch) nr place found.0 more found.2 (c.earlier-next.ensures found.0 found.1) in
    record {
      inside = inside rules (token_of arch) nr place more latest;
      walk = elim c.if-is_open.branch [
        | then-is_open+in-Agrees w ↦
            (let rule = w.index-rules-place.result in
            let stands = stands_there rules c.rules-rules.result.now next place rule c.rules-rules.ensures.rules w.index-rules-place.is
            c.in-Some.is so.inside in
            let bears = subst (Bears met known v place rule) w.in-Agrees.is w.weigh.ensures.bearing in
            subst (HasCome out met known v arch rules nr more) (sym w.others-is)
            (passes out met known v arch rules nr c.requires.only next more others others place rule c.in-Some.is so.walk stands latest
            (λ e. e) (λ left. (bears.0, λ _. bears.1)) so.walk.another))
        | then-is_open+in-Differs w ↦
            (let rule = w.index-rules-place.result in
            let stands = stands_there rules c.rules-rules.result.now next place rule c.rules-rules.ensures.rules w.index-rules-place.is
            c.in-Some.is so.inside in
            let its = is_for_call out met known v arch rules nr next others place rule c.in-Some.is so.walk stands in
            let left : IsLeft out arch place rule = record {
              not_out = w.if-is_open.ensures.left refl;
              is_for = its.machine;
            } in
            let bears = subst (Bears met known v place rule) w.in-Differs.is w.weigh.ensures.bearing in
            subst (HasCome out met known v arch rules nr more) (sym w.others-is)
            (passes out met known v arch rules nr c.requires.only next more others true place rule c.in-Some.is so.walk stands latest
            (λ _. refl) (λ _. (λ _. bears.1, λ e. absurd (let untrue : true ≡ false = e in cc)))
            (λ _. record { place = place; rule = rule; stands = stands; left = left; other = bears })))
        | else-is_open w ↦
            subst (HasCome out met known v arch rules nr more) (sym w.others-is)
            (passes out met known v arch rules nr c.requires.only next more others others place found.0 c.in-Some.is so.walk found.1 latest
            (λ e. e) (λ left. elim (w.if-is_open.ensures.passed refl found.0 found.1) [
              | inl is ↦ absurd (left.not_out is)
              | inr agrees ↦ (agrees.0, λ _. agrees.1)
            ]) so.walk.another)
      ];
      last = elim c.if-is_open.branch [
        | then-is_open+in-Agrees w ↦ subst (IsAnswered known) (sym w.last-is) w.weigh.ensures.kept
        | then-is_open+in-Differs w ↦ subst (IsAnswered known) (sym w.last-is) w.weigh.ensures.kept
        | else-is_open w ↦ subst (IsAnswered known) (sym w.last-is) so.last
      ];
    }

pub returns-then-others : goal.returns-then-others
returns-then-others g c =
    let a = c.args.self.now in
    let policy = a.profile.now in
    let so = subst (RulesSoFar (out_of a) (met_of a) (known_of a) a.word c.args.arch policy.rules (length policy.rules)) c.if-others.true
    (ends (out_of a) (met_of a) (known_of a) a.word c.args.arch policy.rules c.args.nr c.requires.only c.loop-next.next c.loop-next.others
    c.in_default.is c.loop-next.invariant.walk) in (
      λ t. let e : false ≡ true = t in
          cc,
      λ h. absurd (none_agree policy (out_of a) (met_of a) (known_of a) a.word c.args.arch (length policy.rules) (omega arith) so h),
    )

pub returns : goal.returns
returns g c =
    let a = c.args.self.now in
    let policy = a.profile.now in
    let so = subst (RulesSoFar (out_of a) (met_of a) (known_of a) a.word c.args.arch policy.rules (length policy.rules)) c.if-others.false
    (ends (out_of a) (met_of a) (known_of a) a.word c.args.arch policy.rules c.args.nr c.requires.only c.loop-next.next c.loop-next.others
    c.in_default.is c.loop-next.invariant.walk) in
    default_agrees policy (out_of a) (met_of a) (known_of a) a.word c.args.arch (length policy.rules) (omega arith) so c.eq.result (
      λ t. sym c.default_word.ensures ∙ eqb-true c.default_word.result a.word (sym c.eq.ensures ∙ t),
      λ e. c.eq.ensures ∙ eq-eqb c.default_word.result a.word (c.default_word.ensures ∙ e),
    )
