use Rattle.std.proofs.Common.{◌≡◌, ◌≢◌, ◌⊎◌, ◌+◌, ℕ, List, true, false, sym, subst, refl, ◌∙◌, inl, arith, length, ap}
use Rattle.std.specs.Prelude.{IfSome, None, Option, Some, slice_get}
use Rattle.std.proofs.lemmas.List.{get_or-replicate}
use Rattle.std.proofs.lemmas.Bool.{eqb-true, eq-eqb}
use Rattle.std.proofs.lemmas.Option.{slice_get-get_or}
use Rattle.machines.specs.declared.arch.Arch.{Arch}
use Rattle.profile.specs.declared.rules.Rule.{Rule}
use Rattle.cert_state.specs.declared.literal.Lit.{Lit}
use Rattle.cert_check.specs.inner.Asked.{known_of, met_of, out_of}
use Rattle.cert_check.specs.Agree.{IsLeft}
use Rattle.cert_check.specs.inner.Judged.{AreKnownNumbers, Bears, IsAnswered, IsKnownNumber, RulesSoFar}
use Rattle.cert_check.specs.declared.judged.Number.{Number}
use Rattle.cert_check.specs.declared.judged.Bearing.TheVariants.{Agrees}
use Rattle.cert_check.proofs.SoFar.{rule_passed, rule_settled, rule_is_other}
use Rattle.cert_check.proofs.MetsLaws.{none_asked}
use Rattle.cert_check.proofs.RulesLaws.{none_agree, default_agrees}
use Rattle.cert_check.proofs.judging.Agreement.rules_agree_within.Goals as goal
use Rattle.cert_check.proofs.judging.Agreement.rules_agree_within.Goals.{then-is_asked+in-Agrees, then-is_asked+in-Differs, else-is_asked}

-- before the first rule none is left
before_the_first : (out : List ℕ) (met : List (ℕ × ℕ)) (known : List Lit) (v : ℕ) (arch : Arch) (rules : List Rule)
    → RulesSoFar out met known v arch rules 0 false
before_the_first out met known v arch rules = record {
  none_sure = λ k d lt. absurd (omega (arith, lt));
  settled = λ _ k d lt. absurd (omega (arith, lt));
  another = λ e. absurd (let untrue : false ≡ true = e in cc);
}

pub loop-rule-init : goal.loop-rule-init
loop-rule-init g c =
    let a = c.args.self.now in
    let known = known_of a in
    record {
      rules = before_the_first (out_of a) (met_of a) known a.word c.args.arch c.rules-rule-items.result.now;
      place = refl;
      numbers = λ n d lt. subst (λ (o : Option Number). IfSome o (IsKnownNumber known n)) (sym (get_or-replicate 512 n None d lt)) tt;
      last = none_asked known;
    }

pub is_asked-requires-clause-place : goal.is_asked-requires-clause-place
is_asked-requires-clause-place g c =
    omega (
      arith,
      c.loop-rule.invariant.place,
      c.loop-rule-test.true,
      ap length c.rules-rule-items.ensures.rules,
      c.rules-rule-items.ensures.is_profile.few,
    )

pub returns-in-Settles : goal.returns-in-Settles
returns-in-Settles g c =
    let rule = c.rule-item.result in
    let a = c.args.self.now in
    let out = out_of a in
    let met = met_of a in
    let known = known_of a in
    let n = c.loop-rule.rule-index in
    let here : slice_get c.rules-rule-items.result.now n ≡ Some rule =
    slice_get-get_or c.rules-rule-items.result.now n rule c.loop-rule-test.true ∙ ap Some (sym c.rule-item.is) in
    let stands = subst (λ (rules : List Rule). slice_get rules n ≡ Some rule) c.rules-rule-items.ensures.rules here in
    let left = subst (λ k. IsLeft out c.args.arch k rule) c.loop-rule.invariant.place (c.if-is_asked.ensures.left refl) in
    let bears = subst (λ k. Bears met known a.word k rule c.weigh.result) c.loop-rule.invariant.place c.weigh.ensures.bearing in
    let settles = subst (Bears met known a.word n rule) c.in-Settles.is bears in (
      λ _. inl (record { place = n; rule = rule; is_of = record { stands = stands; left = left }; is_yes = settles.0; word = settles.1 }),
      λ _. refl,
    )

pub loop-rule-preserved : goal.loop-rule-preserved
loop-rule-preserved g c =
    let a = c.args.self.now in
    let out = out_of a in
    let met = met_of a in
    let known = known_of a in
    let rules = c.rules-rule-items.result.now in
    let n = c.loop-rule.rule-index in
    let rule = c.rule-item.result in
    let so = c.loop-rule.invariant.rules in
    let next = ap (λ k. k + 1) c.loop-rule.invariant.place in
    elim c.if-is_asked.branch [
      | then-is_asked+in-Agrees w ↦
          (let bears = subst (Bears met known a.word n rule) w.in-Agrees.is
          (subst (λ k. Bears met known a.word k rule w.weigh.result) c.loop-rule.invariant.place w.weigh.ensures.bearing) in
          record {
            rules = subst (RulesSoFar out met known a.word c.args.arch rules (n + 1)) (sym w.others-is)
                (rule_settled out met known a.word c.args.arch rules n c.loop-rule.others rule c.loop-rule-test.true (sym c.rule-item.is) so bears.0 bears.1);
            place = next;
            numbers = subst (AreKnownNumbers known) (sym w.numbers-is) w.number_of-number.ensures.kept;
            last = subst (IsAnswered known) (sym w.last-is) w.weigh.ensures.kept;
          })
      | then-is_asked+in-Differs w ↦
          (let bears = subst (Bears met known a.word n rule) w.in-Differs.is
          (subst (λ k. Bears met known a.word k rule w.weigh.result) c.loop-rule.invariant.place w.weigh.ensures.bearing) in
          let left = subst (λ k. IsLeft out c.args.arch k rule) c.loop-rule.invariant.place (w.if-is_asked.ensures.left refl) in
          record {
            rules = subst (RulesSoFar out met known a.word c.args.arch rules (n + 1)) (sym w.others-is)
                (rule_is_other out met known a.word c.args.arch rules n c.loop-rule.others rule c.loop-rule-test.true (sym c.rule-item.is) so left bears);
            place = next;
            numbers = subst (AreKnownNumbers known) (sym w.numbers-is) w.number_of-number.ensures.kept;
            last = subst (IsAnswered known) (sym w.last-is) w.weigh.ensures.kept;
          })
      | else-is_asked w ↦
          record {
            rules = subst (RulesSoFar out met known a.word c.args.arch rules (n + 1)) (sym w.others-is)
                (rule_passed out met known a.word c.args.arch rules n c.loop-rule.others rule c.loop-rule-test.true (sym c.rule-item.is) so
                (subst (λ k. IsLeft out c.args.arch k rule → ((c.loop-rule.others ≡ true) × (rule.word ≢ a.word)) ⊎ Bears met known a.word k rule Agrees)
                c.loop-rule.invariant.place (w.if-is_asked.ensures.passed refl)));
            place = next;
            numbers = subst (AreKnownNumbers known) (sym w.numbers-is) c.loop-rule.invariant.numbers;
            last = subst (IsAnswered known) (sym w.last-is) c.loop-rule.invariant.last;
          }
    ]

pub returns-then-others : goal.returns-then-others
returns-then-others g c =
    let a = c.args.self.now in
    let out = out_of a in
    let met = met_of a in
    let known = known_of a in
    let policy = a.profile.now in
    let same = c.rules-rule-items.ensures.rules in
    let size = ap length same in
    let so = subst (λ rules. RulesSoFar out met known a.word c.args.arch rules c.loop-rule.rule-index true) same
    (subst (RulesSoFar out met known a.word c.args.arch c.rules-rule-items.result.now c.loop-rule.rule-index) c.if-others.true c.loop-rule.invariant.rules) in (
      λ t. let e : false ≡ true = t in
          cc,
      λ h. absurd (none_agree policy out met known a.word c.args.arch c.loop-rule.rule-index (omega (arith, size)) so h),
    )

pub returns : goal.returns
returns g c =
    let a = c.args.self.now in
    let out = out_of a in
    let met = met_of a in
    let known = known_of a in
    let policy = a.profile.now in
    let same = c.rules-rule-items.ensures.rules in
    let size = ap length same in
    let so = subst (λ rules. RulesSoFar out met known a.word c.args.arch rules c.loop-rule.rule-index false) same
    (subst (RulesSoFar out met known a.word c.args.arch c.rules-rule-items.result.now c.loop-rule.rule-index) c.if-others.false c.loop-rule.invariant.rules) in
    default_agrees policy out met known a.word c.args.arch c.loop-rule.rule-index (omega (arith, size)) so c.eq.result (
      λ t. sym c.default_word.ensures ∙ eqb-true c.default_word.result a.word (sym c.eq.ensures ∙ t),
      λ e. c.eq.ensures ∙ eq-eqb c.default_word.result a.word (c.default_word.ensures ∙ e),
    )
