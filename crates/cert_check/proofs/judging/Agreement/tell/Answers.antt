use Rattle.std.proofs.Common.{◌≡◌, List, [], Option, Some, Bool, refl, sym, subst, ap, ◌∙◌, arith}
use Rattle.std.specs.Prelude.{IfSome, slice_get}
use Rattle.std.proofs.lemmas.Option.{slice_get-get_or}
use Rattle.profile.specs.declared.rules.Rule.{Rule}
use Rattle.profile.specs.Rule.{is_narrow_rule}
use Rattle.cert_check.specs.declared.judged.Asked.{Asked}
use Rattle.cert_check.specs.inner.Asked.{known_of}
use Rattle.cert_check.specs.inner.Judged.{IsAnswer}
use Rattle.cert_check.specs.inner.Told.{IsToldOf, question_of, turn}
use Rattle.cert_check.proofs.ToldLaws.{same_told, turned_twice}
use Rattle.cert_check.proofs.judging.Agreement.tell.Goals as goal

pub returns-then-say_the_same : goal.returns-then-say_the_same
returns-then-say_the_same g c =
    let a = c.args.self.now in
    let known = known_of a in
    let rules = c.rules-rules.result.now in
    let before = c.args.before in
    let earlier = c.index-rules-before.result in
    let at : slice_get rules before ≡ Some earlier =
    slice_get-get_or rules before earlier (omega (arith, c.if-before-rules.true)) ∙ ap Some (sym c.index-rules-before.is) in
    let stands = subst (λ (rs : List Rule). slice_get rs before ≡ Some earlier) c.rules-rules.ensures.rules at in
    let told = subst (λ (o : Option Bool). IfSome o (IsToldOf known a.word earlier)) c.in-Some.is (c.requires.told before earlier stands) in
    same_told known a.word earlier c.args.rule.now c.in-Some.bears (c.if-say_the_same.ensures refl) told

pub returns : goal.returns
returns g c =
    let a = c.args.self.now in
    let rule = c.args.rule.now in
    let asked = question_of a.word rule in
    let is_so = c.ask_likely-is_so.result in
    let answer = subst (λ (q : Asked). IsAnswer q (is_narrow_rule rule) [] (known_of a) 0 rule.conds.items is_so) c.question-asked.ensures
    c.ask_likely-is_so.ensures.answer in
    let bears = c.turned.ensures ∙ ap (λ (q : Asked). turn q is_so) c.question-asked.ensures in (
      subst (λ b. IsAnswer asked (is_narrow_rule rule) [] (known_of a) 0 rule.conds.items b)
          (sym (ap (turn asked) bears ∙ turned_twice asked is_so)) answer,
      c.ask_likely-is_so.ensures.few,
    )
