use Rattle.std.proofs.Common.{◌≡◌, ◌∙◌, ◌+◌, ◌<◌, [], ◌∷◌, ◌++◌, ap, length, rules, subst, sym, take}
use Rattle.std.proofs.lemmas.List.{take_more}
use Rattle.rule_compile.specs.inner.Noted.{AreBySpans}
use Rattle.rule_compile.proofs.PartLaws.{by_spans_push}
use Rattle.rule_compile.proofs.known.Known.parts_of.Goals as goal

pub loop-span-preserved : goal.loop-span-preserved
loop-span-preserved c =
    let os = c.args.questions.now in
    let spans = c.deref-span-items.result.now in
    let k = c.loop-span.span-index in
    let span = c.span-item.result in
    let within : k < length spans = search rules in
    let items : take (k + 1) spans ≡ take k spans ++ span ∷ [] =
    take_more spans k span within ∙ ap (λ x. take k spans ++ x ∷ []) (sym c.span-item.is) in
    subst (λ ss. AreBySpans os ss c.push.new.self.items) (sym items)
    (subst (AreBySpans os (take k spans ++ span ∷ [])) (sym c.in_ok-push.ensures.items)
    (by_spans_push os (take k spans) c.loop-span.parts.items span c.in_ok-part_of.field-0 c.loop-span.invariant c.in_ok-part_of.ensures.rules
    c.in_ok-part_of.ensures.leaf))
