use Rattle.std.proofs.Common.{◌≡◌, ◌+◌, ◌<◌, ℕ, List, length, take, ap, sym, ◌∙◌, arith}
use Rattle.std.specs.Prelude.{if◌then◌else◌}
use Rattle.differ.specs.Left.{are_met, verdict}
use Rattle.differ.specs.declared.left.Part.{Part}
use Rattle.differ.specs.declared.left.Rest.{Rest}
use Rattle.differ.proofs.LeftLaws.{verdict_next}
use Rattle.differ.proofs.end.verdict_at_zero.Goals as goal
use Rattle.differ.proofs.end.verdict_at_zero.Goals.{then-are_met_at_zero, else-are_met_at_zero}

pub loop-rest-preserved : goal.loop-rest-preserved
loop-rest-preserved c =
    let rules : List Rest = c.args.rules.now in
    let i = c.loop-rest.rest-index in
    let lt : i < length rules = omega arith in
    let rest : Rest = c.rest-item.result in
    let before : ℕ = verdict c.args.last (take i rules) (λ i. 0) in
    let next : verdict c.args.last (take (i + 1) rules) (λ i. 0) ≡ (if are_met rest.parts.items (λ i. 0) then rest.word else before) =
    verdict_next c.args.last rules i rest (λ i. 0) lt c.rest-item.is in
    let met : c.are_met_at_zero.result ≡ are_met rest.parts.items (λ i. 0) =
    c.are_met_at_zero.ensures ∙ ap (λ (ps : List Part). are_met ps (λ i. 0)) c.deref.ensures.value in
    elim c.if-are_met_at_zero.branch [
      | then-are_met_at_zero w ↦
          w.word-is ∙ sym (next ∙ ap (λ b. if b then rest.word else before) (sym met ∙ w.if-are_met_at_zero.true))
      | else-are_met_at_zero w ↦
          w.word-is ∙ c.loop-rest.invariant ∙ sym (next ∙ ap (λ b. if b then rest.word else before) (sym met ∙ w.if-are_met_at_zero.false))
    ]
