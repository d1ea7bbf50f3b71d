use Rattle.std.proofs.Common.{◌≡◌, ◌+◌, ◌-◌, ◌<◌, true, ℕ, List, drop, length, ap, sym, ◌∙◌, subst, arith}
use Rattle.std.specs.Prelude.{if◌then◌else◌}
use Rattle.profile.specs.declared.rules.Rule.{Rule}
use Rattle.profile.specs.Rule.{argument_of}
use Rattle.differ.specs.Left.{side_says}
use Rattle.differ.specs.OnCall.{is_for}
use Rattle.differ.specs.inner.Sides.{said_from}
use Rattle.differ.proofs.SideLaws.{are_met_by, said_more_for, same_read}
use Rattle.widths.specs.inner.Read.{seen_of}
use Rattle.widths.proofs.UnlikeLaws.{seen_moved}
use Rattle.widths.proofs.unread_bits.sides.add_rules.Goals as goal

pub loop-place-preserved-in-Continue-1 : goal.loop-place-preserved-in-Continue-1
loop-place-preserved-in-Continue-1 c = record {
  within = omega arith;
  are = λ d r s of read begun.
      let rules : List Rule = c.args.rules.now in
      let i = c.loop-place.place - 1 in
      let lt : i < length rules = omega arith in
      let rule : Rule = c.index-rules-place-then-is_for.result in
      let next : i + 1 ≡ c.loop-place.place = omega arith in
      let rest : ℕ = said_from d (drop (i + 1) rules) s in
      let before : side_says c.loop-place.side (argument_of r) ≡ seen_of c.args.direction rest =
      subst (λ k. side_says c.loop-place.side (argument_of r) ≡ seen_of c.args.direction (said_from d (drop k rules) s)) (sym next)
      (c.loop-place.invariant.are d r s of read begun) in
      let same : rule ≡ c.index-rules-place.result =
      same_read rules i rule c.index-rules-place.result lt c.index-rules-place-then-is_for.is c.index-rules-place.is in
      let for : is_for c.args.token c.args.nr rule ≡ true =
      ap (λ x. is_for c.args.token c.args.nr x) same ∙ sym c.is_for.ensures ∙ c.if-is_for.true in
      c.in_ok-add_rule.ensures (argument_of r) (argument_of s) read
      ∙ ap (λ v. if are_met_by rule s then seen_of c.args.direction rule.word else v) before
      ∙ seen_moved c.args.direction (are_met_by rule s) rule.word rest
      ∙ ap (seen_of c.args.direction) (sym (said_more_for c.args.token c.args.nr d rules i rule s of lt c.index-rules-place-then-is_for.is for));
}
