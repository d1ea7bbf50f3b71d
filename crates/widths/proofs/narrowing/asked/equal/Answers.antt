use Rattle.std.proofs.Common.{◌≡◌, ◌≢◌, ℕ, true, false, ◌+◌, ◌-◌, ◌%◌, ◌^◌, ◌<◌, ◌≤◌, bit_and, sym, ◌∙◌, ap, arith}
use Rattle.widths.specs.Patterns.{turns, one}
use Rattle.widths.specs.Parts.{ArePatterns}
use Rattle.widths.proofs.LowBitLaws.{if_ok, all_asked, none_asked, greater_asked, lesser_asked, unlike_asked, equal_asked, masked_asked, unmasked_asked, asked_like}
use Rattle.widths.proofs.narrowing.asked.equal.Goals as goal

pub returns-then-value-limit : goal.returns-then-value-limit
returns-then-value-limit c =
    let fits : c.args.value < 2 ^ c.args.bits = omega (arith, c.if-value-limit.true, c.power_of_two-limit.ensures) in
    if_ok (λ l. l.items ≡ one (c.power_of_two-limit.result - 1) c.args.value) (λ l. ArePatterns c.args.bits 1 (λ w. w ≡ c.args.value) l.items)
    (λ l e. equal_asked c.args.bits c.args.value l.items fits (e ∙ ap (λ x. one (x - 1) c.args.value) c.power_of_two-limit.ensures))
    c.one.result c.one.ensures

pub returns : goal.returns
returns c =
    let high : 2 ^ c.args.bits ≤ c.args.value = omega (arith, c.if-value-limit.false, c.power_of_two-limit.ensures) in
    none_asked c.args.bits 1 (λ w. w ≡ c.args.value) c.new.result.items c.new.ensures.items (λ w lt h. omega (arith, lt, h, high))
