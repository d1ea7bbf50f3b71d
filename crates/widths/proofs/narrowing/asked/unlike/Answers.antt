use Rattle.std.proofs.Common.{◌≡◌, ◌≢◌, ℕ, true, false, ◌+◌, ◌-◌, ◌%◌, ◌^◌, ◌<◌, ◌≤◌, bit_and, sym, ◌∙◌, ap, arith}
use Rattle.widths.specs.Patterns.{turns, one}
use Rattle.std.specs.Prelude.{max}
use Rattle.widths.specs.Parts.{ArePatterns}
use Rattle.widths.proofs.LowBitLaws.{if_ok, all_asked, none_asked, greater_asked, lesser_asked, unlike_asked, equal_asked, masked_asked, unmasked_asked, asked_like}
use Rattle.widths.proofs.narrowing.asked.unlike.Goals as goal

pub returns-then-value-power_of_two : goal.returns-then-value-power_of_two
returns-then-value-power_of_two c =
    let fits : c.args.value < 2 ^ c.args.bits = omega (arith, c.if-value-power_of_two.true, c.power_of_two.ensures) in
    if_ok (λ l. l.items ≡ turns c.args.bits c.args.value true true) (λ l. ArePatterns c.args.bits (max 1 c.args.bits) (λ w. w ≢ c.args.value) l.items)
    (λ l e. unlike_asked c.args.bits c.args.value l.items fits e) c.turns.result c.turns.ensures

pub returns : goal.returns
returns c =
    let high : 2 ^ c.args.bits ≤ c.args.value = omega (arith, c.if-value-power_of_two.false, c.power_of_two.ensures) in
    if_ok (λ l. l.items ≡ one 0 0) (λ l. ArePatterns c.args.bits (max 1 c.args.bits) (λ w. w ≢ c.args.value) l.items)
    (λ l e. all_asked c.args.bits (λ w. w ≢ c.args.value) l.items e (λ w lt is. omega (arith, lt, high, is))) c.one.result c.one.ensures
