use Rattle.std.proofs.Common.{◌≡◌, ◌≢◌, ℕ, true, false, ◌+◌, ◌-◌, ◌%◌, ◌^◌, ◌<◌, ◌≤◌, bit_and, sym, ◌∙◌, ap, arith}
use Rattle.widths.specs.Patterns.{turns, one}
use Rattle.std.specs.Prelude.{max}
use Rattle.widths.specs.Parts.{ArePatterns}
use Rattle.widths.proofs.LowBitLaws.{if_ok, all_asked, none_asked, greater_asked, lesser_asked, unlike_asked, equal_asked, masked_asked, unmasked_asked, asked_like}
use Rattle.widths.proofs.narrowing.asked.at_least.Goals as goal

pub returns-then-value-eq0 : goal.returns-then-value-eq0
returns-then-value-eq0 c =
    let none : c.args.value ≡ 0 = c.if-value-eq0.true in
    if_ok (λ l. l.items ≡ one 0 0) (λ l. ArePatterns c.args.bits (max 1 c.args.bits) (λ w. c.args.value ≤ w) l.items)
    (λ l e. all_asked c.args.bits (λ w. c.args.value ≤ w) l.items e (λ w lt. omega (arith, none))) c.one.result c.one.ensures

pub returns : goal.returns
returns c =
    let some = c.if-value-eq0.false in
    if_ok (λ l. ArePatterns c.args.bits (max 1 c.args.bits) (λ w. c.args.value - 1 < w) l.items) (λ l. ArePatterns c.args.bits (max 1 c.args.bits) (λ w. c.args.value ≤ w) l.items)
    (λ l are. asked_like c.args.bits (max 1 c.args.bits) (λ w. c.args.value - 1 < w) (λ w. c.args.value ≤ w) l.items
    (λ w. (λ h. omega (arith, h, some), λ h. omega (arith, h, some))) are) c.greater.result c.greater.ensures
