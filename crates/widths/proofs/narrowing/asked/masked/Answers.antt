use Rattle.std.proofs.Common.{◌≡◌, ◌≢◌, ℕ, true, false, ◌+◌, ◌-◌, ◌%◌, ◌^◌, ◌<◌, ◌≤◌, bit_and, sym, ◌∙◌, ap, arith}
use Rattle.widths.specs.Patterns.{turns, one}
use Rattle.widths.specs.Parts.{ArePatterns}
use Rattle.widths.proofs.LowBitLaws.{if_ok, all_asked, none_asked, greater_asked, lesser_asked, unlike_asked, equal_asked, masked_asked, unmasked_asked, asked_like}
use Rattle.widths.proofs.narrowing.asked.masked.Goals as goal

pub returns-then-datum-limit : goal.returns-then-datum-limit
returns-then-datum-limit c =
    if_ok (λ l. l.items ≡ one (c.args.mask % c.power_of_two-limit.result) c.args.datum)
    (λ l. ArePatterns c.args.bits 1 (λ w. bit_and w c.args.mask ≡ c.args.datum) l.items)
    (λ l e. masked_asked c.args.bits c.args.mask c.args.datum l.items
    (e ∙ ap (λ x. one (c.args.mask % x) c.args.datum) c.power_of_two-limit.ensures)) c.one.result c.one.ensures

pub returns : goal.returns
returns c =
    unmasked_asked c.args.bits c.args.mask c.args.datum c.new.result.items c.new.ensures.items
    (omega (arith, c.if-datum-limit.false, c.power_of_two-limit.ensures))
