use Rattle.std.proofs.Common.{◌≡◌, ◌+◌, ◌*◌, ◌/◌, ◌%◌, ◌^◌, true, false, refl, sym, subst}
use Rattle.cert_state.specs.declared.literal.Lit.TheVariants.{Bits}
use Rattle.cert_state.specs.Entailment.{Entails}
use Rattle.cert_check.proofs.JudgedLaws.{same_has_above}
use Rattle.cert_check.proofs.conditions.has_bits.Goals as goal

pub returns-then-not-entails : goal.returns-then-not-entails
returns-then-not-entails g c =
    let known = g.K.Knowledge.known c.args.known.now in
    let word = c.low_word.ensures in
    let mask = c.halves-mask.ensures.low in
    let datum = c.halves-datum.ensures.low in
    let low : Bits c.low_word.result c.halves-mask.result.0 c.halves-datum.result.0
    ≡ Bits (4 + 2 * c.args.index) (c.args.mask % 2 ^ 32) (c.args.datum % 2 ^ 32) = cc in (
      λ t. let e : false ≡ true = t in cc,
      λ h. let e : false ≡ true = c.if-not-entails.ensures.1 (subst (Entails known) (sym low) h.1) in cc,
    )

pub returns : goal.returns
returns g c =
    let known = g.K.Knowledge.known c.args.known.now in
    let j = c.args.index in
    let word = c.low_word.ensures in
    let mask = c.halves-mask.ensures.low in
    let datum = c.halves-datum.ensures.low in
    let same = same_has_above c.args.narrow known j c.halves-mask.result.1 c.halves-datum.result.1
    (c.args.mask / 2 ^ 32) (c.args.datum / 2 ^ 32) c.halves-mask.ensures.high c.halves-datum.ensures.high in
    let low : Bits c.low_word.result c.halves-mask.result.0 c.halves-datum.result.0
    ≡ Bits (4 + 2 * j) (c.args.mask % 2 ^ 32) (c.args.datum % 2 ^ 32) = cc in (
      λ t. (same.0 (c.has_above.ensures.0 t), subst (Entails known) low (c.if-not-entails.ensures.0 refl)),
      λ h. c.has_above.ensures.1 (same.1 h.0),
    )
