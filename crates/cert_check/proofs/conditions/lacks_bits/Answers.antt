use Rattle.std.proofs.Common.{◌≡◌, ◌+◌, ◌*◌, ◌/◌, ◌%◌, ◌^◌, true, false, refl, sym, subst, inl, inr}
use Rattle.cert_state.specs.declared.literal.Lit.TheVariants.{NotBits}
use Rattle.cert_state.specs.Entailment.{Entails}
use Rattle.cert_check.proofs.JudgedLaws.{same_lacks_above}
use Rattle.cert_check.proofs.conditions.lacks_bits.Goals as goal

pub returns-then-entails : goal.returns-then-entails
returns-then-entails g c =
    let known = g.K.Knowledge.known c.args.known.now in
    let word = c.low_word.ensures in
    let mask = c.halves-mask.ensures.low in
    let datum = c.halves-datum.ensures.low in
    let low : NotBits c.low_word.result c.halves-mask.result.0 c.halves-datum.result.0
    ≡ NotBits (4 + 2 * c.args.index) (c.args.mask % 2 ^ 32) (c.args.datum % 2 ^ 32) = cc in
    (λ _. inr (subst (Entails known) low (c.if-entails.ensures.0 refl)), λ _. refl)

pub returns : goal.returns
returns g c =
    let known = g.K.Knowledge.known c.args.known.now in
    let j = c.args.index in
    let word = c.low_word.ensures in
    let mask = c.halves-mask.ensures.low in
    let datum = c.halves-datum.ensures.low in
    let same = same_lacks_above c.args.narrow known j c.halves-mask.result.1 c.halves-datum.result.1
    (c.args.mask / 2 ^ 32) (c.args.datum / 2 ^ 32) c.halves-mask.ensures.high c.halves-datum.ensures.high in
    let low : NotBits c.low_word.result c.halves-mask.result.0 c.halves-datum.result.0
    ≡ NotBits (4 + 2 * j) (c.args.mask % 2 ^ 32) (c.args.datum % 2 ^ 32) = cc in (
      λ t. inl (same.0 (c.lacks_above.ensures.0 t)),
      λ h. elim h [
        | inl high ↦ c.lacks_above.ensures.1 (same.1 high)
        | inr below ↦ absurd (let e : false ≡ true = c.if-entails.ensures.1 (subst (Entails known) (sym low) below) in cc)
      ],
    )
