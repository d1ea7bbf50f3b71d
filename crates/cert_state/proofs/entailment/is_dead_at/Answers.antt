use Rattle.std.proofs.Common.{rules, ◌↔◌, refl, inl, inr}
use Rattle.cert_state.specs.Points.{IsMissed, NoneBetween, mask_of, datum_of}
use Rattle.cert_state.specs.Entailment.{IsExcluded, IsTornAt}
use Rattle.cert_state.proofs.RangeLaws.{missed_at}
use Rattle.cert_state.proofs.entailment.is_dead_at.Goals as goal

pub returns-in-Some : goal.returns-in-Some
returns-in-Some g c =
    let known = g.S.State.known c.args.state.now in
    let at : IsMissed known c.args.word (mask_of known c.args.word) (datum_of known c.args.word)
    ↔ NoneBetween c.in-Some.low c.in-Some.high c.summarize-summary.result.mask c.summarize-summary.result.datum =
    rw (c.summarize-summary.ensures.mask, c.summarize-summary.ensures.datum)
    (missed_at known c.args.word c.in-Some.low c.in-Some.high c.in-Some.ensures (mask_of known c.args.word) (datum_of known c.args.word))
    in
    let whole : IsTornAt known c.args.word → ⊥ = λ h. c.summarize-summary.ensures.torn.1 h c.if-summary-ne0.false in
    let free : IsExcluded known c.args.word (mask_of known c.args.word) (datum_of known c.args.word) → ⊥ = search rules in (
      λ t. inr (inr (inl (at.1 (c.none_between.ensures.0 t)))),
      λ h. elim h [
        | inl none ↦ absurd (none c.in-Some.low c.in-Some.ensures.least)
        | inr h ↦
            elim h [
              | inl torn ↦ absurd (whole torn)
              | inr h ↦
                  elim h [ inl missed ↦ c.none_between.ensures.1 (at.0 missed) | inr excluded ↦ absurd (free excluded) ]
            ]
      ],
    )

pub returns-then-summary-ne0 : goal.returns-then-summary-ne0
returns-then-summary-ne0 g c = (λ _. inr (inl (c.summarize-summary.ensures.torn.0 c.if-summary-ne0.true)), λ _. refl)

pub returns-then-is_excluded : goal.returns-then-is_excluded
returns-then-is_excluded g c =
    let known = g.S.State.known c.args.state.now in
    let excluded : IsExcluded known c.args.word (mask_of known c.args.word) (datum_of known c.args.word) =
    rw (← c.summarize-summary.ensures.mask, ← c.summarize-summary.ensures.datum) (c.if-is_excluded.ensures.0 refl) in
    (λ _. inr (inr (inr excluded)), λ _. refl)

pub returns-in-None : goal.returns-in-None
returns-in-None g c = (λ _. inl c.in-None.ensures, λ _. refl)
