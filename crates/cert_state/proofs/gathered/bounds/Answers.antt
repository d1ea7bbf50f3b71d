use Rattle.std.proofs.Common.{◌≡◌, true, false, refl, inl, inr}
use Rattle.cert_state.proofs.GatheredLaws.{bounded_by}
use Rattle.cert_state.proofs.gathered.bounds.Goals as goal

pub returns-then-lies : goal.returns-then-lies
returns-then-lies g c =
    let at = bounded_by (g.K.Searched.lits c.args.known.now) c.args.word c.args.facts.now c.requires c.args.low c.args.high in
    (λ t. inr (at.1 (c.if-lies.ensures.0 refl)), λ h. refl)

pub returns : goal.returns
returns g c =
    let at = bounded_by (g.K.Searched.lits c.args.known.now) c.args.word c.args.facts.now c.requires c.args.low c.args.high in (
      λ t. inl (c.states.ensures.0 t),
      λ h. elim h [
        | inl has ↦ c.states.ensures.1 has
        | inr bounded ↦ absurd (let e : false ≡ true = c.if-lies.ensures.1 (at.0 bounded) in cc)
      ],
    )
