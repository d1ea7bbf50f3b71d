use Rattle.std.proofs.Common.{◌≡◌, true, false, refl, inl, inr}
use Rattle.cert_state.proofs.GatheredLaws.{dead_there, not_excluded}
use Rattle.cert_state.proofs.gathered.dies.Goals as goal

pub returns-then-facts : goal.returns-then-facts
returns-then-facts g c = (λ _. inl (c.requires.none c.if-facts.true), λ _. refl)

pub returns-then-none_in : goal.returns-then-none_in
returns-then-none_in g c =
    let at = dead_there (g.S.State.known c.args.state.now) c.args.word c.args.facts.now c.requires c.if-facts.false c.if-not-facts.false in
    (λ _. at.1 (inl (c.if-none_in.ensures.0 refl)), λ _. refl)

pub returns-then-facts-2 : goal.returns-then-facts-2
returns-then-facts-2 g c =
    let known = g.S.State.known c.args.state.now in
    let at = dead_there known c.args.word c.args.facts.now c.requires c.if-facts.false c.if-not-facts.false in (
      λ t. let e : false ≡ true = t in cc,
      λ h. elim (at.0 h) [
        | inl none ↦ absurd (let e : false ≡ true = c.if-none_in.ensures.1 none in cc)
        | inr out ↦ absurd (not_excluded known c.args.word c.args.facts.now c.requires c.if-facts-2.true _ _ out)
      ],
    )

pub returns : goal.returns
returns g c =
    let known = g.S.State.known c.args.state.now in
    let at = dead_there known c.args.word c.args.facts.now c.requires c.if-facts.false c.if-not-facts.false in (
      λ t. at.1 (inr (c.is_excluded.ensures.0 t)),
      λ h. elim (at.0 h) [
        | inl none ↦ absurd (let e : false ≡ true = c.if-none_in.ensures.1 none in cc)
        | inr out ↦ c.is_excluded.ensures.1 out
      ],
    )
