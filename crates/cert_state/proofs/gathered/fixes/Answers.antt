use Rattle.std.proofs.Common.{◌≡◌, true, false, refl, inl, inr}
use Rattle.cert_state.proofs.GatheredLaws.{known_by, one_by}
use Rattle.cert_state.proofs.gathered.fixes.Goals as goal

pub returns-then-says : goal.returns-then-says
returns-then-says g c =
    let at = known_by (g.K.Searched.lits c.args.known.now) c.args.word c.args.facts.now c.requires c.args.mask c.args.datum in
    (λ t. inr (inl (at.1 (c.if-says.ensures.0 refl))), λ h. refl)

pub returns-then-is_one : goal.returns-then-is_one
returns-then-is_one g c =
    let at = one_by (g.K.Searched.lits c.args.known.now) c.args.word c.args.facts.now c.requires c.args.mask c.args.datum in
    (λ t. inr (inr (at.1 (c.if-is_one.ensures.0 refl))), λ h. refl)

pub is_among-requires : goal.is_among-requires
is_among-requires g c = λ whole has.
    let says = known_by (g.K.Searched.lits c.args.known.now) c.args.word c.args.facts.now c.requires c.args.mask c.args.datum in
    let e : false ≡ true = c.if-says.ensures.1 (says.0 (c.requires.whole whole c.args.mask c.args.datum has)) in
    cc

pub returns : goal.returns
returns g c =
    let known = g.K.Searched.lits c.args.known.now in
    let says = known_by known c.args.word c.args.facts.now c.requires c.args.mask c.args.datum in
    let one = one_by known c.args.word c.args.facts.now c.requires c.args.mask c.args.datum in (
      λ t. inl (c.is_among.ensures.0 t),
      λ h. elim h [
        | inl has ↦ c.is_among.ensures.1 has
        | inr derived ↦
            elim derived [
              | inl stated ↦ absurd (let e : false ≡ true = c.if-says.ensures.1 (says.0 stated) in cc)
              | inr point ↦ absurd (let e : false ≡ true = c.if-is_one.ensures.1 (one.0 point) in cc)
            ]
      ],
    )
