use Rattle.std.proofs.Common.{◌≡◌, true, false, refl, inl, inr}
use Rattle.cert_state.proofs.GatheredLaws.{differ_by, excludes_itself, missed_by}
use Rattle.cert_state.proofs.gathered.excludes.Goals as goal

pub returns-then-differs : goal.returns-then-differs
returns-then-differs g c =
    let at = differ_by (g.K.Searched.lits c.args.known.now) c.args.word c.args.facts.now c.requires c.args.mask c.args.datum in
    (λ t. inr (inl (at.1 (c.if-differs.ensures.0 refl))), λ h. refl)

pub returns-then-misses : goal.returns-then-misses
returns-then-misses g c =
    let at = missed_by (g.K.Searched.lits c.args.known.now) c.args.word c.args.facts.now c.requires c.args.mask c.args.datum in
    (λ t. inr (inr (inr (at.1 (c.if-misses.ensures.0 refl)))), λ h. refl)

pub returns-then-facts : goal.returns-then-facts
returns-then-facts g c =
    let known = g.K.Searched.lits c.args.known.now in
    let differ = differ_by known c.args.word c.args.facts.now c.requires c.args.mask c.args.datum in
    let missed = missed_by known c.args.word c.args.facts.now c.requires c.args.mask c.args.datum in (
      λ t. let e : false ≡ true = t in cc,
      λ h. elim h [
        | inl has ↦ absurd (c.requires.free c.if-facts.true c.args.mask c.args.datum has)
        | inr derived ↦
            elim derived [
              | inl other ↦ absurd (let e : false ≡ true = c.if-differs.ensures.1 (differ.0 other) in cc)
              | inr derived ↦
                  elim derived [
                    | inl out ↦ absurd (c.requires.free c.if-facts.true out.mask out.datum out.stated)
                    | inr none ↦ absurd (let e : false ≡ true = c.if-misses.ensures.1 (missed.0 none) in cc)
                  ]
            ]
      ],
    )

pub returns-then-is_inside : goal.returns-then-is_inside
returns-then-is_inside g c =
    let known = g.K.Searched.lits c.args.known.now in
    let differ = differ_by known c.args.word c.args.facts.now c.requires c.args.mask c.args.datum in
    let missed = missed_by known c.args.word c.args.facts.now c.requires c.args.mask c.args.datum in (
      λ t. let e : false ≡ true = t in cc,
      λ h. elim h [
        | inl has ↦
            absurd (let out = excludes_itself known c.args.word c.args.mask c.args.datum has (c.if-is_inside.ensures.0 refl) in
            let e : false ≡ true = c.if-excludes.ensures.1 out in
            cc)
        | inr derived ↦
            elim derived [
              | inl other ↦ absurd (let e : false ≡ true = c.if-differs.ensures.1 (differ.0 other) in cc)
              | inr derived ↦
                  elim derived [
                    | inl out ↦ absurd (let e : false ≡ true = c.if-excludes.ensures.1 out in cc)
                    | inr none ↦ absurd (let e : false ≡ true = c.if-misses.ensures.1 (missed.0 none) in cc)
                  ]
            ]
      ],
    )

pub is_among-requires : goal.is_among-requires
is_among-requires g c = λ exact has.
    let known = g.K.Searched.lits c.args.known.now in
    let out = excludes_itself known c.args.word c.args.mask c.args.datum has (c.requires.exact exact c.args.mask c.args.datum has) in
    let e : false ≡ true = c.if-excludes.ensures.1 out in
    cc

pub returns : goal.returns
returns g c =
    let known = g.K.Searched.lits c.args.known.now in
    let differ = differ_by known c.args.word c.args.facts.now c.requires c.args.mask c.args.datum in
    let missed = missed_by known c.args.word c.args.facts.now c.requires c.args.mask c.args.datum in (
      λ t. inl (c.is_among.ensures.0 t),
      λ h. elim h [
        | inl has ↦ c.is_among.ensures.1 has
        | inr derived ↦
            elim derived [
              | inl other ↦ absurd (let e : false ≡ true = c.if-differs.ensures.1 (differ.0 other) in cc)
              | inr derived ↦
                  elim derived [
                    | inl out ↦ absurd (let e : false ≡ true = c.if-excludes.ensures.1 out in cc)
                    | inr none ↦ absurd (let e : false ≡ true = c.if-misses.ensures.1 (missed.0 none) in cc)
                  ]
            ]
      ],
    )
