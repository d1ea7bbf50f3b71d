use Rattle.std.proofs.Common.{◌≡◌, ◌++◌, true, false, [], ◌∷◌, refl, sym, subst, ap, ◌∙◌}
use Rattle.std.specs.Prelude.{All}
use Rattle.std.proofs.Common.{append_assoc}
use Rattle.std.proofs.lemmas.List.Elements.{All-append, All-cons, All-head, All-nil}
use Rattle.cert_state.specs.inner.Gathered.{Holds}
use Rattle.cert_state.proofs.ListLaws.{all_after}
use Rattle.cert_state.proofs.gathered.all_hold.Goals as goal

pub returns-then-not-holds : goal.returns-then-not-holds
returns-then-not-holds g c =
    let P = Holds c.args.asked c.args.word in
    let so = c.loop-literal.invariant in
    let later = g.S.State.rest c.args.state.now c.in-Some.next in
    let whole : so.0 ++ c.in-Some.literal ∷ later ≡ g.S.State.known c.args.state.now = ap (λ r. so.0 ++ r) (sym c.in-Some.ensures.more) ∙ so.1 in (
      λ t. let e : false ≡ true = t in cc,
      λ all.
          let here = All-head P c.in-Some.literal later (all_after P so.0 (c.in-Some.literal ∷ later) (subst (All P) (sym whole) all)) in
          absurd (let e : false ≡ true = c.if-not-holds.ensures.1 here in cc),
    )

pub loop-literal-preserved : goal.loop-literal-preserved
loop-literal-preserved g c =
    let P = Holds c.args.asked c.args.word in
    let so = c.loop-literal.invariant in
    let later = g.S.State.rest c.args.state.now c.in-Some.next in
    let whole : so.0 ++ c.in-Some.literal ∷ later ≡ g.S.State.known c.args.state.now = ap (λ r. so.0 ++ r) (sym c.in-Some.ensures.more) ∙ so.1 in (
      so.0 ++ c.in-Some.literal ∷ [],
      append_assoc so.0 (c.in-Some.literal ∷ []) later ∙ whole,
      All-append P so.0 (c.in-Some.literal ∷ []) so.2 (All-cons P c.in-Some.literal [] (c.if-not-holds.ensures.0 refl) (All-nil P)),
    )
