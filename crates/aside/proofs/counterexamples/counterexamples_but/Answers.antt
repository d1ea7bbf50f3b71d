use Rattle.std.proofs.Common.{ap, inl, inr, ◌∙◌}
use Rattle.aside.proofs.AsideLaws.{refuted, judged_as}
use Rattle.aside.proofs.FrontLaws.{if_ok}
use Rattle.aside.proofs.counterexamples.counterexamples_but.Goals as goal

pub counterexamples_in-requires : goal.counterexamples_in-requires
counterexamples_in-requires c = λ found e.
    let but = c.args.but.now in
    refuted c.args.document.now.native c.args.document.now.bytes c.args.filter.now c.args.behind.now.rest.now c.args.behind.now.answered.items c.requires.0
    but.aside.items but.judged.whole but.judged.evidence c.requires.1 found (c.in-Ok.is ∙ ap judged_as e)

pub returns-in-Ok : goal.returns-in-Ok
returns-in-Ok c =
    if_ok c.counterexamples_in.result _ _
    (λ all h. elim h [ inl none ↦ inl none | inr some ↦ inr (some.0, c.in-Ok.is ∙ ap judged_as some.1, some.2) ])
    c.counterexamples_in.ensures
