use Rattle.std.proofs.Common.{◌≡◌, [], refl, sym, ◌∙◌, arith, vec_len}
use Rattle.std.proofs.lemmas.Bool.{eqb-true}
use Rattle.std.proofs.lemmas.List.{nil_from_length}
use Rattle.compare.proofs.lint.decided.finding_of.Goals as goal

pub returns : goal.returns
returns c = λ family p both.
    let free : c.args.crowded.items ≡ [] =
    nil_from_length c.args.crowded.items (omega (arith, eqb-true (vec_len c.args.crowded) 0 (sym c.is_empty.ensures ∙ c.if-not-is_empty.false))) in
    let none : c.args.past.items ≡ [] =
    nil_from_length c.args.past.items (omega (arith, eqb-true (vec_len c.args.past) 0 (sym c.is_empty-2.ensures ∙ c.if-not-is_empty-2.false))) in
    let no : c.args.stopped.items ≡ [] =
    nil_from_length c.args.stopped.items (omega (arith, eqb-true (vec_len c.args.stopped) 0 (sym c.is_empty-3.ensures ∙ c.if-not-is_empty-3.false))) in
    (both.past.others none free, both.stopped.others no free)
