use Rattle.std.proofs.Common.{◌≡◌, [], List, ℕ, length, ap, arith, refl, subst, sym, vec_len, ◌∙◌}
use Rattle.std.proofs.lemmas.Bool.{eqb-false}
use Rattle.section.specs.Unlike.{AreLinesOf}
use Rattle.section.proofs.TakenLaws.{is_unlike}
use Rattle.section.proofs.taken.take_read.Goals as goal

pub take_alike-requires-clause-lines : goal.take_alike-requires-clause-lines
take_alike-requires-clause-lines c =
    subst (λ (b : List ℕ). AreLinesOf b c.in_ok-unlike.unlike.items) c.deref.ensures.value c.in_ok-unlike.ensures

pub returns : goal.returns
returns c =
    let lines = c.in_ok-unlike.unlike in
    is_unlike c.args.native c.args.bytes.items _ c.requires.family c.new-2.ensures.native c.requires.small
    (subst (λ (b : List ℕ). AreLinesOf b lines.items) c.deref.ensures.value c.in_ok-unlike.ensures)
    (λ (none : lines.items ≡ []). eqb-false (vec_len lines) 0 (sym c.is_empty.ensures ∙ c.if-is_empty.false)
    (let zero : length lines.items ≡ 0 = ap length none in omega (arith, zero)))
    refl (c.new-2.ensures.bytes ∙ c.new.ensures.items)
