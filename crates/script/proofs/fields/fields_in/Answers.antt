use Rattle.std.proofs.Common.{◌∙◌, ap, sym, refl, rules, lit<, []}
use Rattle.std.specs.Prelude.{None, Some}
use Rattle.script.specs.inner.Reading.{fields_from, pieces}
use Rattle.script.proofs.Pieces.{cut-split}
use Rattle.script.proofs.fields.fields_in.Goals as goal

pub returns-then-not-add : goal.returns-then-not-add
returns-then-not-add c =
    let parted = cut-split 32 c.field.rest.now (Some (c.in-Some.field, c.in-Some.more)) c.in-Some.ensures.cases (lit< tt) in
    sym (c.field.invariant.found ∙ ap (fields_from _) parted ∙ c.add.ensures (pieces c.in-Some.more.now) ∙ rw c.if-not-add.true refl)

pub field-preserved : goal.field-preserved
field-preserved c =
    let parted = cut-split 32 c.field.rest.now (Some (c.in-Some.field, c.in-Some.more)) c.in-Some.ensures.cases (lit< tt) in
    record {
      found = c.field.invariant.found ∙ ap (fields_from _) parted ∙ c.add.ensures (pieces c.in-Some.more.now) ∙ rw c.if-not-add.false refl;
      utf8 = search rules;
    }

pub returns-then-not-add-2 : goal.returns-then-not-add-2
returns-then-not-add-2 c =
    let last = cut-split 32 c.field.rest.now None c.in_default.ensures.cases (lit< tt) in
    sym (c.field.invariant.found ∙ ap (fields_from _) last ∙ c.add-2.ensures [] ∙ rw c.if-not-add-2.true refl)

pub returns : goal.returns
returns c =
    let last = cut-split 32 c.field.rest.now None c.in_default.ensures.cases (lit< tt) in
    sym (c.field.invariant.found ∙ ap (fields_from _) last ∙ c.add-2.ensures [] ∙ rw c.if-not-add-2.false refl)
