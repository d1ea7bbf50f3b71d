use Rattle.std.proofs.Common.{rules, ◌==◌, map, ap, sym, ◌∙◌}
use Rattle.std.specs.List.{list_any}
use Rattle.profile_json.specs.inner.Reading.{index_at}
use Rattle.profile_json.proofs.reading.Conditions.{any_index}
use Rattle.profile_json.proofs.argument.index_at.Goals as goal

pub returns-then-has_index-clause-reading : goal.returns-then-has_index-clause-reading
unfolding index_at
returns-then-has_index-clause-reading c =
    let seen = any_index c.args.earlier.now.items c.in_ok-number.number
    ∙ ap (λ cs. list_any (λ j. j == c.in_ok-number.number) (map (λ x. x.index) cs)) (sym c.as_slice.ensures.value)
    ∙ sym c.has_index.ensures ∙ c.if-has_index.true in
    rw (c.in_ok-number.ensures, seen) (search rules)

pub returns-clause-reading : goal.returns-clause-reading
unfolding index_at
returns-clause-reading c =
    let seen = any_index c.args.earlier.now.items c.in_ok-number.number
    ∙ ap (λ cs. list_any (λ j. j == c.in_ok-number.number) (map (λ x. x.index) cs)) (sym c.as_slice.ensures.value)
    ∙ sym c.has_index.ensures ∙ c.if-has_index.false in
    rw (c.in_ok-number.ensures, seen) (search rules)
