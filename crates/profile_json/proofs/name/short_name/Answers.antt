use Rattle.std.proofs.Common.{sym, ◌∙◌, ap, ◌++◌}
use Rattle.profile_json.proofs.reading.NameLemmas.{short_name-is, front}
use Rattle.profile_json.proofs.name.short_name.Goals as goal

pub returns : goal.returns
returns c =
    let f = c.floor_char_boundary-end.ensures in
    let short = short_name-is c.args.name.now c.floor_char_boundary-end.result f.bound f.boundary f.nearest in
    let shown = c.range.ensures.value ∙ front c.args.name.now c.floor_char_boundary-end.result in
    c.push_str.ensures.bytes ∙ ap (λ x. x ++ c.range.result.now) c.new-short.ensures ∙ shown ∙ sym short
