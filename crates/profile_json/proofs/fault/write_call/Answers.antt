use Rattle.std.proofs.Common.{◌++◌, append_assoc, append-nil, sym, ◌∙◌, ap, rules}
use Rattle.std.proofs.Output.{has_written_append, has_written_of_eq}
use Rattle.std.proofs.lemmas.Str.{IsUtf8-past_char}
use Rattle.std.specs.Char.{encode_utf8}
use Rattle.std.specs.Str.Iter.{chars_rest}
use Rattle.profile_json.specs.CallName.{printed}
use Rattle.profile_json.proofs.reading.NameLemmas.{printed_past_char, printed_none}
use Rattle.profile_json.proofs.fault.write_call.Goals as goal

pub loop-c-preserved : goal.loop-c-preserved
loop-c-preserved g c = λ plain.
    let so_far = c.loop-c.invariant plain in
    let left = chars_rest c.loop-c.left in
    let rest = chars_rest c.next.new.self in
    let one = encode_utf8 c.printed_char.result in
    let step = printed_past_char left rest c.in-Some.c so_far.3 c.in-Some.ensures.steps.0 in (
      so_far.0 ++ one,
      has_written_append _ _ _ _ _ _ so_far.1 (search rules),
      append_assoc so_far.0 one (printed rest) ∙ ap (λ x. so_far.0 ++ (x ++ printed rest)) c.printed_char.ensures
          ∙ ap (λ x. so_far.0 ++ x) (sym step) ∙ so_far.2,
      IsUtf8-past_char left rest c.in-Some.c so_far.3 c.in-Some.ensures.steps.0,
    )

pub returns : goal.returns
returns g c = λ plain ok.
    let so_far = c.loop-c.invariant plain in
    let none = printed_none (chars_rest c.loop-c.left) c.in_default.ensures.steps.0.0 in
    has_written_of_eq _ _ _ _ _ (sym (append-nil so_far.0) ∙ ap (λ x. so_far.0 ++ x) (sym none) ∙ so_far.2) so_far.1
