use Rattle.std.proofs.Common.{◌≡◌, ◌++◌, ◌∙◌, IfOk, subst}
use Rattle.json.specs.Value.{value_view}
use Rattle.section.specs.Unread.{argument_keys}
use Rattle.section.specs.Unlike.{object_lines}
use Rattle.section.proofs.unlike.put_argument.Goals as goal

pub returns : goal.returns
returns c =
    subst (λ place. IfOk c.put_object.result (λ _. c.put_object.new.lines.items
    ≡ c.args.lines.now.items ++ object_lines argument_keys place (value_view c.args.value.now)))
    (c.deref.ensures ∙ c.in_ok-place.ensures) c.put_object.ensures
