use Rattle.std.proofs.Common.{◌≡◌, ◌∷◌, [], ◌++◌, ℕ, List, IfOk, ap, map, subst, ◌∙◌}
use Rattle.json.specs.Token.{Token, begin_object}
use Rattle.json_lines.specs.Kinds.{shapes_of}
use Rattle.json_lines.specs.Objects.{group_object}
use Rattle.json_lines.specs.inner.Tokens.{said}
use Rattle.json_lines.specs.inner.Views.{texts}
use Rattle.json_lines.proofs.Tokens.{group_done, line_is}
use Rattle.json_lines.proofs.writing.object.Goals as goal

pub returns : goal.returns
returns c =
    let kinds = shapes_of (c.args.kinds.0.now, c.args.kinds.1.now) in
    let lines = map said (texts c.args.details.now) in
    let done = group_done c.begin_object.new.self.tokens c.put_line.new.writer.tokens c.put_details.new.writer.tokens c.end_object.new.self.tokens kinds
    c.args.head.now lines (c.in_ok-begin_object.ensures.ok ∙ ap (λ (t : List Token). t ++ begin_object ∷ []) c.new-writer.ensures.tokens)
    c.in_ok-put_line.ensures.tokens c.in_ok-put_details.ensures.tokens c.in_ok-end_object.ensures.ok in
    let none_before = c.in_ok-end_object.ensures.room.0 ∙ c.in_ok-put_details.ensures.before ∙ c.in_ok-put_line.ensures.before
    ∙ c.in_ok-begin_object.ensures.room.0 ∙ c.new-writer.ensures.before ∙ c.new.ensures.items in
    subst (λ (t : List ℕ). IfOk c.line_of.result (λ bytes. bytes.items ≡ t))
    (line_is c.end_object.new.self.before c.end_object.new.self.tokens (group_object kinds (c.args.head.now, lines)) none_before done) c.line_of.ensures
