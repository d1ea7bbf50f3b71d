use Rattle.std.proofs.Common.{◌≡◌, ◌∷◌, [], ◌++◌, ℕ, List, IfOk, ap, subst, ◌∙◌}
use Rattle.std.specs.Prelude.{codes}
use Rattle.json.specs.Token.{Token, begin_object}
use Rattle.json_lines.specs.Objects.{certificate_object}
use Rattle.json_lines.specs.Shapes.{bytes_row}
use Rattle.json_lines.proofs.Tokens.{line_is, object_done}
use Rattle.json_lines.proofs.writing.certificate_line.Goals as goal

pub returns : goal.returns
returns c =
    let done = object_done [] c.begin_object.new.self.tokens c.put_bytes.new.writer.tokens c.end_object.new.self.tokens
    (bytes_row (codes "certificate") c.args.bytes.now)
    (c.in_ok-begin_object.ensures.ok ∙ ap (λ (t : List Token). t ++ begin_object ∷ []) c.new-writer.ensures.tokens)
    c.in_ok-put_bytes.ensures.tokens c.in_ok-end_object.ensures.ok in
    let none_before = c.in_ok-end_object.ensures.room.0 ∙ c.in_ok-put_bytes.ensures.before ∙ c.in_ok-begin_object.ensures.room.0
    ∙ c.new-writer.ensures.before ∙ c.new.ensures.items in
    subst (λ (t : List ℕ). IfOk c.line_of.result (λ bytes. bytes.items ≡ t))
    (line_is c.end_object.new.self.before c.end_object.new.self.tokens (certificate_object c.args.bytes.now) none_before done) c.line_of.ensures
