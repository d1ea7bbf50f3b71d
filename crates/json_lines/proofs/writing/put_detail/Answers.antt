use Rattle.json_lines.specs.Shapes.{row_of, shapes_in}
use Rattle.json_lines.proofs.Tokens.{object_done}
use Rattle.json_lines.proofs.writing.put_detail.Goals as goal

pub returns-clause-tokens : goal.returns-clause-tokens
returns-clause-tokens c =
    object_done c.args.writer.now.tokens c.begin_object.new.self.tokens c.put_line.new.writer.tokens c.end_object.new.self.tokens
    (row_of (shapes_in c.args.shapes.now) c.args.line.now) c.in_ok-begin_object.ensures.ok c.in_ok-put_line.ensures.tokens
    c.in_ok-end_object.ensures.ok
