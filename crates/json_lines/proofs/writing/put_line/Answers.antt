use Rattle.std.proofs.Common.{◌++◌, ap, ◌∙◌}
use Rattle.json_lines.specs.Shapes.{Row, shapes_in}
use Rattle.json_lines.specs.inner.Tokens.{row_tokens}
use Rattle.json_lines.proofs.Tokens.{row_of_bytes, row_of_text}
use Rattle.json_lines.proofs.writing.put_line.Goals as goal

pub returns-in_ok-put_text-in-Ok-clause-tokens : goal.returns-in_ok-put_text-in-Ok-clause-tokens
returns-in_ok-put_text-in-Ok-clause-tokens c =
    c.in_ok-put_text-in-Ok.ensures.tokens
    ∙ ap (λ (row : Row). c.args.writer.now.tokens ++ row_tokens row)
    (row_of_text (shapes_in c.args.shapes.now) c.args.line.now c.in-Ok.text.now c.in-Ok.ensures.cases.0 c.in-Ok.ensures.cases.1)

pub returns-in_ok-put_bytes-in-Err-clause-tokens : goal.returns-in_ok-put_bytes-in-Err-clause-tokens
returns-in_ok-put_bytes-in-Err-clause-tokens c =
    c.in_ok-put_bytes-in-Err.ensures.tokens
    ∙ ap (λ (row : Row). c.args.writer.now.tokens ++ row_tokens row)
    (row_of_bytes (shapes_in c.args.shapes.now) c.args.line.now c.in-Err.ensures.cases.0)
