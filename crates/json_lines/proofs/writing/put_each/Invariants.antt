-- The details so far are written.
use Rattle.std.proofs.Common.{◌≡◌, ◌++◌, drop, map}
use Rattle.json_lines.specs.Shapes.{shapes_in}
use Rattle.json_lines.specs.inner.Tokens.{each_tokens, said}
use Rattle.json_lines.specs.inner.Views.{texts}
use Rattle.json_lines.proofs.writing.put_each.Given as goal

abbrev pub invariant-loop-line : goal.invariant-loop-line
invariant-loop-line l = record {
  tokens : l.writer.tokens ++ each_tokens (shapes_in l.shapes) (map said (texts (drop l.line-index l.lines)))
      ≡ l.fn.writer.tokens ++ each_tokens (shapes_in l.shapes) (map said (texts l.lines));
  before : l.writer.before ≡ l.fn.writer.before;
}
