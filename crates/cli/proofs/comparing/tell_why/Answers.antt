use Rattle.std.proofs.Common.{inr}
use Rattle.std.specs.String.{string_bytes}
use Rattle.cli.proofs.comparing.tell_why.Goals as goal

pub returns-in-Some : goal.returns-in-Some
returns-in-Some g c = inr (record {
  text = string_bytes c.in-Some.text;
  explains = c.in-Some.ensures;
  written = c.put_text.ensures;
})
