-- The members so far are written.
use Rattle.std.proofs.Common.{◌≡◌, ◌++◌, drop}
use Rattle.std.specs.List.{flat_map}
use Rattle.json_lines.specs.inner.Tokens.{member_tokens}
use Rattle.json_lines.specs.inner.Views.{members}
use Rattle.json_lines.proofs.writing.put_members.Given as goal

abbrev pub invariant-loop-member : goal.invariant-loop-member
invariant-loop-member l = record {
  tokens : l.writer.tokens ++ flat_map member_tokens (members (drop l.member-index l.members))
      ≡ l.fn.writer.tokens ++ flat_map member_tokens (members l.members);
  before : l.writer.before ≡ l.fn.writer.before;
}
