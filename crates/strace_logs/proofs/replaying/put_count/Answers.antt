use Rattle.std.proofs.Common.{[], ◌∷◌, ◌∙◌}
use Rattle.std.specs.Prelude.{string_bytes}
use Rattle.texts.specs.Lines.{line_feed}
use Rattle.strace_logs.specs.Replayed.{left_text, refused_text}
use Rattle.strace_logs.proofs.RefusedLaws.{told_three}
use Rattle.strace_logs.proofs.replaying.put_count.Goals as goal

pub returns : goal.returns
returns c =
    c.in_ok-push_str.ensures.bytes
    ∙ told_three (string_bytes c.args.text.now) (string_bytes c.put_refused.new.text) (string_bytes c.put_left.new.text)
    (refused_text c.args.refused c.args.records) (left_text c.args.left) (line_feed ∷ []) c.in_ok-put_refused.ensures c.in_ok-put_left.ensures
