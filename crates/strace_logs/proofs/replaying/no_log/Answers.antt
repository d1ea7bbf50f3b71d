use Rattle.std.proofs.Common.{◌++◌, ◌∷◌, [], List, ap, refl, sym, append_assoc, ◌∙◌}
use Rattle.std.specs.Prelude.{ℕ, codes}
use Rattle.texts.specs.Lines.{line_feed}
use Rattle.strace_logs.proofs.replaying.no_log.Goals as goal

pub returns : goal.returns
returns c = record {
  bytes =
      rw c.into_bytes.ensures.value (c.in_ok-line.ensures.ok
      ∙ sym (ap (λ (l : List ℕ). codes "refused log " ++ l)
      (append_assoc c.args.name.now (codes ": it is no log of strace -f -n -e raw=all: no line tells a call, or one has an argument that is no number") (line_feed ∷ []))));
  end = refl;
}
