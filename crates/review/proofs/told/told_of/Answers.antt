use Rattle.std.proofs.Common.{List, ℕ, ◌∙◌, ◌++◌, ap}
use Rattle.std.specs.Prelude.{string_bytes}
use Rattle.review.proofs.told.told_of.Goals as goal

pub returns : goal.returns
returns c = record {
  groups = c.in_ok-text.ensures.0;
  are_all = c.in_ok-text.ensures.1;
  first = string_bytes c.in_ok-text.text;
  tells = c.in_ok-text.ensures.2;
  second = string_bytes c.in_ok-systemd.systemd;
  tells_systemd = c.in_ok-systemd.ensures;
  is = c.in_ok-push_str.ensures.bytes ∙ ap (λ (s : List ℕ). string_bytes c.in_ok-text.text ++ s) c.deref.ensures;
}
