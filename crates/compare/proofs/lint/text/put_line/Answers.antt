use Rattle.std.proofs.Common.{◌≡◌, ◌++◌, ℕ, List, ap, ◌∙◌, append_assoc}
use Rattle.std.specs.Prelude.{codes, string_bytes}
use Rattle.compare.specs.LintTold.{unlike_text}
use Rattle.compare.proofs.lint.text.put_line.Goals as goal

pub returns : goal.returns
returns c =
    let all = c.args.all.now in
    let end : List ℕ = codes "\n" in
    c.in_ok-push_str.ensures.bytes ∙ ap (λ (l : List ℕ). l ++ end) c.in_ok-put_unlike.ensures
    ∙ append_assoc (string_bytes c.args.text.now) (unlike_text c.args.way c.args.family all.rules.items all.ends.items c.args.past.now) end
