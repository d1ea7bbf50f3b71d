use Rattle.std.proofs.Common.{◌≡◌, ◌++◌, ℕ, List, ap, ◌∙◌, append_assoc}
use Rattle.std.specs.Prelude.{codes, string_bytes}
use Rattle.compare.specs.LintTold.{call_text}
use Rattle.compare.proofs.lint.text.put_crowded.Goals as goal

pub returns : goal.returns
returns c =
    let old : List ℕ = string_bytes c.args.text.now in
    let call : List ℕ = call_text c.args.call.now.arch c.args.call.now.nr in
    let word : List ℕ = codes "undecided TooLarge " in
    let end : List ℕ = codes "\n" in
    c.in_ok-push_str-2.ensures.bytes ∙ ap (λ (l : List ℕ). l ++ end) (c.in_ok-put_call.ensures ∙ ap (λ (l : List ℕ). l ++ call) c.in_ok-push_str.ensures.bytes)
    ∙ append_assoc (old ++ word) call end ∙ append_assoc old word (call ++ end)
