use Rattle.std.proofs.Common.{◌≡◌, ◌++◌, ◌∙◌, ap, ℕ, List, append_assoc}
use Rattle.std.specs.Prelude.{string_bytes}
use Rattle.call_record.specs.Fate.{fate_of}
use Rattle.call_record.specs.declared.fate.Fate.{Fate}
use Rattle.wording.proofs.Results.{if_ok_weaker}
use Rattle.compare.specs.LintTold.{argument_text, fate_text, joint_of, only_text, value_text}
use Rattle.compare.specs.declared.lint.past.Way.TheVariants.{IsStopped}
use Rattle.compare.proofs.lint.arguments.put_stopped.Goals as goal

-- four parts, joined from the left
parts : (a b c d : List ℕ) → a ++ b ++ c ++ d ≡ a ++ (b ++ c ++ d)
parts a b c d = simp append_assoc

pub returns : goal.returns
returns c =
    let past = c.args.past.now in
    let old : List ℕ = string_bytes c.args.text.now in
    let new : List ℕ = string_bytes c.put_only.new.text in
    let before : List ℕ = string_bytes c.put_value.new.text in
    let joint : List ℕ = joint_of c.args.begun in
    let stopped : List ℕ = value_text c.args.index c.args.whole (fate_of past.word) in
    let end : List ℕ = only_text c.args.read (fate_text (fate_of past.cleared_word)) in
    let first : string_bytes c.push_str.new.self ≡ old ++ joint =
    c.in_ok-push_str.ensures.bytes ∙ ap (λ (t : List ℕ). old ++ t) c.joint_of.ensures in
    let second : before ≡ old ++ joint ++ stopped =
    c.in_ok-put_value.ensures ∙ ap (λ (f : Fate). string_bytes c.push_str.new.self ++ value_text c.args.index c.args.whole f) c.fate.ensures
    ∙ ap (λ (t : List ℕ). t ++ stopped) first in
    if_ok_weaker (λ _. new ≡ before ++ only_text c.args.read c.fate_text.result.now)
    (λ _. new ≡ old ++ argument_text IsStopped past.word past.cleared_word c.args.begun c.args.index c.args.whole c.args.read)
    (λ _ is. is ∙ ap (λ (said : List ℕ). before ++ only_text c.args.read said) (c.fate_text.ensures ∙ ap fate_text c.fate-2.ensures)
    ∙ ap (λ (t : List ℕ). t ++ end) second
    ∙ parts old joint stopped end) c.put_only.result c.put_only.ensures
