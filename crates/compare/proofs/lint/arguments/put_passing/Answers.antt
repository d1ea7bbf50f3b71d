use Rattle.std.proofs.Common.{◌≡◌, ◌++◌, ◌∙◌, ap, ℕ, List, append_assoc}
use Rattle.std.specs.Prelude.{string_bytes}
use Rattle.call_record.specs.Fate.{fate_of}
use Rattle.call_record.specs.declared.fate.Fate.{Fate}
use Rattle.wording.proofs.Results.{if_ok_weaker}
use Rattle.compare.specs.LintTold.{argument_text, joint_of, read_text, value_text}
use Rattle.compare.specs.declared.lint.past.Way.TheVariants.{GetsPast}
use Rattle.compare.proofs.lint.arguments.put_passing.Goals as goal

-- five parts, joined from the left
parts : (a b c d e : List ℕ) → a ++ b ++ c ++ d ++ e ≡ a ++ (b ++ c ++ d ++ e)
parts a b c d e = simp append_assoc

pub returns : goal.returns
returns c =
    let past = c.args.past.now in
    let old : List ℕ = string_bytes c.args.text.now in
    let new : List ℕ = string_bytes c.put_read.new.text in
    let before : List ℕ = string_bytes c.put_value-2.new.text in
    let joint : List ℕ = joint_of c.args.begun in
    let refused : List ℕ = value_text c.args.index c.args.read (fate_of past.cleared_word) in
    let through : List ℕ = value_text c.args.index c.args.whole (fate_of past.word) in
    let end : List ℕ = read_text c.args.read in
    let first : string_bytes c.push_str.new.self ≡ old ++ joint =
    c.in_ok-push_str.ensures.bytes ∙ ap (λ (t : List ℕ). old ++ t) c.joint_of.ensures in
    let second : string_bytes c.put_value.new.text ≡ old ++ joint ++ refused =
    c.in_ok-put_value.ensures ∙ ap (λ (f : Fate). string_bytes c.push_str.new.self ++ value_text c.args.index c.args.read f) c.fate.ensures
    ∙ ap (λ (t : List ℕ). t ++ refused) first in
    let third : before ≡ old ++ joint ++ refused ++ through =
    c.in_ok-put_value-2.ensures ∙ ap (λ (f : Fate). string_bytes c.put_value.new.text ++ value_text c.args.index c.args.whole f) c.fate-2.ensures
    ∙ ap (λ (t : List ℕ). t ++ through) second in
    if_ok_weaker (λ _. new ≡ before ++ end) (λ _. new ≡ old ++ argument_text GetsPast past.word past.cleared_word c.args.begun c.args.index c.args.whole c.args.read)
    (λ _ is. is ∙ ap (λ (t : List ℕ). t ++ end) third ∙ parts old joint refused through end) c.put_read.result c.put_read.ensures
