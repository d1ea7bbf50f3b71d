use Rattle.std.proofs.Common.{◌≡◌, ◌++◌, List, ℕ, ap, ◌∙◌}
use Rattle.std.specs.Prelude.{string_bytes}
use Rattle.compare.specs.LintTold.{found_text}
use Rattle.compare.proofs.lint.text.text_of.Goals as goal

pub returns : goal.returns
returns c =
    let rules = c.args.bundle.now.by_entry.rules.items in
    let ends = c.args.bundle.now.by_entry.ends.items in
    let remarks = c.deref.result.now in
    let text = found_text c.family.result rules ends c.args.found.now in
    let is : string_bytes c.push_str.new.self ≡ text ++ remarks =
    c.in_ok-push_str.ensures.bytes ∙ ap (λ (l : List ℕ). l ++ remarks)
    (c.in_ok-put_found.ensures ∙ ap (λ (l : List ℕ). l ++ text) c.new-text.ensures.bytes) in
    record {
      rules = rules;
      ends = ends;
      are_rules = c.requires;
      remarks = remarks;
      is = rw c.native.ensures at (rw c.family.ensures at is);
    }
