use Rattle.std.proofs.Common.{◌≡◌, true, false, ◌||◌, ap, sym, ◌∙◌, rules}
use Rattle.std.specs.Str.{bytes_eq}
use Rattle.section.specs.Unread.{is_remark}
use Rattle.section.proofs.Lists.{any_of_map}
use Rattle.section.proofs.unread.is_known.Goals as goal

pub returns-then-is_one_of : goal.returns-then-is_one_of
returns-then-is_one_of c =
    let key = c.args.key.now in
    let same = any_of_map (λ k. k.now) (λ other. bytes_eq other key) c.args.known.now in
    let yes : c.is_one_of.result ≡ true = search rules in
    yes ∙ ap (λ b. b || is_remark key) (sym yes ∙ c.is_one_of.ensures ∙ same)

pub returns-else-is_one_of : goal.returns-else-is_one_of
returns-else-is_one_of c =
    let key = c.args.key.now in
    let same = any_of_map (λ k. k.now) (λ other. bytes_eq other key) c.args.known.now in
    let no : c.is_one_of.result ≡ false = search rules in
    c.is_remark.ensures ∙ ap (λ b. b || is_remark key) (sym no ∙ c.is_one_of.ensures ∙ same)
