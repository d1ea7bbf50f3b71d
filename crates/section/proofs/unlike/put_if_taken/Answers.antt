use Rattle.std.proofs.Common.{◌≡◌, ◌++◌, ◌∙◌, map, subst, IfOk}
use Rattle.std.specs.Str.{bytes_eq, str_eq_ignore_ascii_case}
use Rattle.section.specs.Unlike.{count_alike, count_same}
use Rattle.section.proofs.Lists.{count_of_map}
use Rattle.section.proofs.UnlikeLaws.{taken_otherwise, taken_twice}
use Rattle.section.proofs.unlike.put_if_taken.Goals as goal

pub returns-then-alike-gt1 : goal.returns-then-alike-gt1
returns-then-alike-gt1 c =
    let members = c.args.members.now in
    let k = c.args.key.now in
    let keys = map (λ m. m.0.now) members in
    let alike : c.count_alike-alike.result ≡ count_alike keys k
    = c.count_alike-alike.ensures ∙ count_of_map (λ m. m.0.now) (λ other. str_eq_ignore_ascii_case other k) members in
    subst (λ own. IfOk c.put_line.result (λ _. c.put_line.new.lines.items ≡ c.args.lines.now.items ++ own))
    (taken_twice c.args.place.now keys k c.count_alike-alike.result alike c.if-alike-gt1.true) c.put_line.ensures

pub returns : goal.returns
returns c =
    let members = c.args.members.now in
    let k = c.args.key.now in
    let keys = map (λ m. m.0.now) members in
    let alike : c.count_alike-alike.result ≡ count_alike keys k
    = c.count_alike-alike.ensures ∙ count_of_map (λ m. m.0.now) (λ other. str_eq_ignore_ascii_case other k) members in
    let same : c.count_of.result ≡ count_same keys k
    = c.count_of.ensures ∙ count_of_map (λ m. m.0.now) (λ other. bytes_eq other k) members in
    subst (λ own. IfOk c.put_line-2.result (λ _. c.put_line-2.new.lines.items ≡ c.args.lines.now.items ++ own))
    (taken_otherwise c.args.place.now keys k c.count_alike-alike.result alike c.count_of.result same c.if-alike-gt1.false c.if-alike-count_of.false)
    c.put_line-2.ensures
