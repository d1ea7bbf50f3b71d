use Rattle.std.proofs.Common.{◌≡◌, ◌++◌, ◌∙◌}
use Rattle.std.specs.Prelude.{codes, string_bytes}
use Rattle.std.specs.Fmt.{decimal}
use Rattle.show.specs.Read.{entry_text}
use Rattle.show.proofs.EntryLaws.{no_rules}
use Rattle.wording.proofs.Results.{if_ok_weaker}
use Rattle.show.proofs.entries.put_entry.Goals as goal

pub returns-in-empty : goal.returns-in-empty
returns-in-empty c =
    let old = string_bytes c.args.text.now in
    let new = string_bytes c.writeln.new.self in
    if_ok_weaker (λ _. new ≡ old ++ (codes "entry " ++ (decimal c.args.entry ++ codes " names no call of these machines\n")))
    (λ _. new ≡ old ++ entry_text c.args.entry c.args.rules.now)
    (λ _ is. is ∙ no_rules old c.args.entry c.args.rules.now c.in-empty.len_below)
    c.writeln.result c.writeln.ensures.bytes
