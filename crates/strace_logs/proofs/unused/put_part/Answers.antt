use Rattle.std.proofs.Common.{◌-◌, ◌++◌, ap, sym, ◌∙◌, drop, take}
use Rattle.std.specs.Prelude.{ℕ, List, Option, string_bytes}
use Rattle.std.proofs.lemmas.List.{drop-map, take-map}
use Rattle.strace_logs.specs.Unused.{entry_text, unused_names}
use Rattle.strace_logs.specs.inner.Views.{names_now, use_now, uses_now}
use Rattle.wording.proofs.Results.{if_ok_equal}
use Rattle.strace_logs.proofs.unused.put_part.Goals as goal

pub returns : goal.returns
returns c =
    let old = string_bytes c.args.text.now in
    let uses = c.args.uses.now in
    let count = c.args.end - c.args.start in
    if_ok_equal (string_bytes c.put_entry.new.text) (old ++ entry_text c.args.entry (names_now c.deref.result.now))
    (old ++ entry_text c.args.entry (unused_names (take count (drop c.args.start (uses_now uses)))))
    (ap (λ (l : List (Option (List ℕ))). old ++ entry_text c.args.entry l)
    (ap names_now c.deref.ensures.value
    ∙ c.in_ok-names.ensures
    ∙ ap (λ l. unused_names (uses_now l)) c.part_of.ensures
    ∙ ap unused_names (sym (take-map use_now count (drop c.args.start uses)) ∙ sym (ap (take count) (drop-map use_now c.args.start uses)))))
    c.put_entry.result c.put_entry.ensures
