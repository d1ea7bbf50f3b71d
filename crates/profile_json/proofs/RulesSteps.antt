-- The rules of entries, entry by entry, and where each entry's rules end.
use Rattle.std.proofs.Common.{◌≡◌, ℕ, ◌<◌, ◌≤◌, ◌+◌, List, [], ◌∷◌, ◌++◌, length, map, drop, get_or, sym, ◌∙◌, ap, length-append}
use Rattle.std.proofs.lemmas.List.{append-nil, append_assoc, drop_all, drop_more, length-map}
use Rattle.machines.specs.declared.arch.Arch.{Arch}
use Rattle.profile.specs.declared.rules.Rule.{Rule}
use Rattle.profile_json.specs.declared.entry.Entry.{Entry}
use Rattle.profile_json.specs.inner.View.{entry_parts}
use Rattle.profile_json.specs.Parts.{RuleParts, rule_parts}
use Rattle.profile_json.specs.Rules.{rules_of, rules_of_entry, ends_after}

module _ (machines : List Arch) where
  left : {R : Type 0} (seen : List Entry → R) (entries : List Entry) (i : ℕ) (entry : Entry) → i < length entries
      → entry ≡ get_or entries i entry → seen (drop i entries) ≡ seen (entry ∷ drop (i + 1) entries)
  left seen entries i entry some at =
      ap seen (drop_more entries i entry some ∙ ap (λ e. e ∷ drop (i + 1) entries) (sym at))

  pub said_step : (old new : List Rule) (entries : List Entry) (i : ℕ) (entry : Entry) (all : List RuleParts) → i < length entries
      → entry ≡ get_or entries i entry → map rule_parts new ≡ map rule_parts old ++ rules_of_entry machines (entry_parts entry)
      → map rule_parts old ++ rules_of machines (map entry_parts (drop i entries)) ≡ all
      → map rule_parts new ++ rules_of machines (map entry_parts (drop (i + 1) entries)) ≡ all
  said_step old new entries i entry all some at is before =
      let rest = rules_of machines (map entry_parts (drop (i + 1) entries)) in
      ap (λ rules. rules ++ rest) is ∙ append_assoc (map rule_parts old) (rules_of_entry machines (entry_parts entry)) rest
      ∙ sym (left (λ es. map rule_parts old ++ rules_of machines (map entry_parts es)) entries i entry some at) ∙ before

  count : (old new : List Rule) (entry : Entry) → map rule_parts new ≡ map rule_parts old ++ rules_of_entry machines (entry_parts entry)
      → length old + length (rules_of_entry machines (entry_parts entry)) ≡ length new
  count old new entry is =
      ap (λ n. n + length (rules_of_entry machines (entry_parts entry))) (sym (length-map old rule_parts))
      ∙ sym (length-append (map rule_parts old) (rules_of_entry machines (entry_parts entry)))
      ∙ ap length (sym is) ∙ length-map new rule_parts

  pub ends_step : (old new : List Rule) (ends further : List ℕ) (entries : List Entry) (i : ℕ) (entry : Entry) (all : List ℕ)
      → i < length entries → entry ≡ get_or entries i entry
      → map rule_parts new ≡ map rule_parts old ++ rules_of_entry machines (entry_parts entry) → further ≡ ends ++ length new ∷ []
      → ends ++ ends_after (length old) machines (map entry_parts (drop i entries)) ≡ all
      → further ++ ends_after (length new) machines (map entry_parts (drop (i + 1) entries)) ≡ all
  ends_step old new ends further entries i entry all some at is more before =
      let es = map entry_parts (drop (i + 1) entries) in
      ap (λ ns. ns ++ ends_after (length new) machines es) more
      ∙ append_assoc ends (length new ∷ []) (ends_after (length new) machines es)
      ∙ ap (λ n. ends ++ n ∷ ends_after n machines es) (sym (count old new entry is))
      ∙ sym (left (λ es. ends ++ ends_after (length old) machines (map entry_parts es)) entries i entry some at) ∙ before

  pub said_done : (list : List Rule) (entries : List Entry) (i : ℕ) (all : List RuleParts) → length entries ≤ i
      → map rule_parts list ++ rules_of machines (map entry_parts (drop i entries)) ≡ all → map rule_parts list ≡ all
  said_done list entries i all none before =
      sym (append-nil (map rule_parts list))
      ∙ ap (λ es. map rule_parts list ++ rules_of machines (map entry_parts es)) (sym (drop_all i entries none)) ∙ before

  pub ends_done : (n : ℕ) (ends : List ℕ) (entries : List Entry) (i : ℕ) (all : List ℕ) → length entries ≤ i
      → ends ++ ends_after n machines (map entry_parts (drop i entries)) ≡ all → ends ≡ all
  ends_done n ends entries i all none before =
      sym (append-nil ends) ∙ ap (λ es. ends ++ ends_after n machines (map entry_parts es)) (sym (drop_all i entries none)) ∙ before
