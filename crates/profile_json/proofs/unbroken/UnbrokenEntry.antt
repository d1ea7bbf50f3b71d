-- An entry that is meant: there is one meaning, and it breaks no rule.
use Rattle.std.proofs.Common.{◌≡◌, ℕ, List, [], length, Some, true, sym, ◌∙◌, ap, subst, arith}
use Rattle.std.specs.List.{AllZip, Contains}
use Rattle.std.proofs.lemmas.Option.{same_Some}
use Rattle.serde_json.specs.Data.{Data}
use Rattle.machines.specs.declared.arch.Family.{Family}
use Rattle.profile_json.specs.Keys as key
use Rattle.profile_json.specs.Fault.{Fault}
use Rattle.profile_json.specs.Parts.{CondParts, EntryParts}
use Rattle.profile_json.specs.Lookup.{holds, member, object, text, list}
use Rattle.profile_json.specs.Names.{is_known}
use Rattle.profile_json.specs.Meaning.{NamesMean, EntryMeans}
use Rattle.profile_json.specs.Breaks.{NamesListBreaks, no_list, many, NameBreaks, no_text, unknown, NamesBreak, EntryBreaks, no_object, names, word, args}
use Rattle.profile_json.specs.Breaks as breaks
use Rattle.profile_json.proofs.Lists.{related, one_related}
use Rattle.profile_json.proofs.reading.Steps.{needed_unbroken, is_some_not_none, holds_same, none_some, true_false}
use Rattle.profile_json.proofs.reading.ActionLaws.{verdict_unbroken, one_verdict}
use Rattle.profile_json.proofs.unbroken.UnbrokenArgs.{args_unbroken, one_args}

-- ---- names

-- the value is the text of a call that is known
abbrev IsName : Family → Data → List ℕ → Type 0
IsName family value name = (text value ≡ Some name) × (is_known family name ≡ true)

one_values : (d : Data) (ds xs : List Data) → member list key.names d ≡ holds ds → member list key.names d ≡ holds xs → ds ≡ xs
one_values d ds xs p q = holds_same ds xs (sym p ∙ q)

list_unbroken : (family : Family) (d : Data) (ns : List (List ℕ)) (f : Fault) → NamesMean family d ns → NamesListBreaks family d f → ⊥
list_unbroken family d ns f m (no_list _ e) = needed_unbroken (member list key.names d) m.values f m.values_are e
list_unbroken family d ns _ m (breaks.none e) =
    let same : m.values ≡ [] = one_values d m.values [] m.values_are e in
    let some = m.some in
    let empty : length m.values ≡ 0 = ap length same in
    omega (arith, some, empty)
list_unbroken family d ns _ m (many ds at e) =
    let same : m.values ≡ ds = one_values d m.values ds m.values_are at in
    let few = m.few in
    let long : length m.values ≡ length ds = ap length same in
    omega (arith, few, long, e)

name_unbroken : (family : Family) (x : Data) (name : List ℕ) (f : Fault) → IsName family x name → NameBreaks family x f → ⊥
name_unbroken family x name _ is (no_text e) = none_some (text x) name e is.0
name_unbroken family x name _ is (unknown t e u) =
    let names_it : name ≡ t = same_Some name t (sym is.0 ∙ e) in
    true_false (is_known family t) (ap (is_known family) (sym names_it) ∙ is.1) u

names_unbroken : (family : Family) (d : Data) (ns : List (List ℕ)) (f : Fault) → NamesMean family d ns → NamesBreak family d f → ⊥
names_unbroken family d ns f m (breaks.NamesBreak.in_list _ e) = list_unbroken family d ns f m e
names_unbroken family d ns f m (breaks.NamesBreak.in_name ds x _ at in_ds e) =
    let same : ds ≡ m.values = one_values d ds m.values at m.values_are in
    let name = related (IsName family) m.values ns x m.each (subst (λ xs. Contains xs x) same in_ds) in
    name_unbroken family x name.0 f name.1 e

one_name : (family : Family) (d : Data) (x y : List ℕ) → IsName family d x → IsName family d y → x ≡ y
one_name family d x y p q = same_Some x y (sym p.0 ∙ q.0)

one_names : (family : Family) (d : Data) (xs ys : List (List ℕ)) → NamesMean family d xs → NamesMean family d ys → xs ≡ ys
one_names family d xs ys m n =
    let same : m.values ≡ n.values = one_values d m.values n.values m.values_are n.values_are in
    one_related (IsName family) (one_name family) n.values xs ys (subst (λ ds. AllZip (IsName family) ds xs) same m.each) n.each

-- ---- entries

pub entry_unbroken : (family : Family) (d : Data) (e : EntryParts) (f : Fault) → EntryMeans family d e → EntryBreaks family d f → ⊥
entry_unbroken family d e _ m (no_object bad) = is_some_not_none (object d) m.is_object bad
entry_unbroken family d e f m (names _ is_object bad) = names_unbroken family d e.names f m.names bad
entry_unbroken family d e f m (word _ is_object bad) = verdict_unbroken family key.action key.errno_ret d e.word f m.verdict_is bad
entry_unbroken family d e f m (args _ is_object bad) = args_unbroken d e.conds f m.args bad

entry_of : List (List ℕ) → List CondParts → ℕ → EntryParts
entry_of ns cs w = record { names = ns; conds = cs; word = w }

same_entry : (x y : EntryParts) → x.names ≡ y.names → x.conds ≡ y.conds → x.word ≡ y.word → x ≡ y
unfolding entry_of
same_entry x y en ec ew = ap (λ ns. entry_of ns x.conds x.word) en ∙ ap (λ cs. entry_of y.names cs x.word) ec
    ∙ ap (entry_of y.names y.conds) ew

pub one_entry : (family : Family) (d : Data) (x y : EntryParts) → EntryMeans family d x → EntryMeans family d y → x ≡ y
one_entry family d x y m n =
    let words : x.word ≡ y.word = one_verdict family key.action key.errno_ret d x.word y.word m.verdict_is n.verdict_is in
    same_entry x y (one_names family d x.names y.names m.names n.names) (one_args d x.conds y.conds m.args n.args) words
