-- A bundle that means a profile breaks no rule.
use Rattle.std.proofs.Common.{◌≡◌, ℕ, List, [], length, map, Some, sym, ◌∙◌, ap, subst, arith}
use Rattle.std.specs.Prelude.{codes}
use Rattle.std.specs.List.{AllZip, Contains, slice_get}
use Rattle.serde_json.specs.Read.{read}
use Rattle.std.proofs.lemmas.Option.{same_Some}
use Rattle.serde_json.specs.Data.{Data}
use Rattle.machines.specs.declared.arch.Arch.{Arch}
use Rattle.machines.specs.declared.arch.Family.{Family}
use Rattle.machines.specs.Arch.{family_of}
use Rattle.profile.specs.declared.rules.Rule.{Rule}
use Rattle.profile.specs.Machines.{in_order}
use Rattle.profile.specs.Policy.{Policy}
use Rattle.profile.proofs.KeptLaws.{in_kept}
use Rattle.profile.proofs.OneBuilt.{one_kept_of, same_policy}
use Rattle.profile_json.specs.Keys as key
use Rattle.profile_json.specs.Fault.{Fault}
use Rattle.profile_json.specs.Parts.{EntryParts, rule_parts}
use Rattle.profile_json.specs.Lookup.{member, or_default, list}
use Rattle.profile_json.specs.Rules.{rules_under, rules_of_entry, rules_of}
use Rattle.profile_json.specs.Meaning.{none, VerdictMeans, EntryMeans, EntriesMean, CallsMean, Means}
use Rattle.profile_json.specs.Breaks.{ClashUnder, EntriesBreak, ListBreaks, in_list, no_list, many, in_entry, many_rules, overlapping, SeccompBreaks}
use Rattle.profile_json.specs.Breaks.{default_word, keys, archs, entries, ValueBreaks, root, seccomp, no_value, in_value}
use Rattle.profile_json.specs.Laws.{MeaningIsUnbroken, MeaningIsOne, MeaningIsKept, MeaningIsWidened}
use Rattle.profile_json.proofs.Lists.{contains_at, contains_map_back, contains_flat, related, related_at, one_related}
use Rattle.profile_json.proofs.PartsLemmas.{rule_same, rules_same}
use Rattle.profile_json.proofs.reading.Steps.{none_some}
use Rattle.profile_json.proofs.reading.RootLaws.{one_seccomp, root_unbroken, first_edition, root_widened}
use Rattle.profile_json.proofs.reading.ActionLaws.{verdict_unbroken, one_verdict, verdict_widened}
use Rattle.profile_json.proofs.reading.KeyLaws.{keys_unbroken, keys_widened}
use Rattle.profile_json.proofs.reading.ArchLaws.{one_archs, archs_unbroken}
use Rattle.profile_json.proofs.unbroken.UnbrokenEntry.{entry_unbroken, one_entry}

-- ---- entries

one_values : (s : Data) (xs ys : List Data) → or_default [] (member list key.syscalls s) ≡ Some xs
    → or_default [] (member list key.syscalls s) ≡ Some ys → xs ≡ ys
one_values s xs ys p q = same_Some xs ys (sym p ∙ q)

one_entries : (family : Family) (s : Data) (xs ys : List EntryParts) → EntriesMean family s xs → EntriesMean family s ys → xs ≡ ys
one_entries family s xs ys m n =
    let same : m.values ≡ n.values = one_values s m.values n.values m.values_are n.values_are in
    one_related (EntryMeans family) (one_entry family) n.values xs ys (subst (λ ds. AllZip (EntryMeans family) ds xs) same m.each) n.each

module _ (s : Data) (native : Arch) (p : Policy) (m : CallsMean s native p) where
  -- the meaning of a value in the list is among the entries
  among : (ds : List Data) (i : ℕ) (d : Data) (x : EntryParts) → or_default [] (member list key.syscalls s) ≡ Some ds
      → slice_get ds i ≡ Some d
      → EntryMeans (family_of native) d x → Contains m.entries x
  among ds i d x at at_i is =
      let means = m.entries_are in
      let same : ds ≡ means.values = one_values s ds means.values at means.values_are in
      let in_d : slice_get means.values i ≡ Some d = ap (λ xs. slice_get xs i) (sym same) ∙ at_i in
      let e = related_at (EntryMeans (family_of native)) means.values m.entries i d means.each in_d in
      subst (Contains m.entries) (one_entry (family_of native) d e.0 x e.2 is) (contains_at m.entries i e.0 e.1)

  said_is : map rule_parts m.said ≡ rules_of (in_order (family_of native) m.archs) m.entries
  said_is = m.said_is ∙ ap (λ machines. rules_of machines m.entries) m.machines_are

  -- a rule of an entry is kept
  rule_kept : (x : EntryParts) (name : List ℕ) (r : Rule) → Contains m.entries x → Contains x.names name
      → Contains (rules_under (in_order (family_of native) m.archs) x name) (rule_parts r) → Contains p.rules r
  rule_kept x name r in_x in_name is =
      let machines : List Arch = in_order (family_of native) m.archs in
      let of_entry = contains_flat (rules_under machines x) x.names name (rule_parts r) in_name is in
      let of_all = contains_flat (rules_of_entry machines) m.entries x (rule_parts r) in_x of_entry in
      let back = contains_map_back rule_parts m.said (rule_parts r) (subst (λ rs. Contains rs (rule_parts r)) (sym said_is) of_all) in
      in_kept m.said p.rules m.kept r (subst (Contains m.said) (rule_same back.0 r back.2) back.1)

  clash_unbroken : (x y : EntryParts) (name : List ℕ) → Contains m.entries x → Contains m.entries y
      → ClashUnder (in_order (family_of native) m.archs) x y name → ⊥
  clash_unbroken x y name in_x in_y c =
      let a = rule_kept x name c.first in_x c.in_first c.first_is in
      let b = rule_kept y name c.second in_y c.in_second c.second_is in
      let o = c.clash.1 in
      c.clash.0 (m.clear o.0 o.1 c.first c.second a b o.2 o.3)

  list_unbroken : (f : Fault) → ListBreaks s native f → ⊥
  list_unbroken _ (no_list e) = none_some (or_default [] (member list key.syscalls s)) m.entries_are.values e m.entries_are.values_are
  list_unbroken _ (many ds at e) =
      let long : length ds ≡ length m.entries_are.values = ap length (one_values s ds m.entries_are.values at m.entries_are.values_are) in
      let few = m.entries_are.few in
      omega (arith, few, long, e)
  list_unbroken _ (many_rules machines es said kept lists means is keeps long) =
      let archs_same : machines ≡ m.archs = one_archs s native machines m.archs lists m.lists_archs in
      let entries_same : es ≡ m.entries = one_entries (family_of native) s es m.entries means m.entries_are in
      let rules_are : rules_of (in_order (family_of native) machines) es ≡ rules_of (in_order (family_of native) m.archs) m.entries =
      ap (λ listed. rules_of (in_order (family_of native) listed) es) archs_same ∙ ap (rules_of (in_order (family_of native) m.archs)) entries_same in
      let kept_same : kept ≡ p.rules = one_kept_of said m.said kept p.rules keeps m.kept
      (rules_same said m.said (is ∙ rules_are ∙ sym said_is)) in
      let as_many : length kept ≡ length p.rules = ap length kept_same in
      let few = m.few in
      omega (arith, as_many, few, long)
  list_unbroken _ (overlapping machines ds i j d e x y name lists at lt at_i at_j is_x is_y clash) =
      let archs_same : machines ≡ m.archs = one_archs s native machines m.archs lists m.lists_archs in
      let there : ClashUnder (in_order (family_of native) m.archs) x y name = subst (λ listed. ClashUnder (in_order (family_of native) listed) x y name) archs_same clash in
      clash_unbroken x y name (among ds i d x at at_i is_x) (among ds j e y at at_j is_y) there

  entries_unbroken : (f : Fault) → EntriesBreak s native f → ⊥
  entries_unbroken f (in_list _ h) = list_unbroken f h
  entries_unbroken f (in_entry ds d _ at in_ds bad) =
      let means = m.entries_are in
      let same : ds ≡ means.values = one_values s ds means.values at means.values_are in
      let e = related (EntryMeans (family_of native)) means.values m.entries d means.each (subst (λ xs. Contains xs d) same in_ds) in
      entry_unbroken (family_of native) d e.0 f e.1 bad

-- ---- the whole

seccomp_unbroken : (t : Data) (native : Arch) (p : Policy) (f : Fault) (m : Means t native p) → SeccompBreaks m.seccomp native f → ⊥
seccomp_unbroken t native p f m (default_word _ bad) =
    verdict_unbroken (family_of native) key.default_action key.default_errno_ret m.seccomp p.default_word f m.default_is bad
seccomp_unbroken t native p f m (keys _ bad) = keys_unbroken (family_of native) m.seccomp f m.calls.keys bad
seccomp_unbroken t native p f m (archs _ bad) =
    archs_unbroken m.seccomp native m.calls.archs f m.calls.lists_archs m.calls.native_listed bad
seccomp_unbroken t native p f m (entries _ bad) = entries_unbroken m.seccomp native p m.calls f bad

value_unbroken : (t : Data) (native : Arch) (p : Policy) (f : Fault) → Means t native p → ValueBreaks t native f → ⊥
value_unbroken t native p f m (root _ bad) = root_unbroken (family_of native) t m.seccomp f m.root bad
value_unbroken t native p f m (seccomp s _ is bad) =
    seccomp_unbroken t native p f m (subst (λ d. SeccompBreaks d native f) (one_seccomp t s m.seccomp is m.root.seccomp) bad)

pub meaning_is_unbroken : MeaningIsUnbroken
meaning_is_unbroken bytes t native p _ is m (no_value unread) = none_some (read bytes) t (unread is.0) is.1
meaning_is_unbroken bytes t native p f is m (in_value u _ is_u bad) =
    value_unbroken t native p f m (subst (λ d. ValueBreaks d native f) (same_Some u t (sym is_u.1 ∙ is.1)) bad)

-- ---- one meaning

one_policy : (s : Data) (native : Arch) (p q : Policy) → p.default_word ≡ q.default_word → CallsMean s native p → CallsMean s native q
    → p ≡ q
one_policy s native p q words m n =
    let archs : m.archs ≡ n.archs = one_archs s native m.archs n.archs m.lists_archs n.lists_archs in
    let machines : p.machines ≡ q.machines = m.machines_are ∙ ap (in_order (family_of native)) archs ∙ sym n.machines_are in
    let entries : m.entries ≡ n.entries = one_entries (family_of native) s m.entries n.entries m.entries_are n.entries_are in
    let parts : map rule_parts m.said ≡ map rule_parts n.said = m.said_is ∙ ap (λ ms. rules_of ms m.entries) machines
    ∙ ap (rules_of q.machines) entries ∙ sym n.said_is in
    let rules : p.rules ≡ q.rules = one_kept_of m.said n.said p.rules q.rules m.kept n.kept (rules_same m.said n.said parts) in
    same_policy p q (m.native_is ∙ sym n.native_is) machines words rules

pub meaning_is_one : MeaningIsOne
meaning_is_one t native p q m n =
    let same : m.seccomp ≡ n.seccomp = one_seccomp t m.seccomp n.seccomp m.root.seccomp n.root.seccomp in
    let word : VerdictMeans (family_of native) key.default_action key.default_errno_ret n.seccomp p.default_word =
    subst (λ d. VerdictMeans (family_of native) key.default_action key.default_errno_ret d p.default_word) same m.default_is in
    let words = one_verdict (family_of native) key.default_action key.default_errno_ret n.seccomp p.default_word q.default_word word n.default_is in
    one_policy n.seccomp native p q words (subst (λ d. CallsMean d native p) same m.calls) n.calls

-- ---- what was meant before

pub meaning_is_kept : MeaningIsKept
meaning_is_kept t native p m =
    record {
      seccomp = m.seccomp;
      root = record {
        root = m.root;
        version = codes "1.0.2";
        version_is = m.version_is;
        edition = first_edition (family_of native);
        seccomp = m.seccomp_is;
      };
      default_is = record { action = m.action; action_is = m.action_is; errno = 1; errno_is = none m.no_errno; verdict_is = m.default_is };
      calls = m.calls;
    }

pub meaning_is_widened : MeaningIsWidened
meaning_is_widened = record { roots = root_widened; verdicts = verdict_widened; keys = keys_widened }
