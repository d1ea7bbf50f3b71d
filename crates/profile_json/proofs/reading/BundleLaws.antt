-- A bundle as a whole: what is read and made is meant, and what is refused is broken.
use Rattle.std.proofs.Common.{◌≡◌, ℕ, zero, suc, List, [], ◌∷◌, map, Result, Ok, Err, Option, Some, None, IfSome}
use Rattle.std.proofs.Common.{IsSomeAnd}
use Rattle.std.proofs.Common.{refl, sym, ◌∙◌, ap, subst}
use Rattle.std.specs.List.{AllZip, Contains, slice_get}
use Rattle.std.proofs.lemmas.List.Elements.{All-contains}
use Rattle.std.proofs.lemmas.Option.{same_Some}
use Rattle.serde_json.specs.Data.{Data}
use Rattle.machines.specs.declared.arch.Arch.{Arch}
use Rattle.machines.specs.declared.arch.Family.{Family}
use Rattle.machines.specs.Arch.{family_of}
use Rattle.profile.specs.declared.rules.Rule.{Rule}
use Rattle.profile.specs.Policy.{Policy}
use Rattle.profile.specs.Machines.{in_order}
use Rattle.profile.proofs.MachineLaws.{stays}
use Rattle.profile.proofs.OneBuilt.{one_order}
use Rattle.profile_json.specs.Keys as key
use Rattle.profile_json.specs.Fault.{Fault, overlap}
use Rattle.profile_json.specs.Parts.{EntryParts, rule_parts}
use Rattle.profile_json.specs.CallName.{short_name}
use Rattle.profile_json.specs.Rules.{rules_of, ends_after}
use Rattle.profile_json.specs.ByEntry.{AreRulesOf}
use Rattle.profile_json.specs.inner.Outcome.{◌>>=◌}
use Rattle.profile_json.specs.inner.Reading.{Said, default_of, keys_of, archs_of, entries_of, root_of, said_of}
use Rattle.profile_json.specs.Meaning.{IsText, RootMeans, VerdictMeans, KeysMean, ListsArchs, EntryMeans, EntriesMean, Means}
use Rattle.profile_json.specs.Breaks.{Breaks, VerdictBreaks, EntriesBreak, ListBreaks, SeccompBreaks, ValueBreaks}
use Rattle.profile_json.specs.Breaks as broken
use Rattle.profile_json.specs.inner.Making.{IsMade, IsNotMade, many, clash}
use Rattle.profile_json.proofs.reading.Steps.{bind_ok, ok_same}
use Rattle.profile_json.proofs.reading.RootLaws.{root_breaks}
use Rattle.profile_json.proofs.reading.ActionLaws.{verdict_means, verdict_breaks}
use Rattle.profile_json.proofs.reading.KeyLaws.{keys_mean}
use Rattle.profile_json.proofs.reading.ArchLaws.{lists_archs, listed_of_family}
use Rattle.profile_json.proofs.reading.EntryLaws.{entries_mean}

-- what is read of the object under linux.seccomp
pub record SaidMeans (s : Data) (native : Arch) (said : Said) : Type 0 where
  pub default_is : VerdictMeans (family_of native) key.default_action key.default_errno_ret s said.default_word
  pub keys : KeysMean (family_of native) s
  pub archs : ListsArchs s native said.archs
  pub native_listed : Contains said.archs native
  pub entries : EntriesMean (family_of native) s said.entries

default_means : (family : Family) (s : Data) (w : ℕ) → default_of family s ≡ Ok w → VerdictMeans family key.default_action key.default_errno_ret s w
unfolding default_of
default_means family s w h = verdict_means family key.default_action key.default_errno_ret s w h

pub default_breaks : (family : Family) (s : Data) (f : Fault) → default_of family s ≡ Err f → VerdictBreaks family key.default_action key.default_errno_ret s f
unfolding default_of
default_breaks family s f h = verdict_breaks family key.default_action key.default_errno_ret s f h

said : ℕ → List Arch → List EntryParts → Said
said word archs entries = record { default_word = word; archs = archs; entries = entries }

-- what is read after the machines, the keys of loading, and the default verdict
after_archs : Arch → Data → ℕ → List Arch → Result Said Fault
after_archs native s word archs = entries_of (family_of native) s >>= (λ entries. Ok (said word archs entries))

after_keys : Arch → Data → ℕ → Unit {0} → Result Said Fault
after_keys native s word r = archs_of native s >>= after_archs native s word

after_default : Arch → Data → ℕ → Result Said Fault
after_default native s word = keys_of (family_of native) s >>= after_keys native s word

pub said_means : (s : Data) (native : Arch) (x : Said) → said_of native s ≡ Ok x → SaidMeans s native x
unfolding said_of said after_default after_keys after_archs
said_means s native x h =
    let w = bind_ok (default_of (family_of native) s) (after_default native s) x h in
    let r = bind_ok (keys_of (family_of native) s) (after_keys native s w.0) x w.2 in
    let a = bind_ok (archs_of native s) (after_archs native s w.0) x r.2 in
    let e = bind_ok (entries_of (family_of native) s) (λ entries. Ok (said w.0 a.0 entries)) x a.2 in
    let archs = lists_archs s native a.0 a.1 in
    let means : SaidMeans s native (said w.0 a.0 e.0) = record {
      default_is = default_means (family_of native) s w.0 w.1;
      keys = keys_mean (family_of native) s r.0 r.1;
      archs = archs.0;
      native_listed = archs.1;
      entries = entries_mean (family_of native) s e.0 e.1;
    } in
    subst (SaidMeans s native) (ok_same (said w.0 a.0 e.0) x e.2) means

-- ---- the whole

-- the rules of what is read are those that the entries say
pub rules_are_of : (bytes : List ℕ) (t s : Data) (native : Arch) (x : Said) (rules : List Rule) (ends : List ℕ) → IsText bytes t
    → RootMeans (family_of native) t s → SaidMeans s native x
    → map rule_parts rules ≡ rules_of (in_order (family_of native) x.archs) x.entries
    → ends ≡ ends_after 0 (in_order (family_of native) x.archs) x.entries → AreRulesOf native bytes rules ends
rules_are_of bytes t s native x rules ends text root said rules_are ends_are = record {
  t = t;
  is_text = text;
  seccomp = s;
  root = root;
  archs = x.archs;
  lists_archs = said.archs;
  entries = x.entries;
  entries_are = said.entries;
  rules_are = rules_are;
  ends_are = ends_are;
}

pub bundle_means : (t s : Data) (native : Arch) (x : Said) (p : Policy) → RootMeans (family_of native) t s → SaidMeans s native x → IsMade x native p
    → Means t native p
bundle_means t s native x p root said made =
    let built = made.built in
    let listed : List Arch = in_order (family_of native) x.archs in
    let order = stays (family_of native) x.archs listed (listed_of_family s native x.archs said.archs) refl in
    let machines : p.machines ≡ listed =
    one_order p.machines listed built.is_profile.machines_in_order order built.machines_listed
    (λ a has. All-contains (Contains p.machines) listed a built.machines_all has) in
    record {
      seccomp = s;
      root = root;
      default_is = subst (VerdictMeans (family_of native) key.default_action key.default_errno_ret s) (sym built.default_is) said.default_is;
      calls = record {
        keys = said.keys;
        archs = x.archs;
        lists_archs = said.archs;
        native_is = built.native_is;
        native_listed = said.native_listed;
        machines_are = machines;
        entries = x.entries;
        entries_are = said.entries;
        said = made.rules;
        said_is = made.rules_are ∙ ap (λ ms. rules_of ms x.entries) (sym machines);
        kept = built.rules_kept;
        few = built.is_profile.few;
        clear = built.is_profile.clear;
      };
    }

entry_at : (family : Family) (ds : List Data) (es : List EntryParts) (i : ℕ) (e : EntryParts) → AllZip (EntryMeans family) ds es
    → slice_get es i ≡ Some e → (d : Data) × (slice_get ds i ≡ Some d) × EntryMeans family d e
entry_at family [] [] i e z h = cc
entry_at family [] (y ∷ ys) i e z h = absurd z
entry_at family (d ∷ ds) [] i e z h = absurd z
entry_at family (d ∷ ds) (y ∷ ys) zero e z h = (d, refl, subst (EntryMeans family d) (same_Some y e h) z.0)
entry_at family (d ∷ ds) (y ∷ ys) (suc i) e z h = entry_at family ds ys i e z.1 h

pub not_made_at : (s : Data) (native : Arch) (x : Said) (f : Fault) → SaidMeans s native x → IsNotMade x native f → ListBreaks s native f
not_made_at s native x _ said (many rules are more) =
    broken.ListBreaks.many_rules x.archs x.entries rules more.0 said.archs said.entries are more.1 more.2
not_made_at s native x f said (clash _ o) =
    let d = entry_at (family_of native) said.entries.values x.entries o.first o.x said.entries.each o.x_at in
    let e = entry_at (family_of native) said.entries.values x.entries o.second o.y said.entries.each o.y_at in
    let break : ListBreaks s native (overlap (short_name o.name) o.first o.second) =
    broken.ListBreaks.overlapping x.archs said.entries.values o.first o.second d.0 e.0 o.x o.y o.name said.archs
    said.entries.values_are o.in_order d.1 e.1 d.2 e.2 o.clash in
    subst (ListBreaks s native) (sym o.fault_is) break

-- what each refusal of the reader says of the bytes
pub root_fault : (bytes : List ℕ) (native : Arch) (t : Data) (o : Option Fault) → IsText bytes t → IsSomeAnd o (λ f. root_of (family_of native) t ≡ Err f)
    → IfSome o (Breaks bytes native)
root_fault bytes native t None text h = absurd h
root_fault bytes native t (Some f) text h = broken.in_value t f text (broken.ValueBreaks.root f (root_breaks (family_of native) t f h))
