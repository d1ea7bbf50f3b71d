-- Faults, each at the place at which it was told.
use Rattle.std.proofs.Common.{◌≡◌, ℕ, ◌<◌, List, [], length, map, Result, Ok, Err, Option, Some, None, IsSomeAnd, IfSome, IfErr}
use Rattle.std.proofs.Common.{sym, ◌∙◌, ap, subst}
use Rattle.std.specs.List.{slice_get}
use Rattle.std.proofs.lemmas.List.{length-map}
use Rattle.serde_json.specs.declared.value.Value.{Value}
use Rattle.serde_json.specs.Data.{Data}
use Rattle.serde_json.specs.View.{view}
use Rattle.machines.specs.declared.arch.Arch.{Arch}
use Rattle.machines.specs.declared.arch.Family.{Family}
use Rattle.machines.specs.Arch.{family_of}
use Rattle.profile_json.specs.declared.refusal.Part.{Part}
use Rattle.profile_json.specs.declared.refusal.Place.{Place}
use Rattle.profile_json.specs.declared.refusal.Place.TheVariants as place
use Rattle.profile_json.specs.declared.refusal.Refusal.{Refusal}
use Rattle.profile_json.specs.Keys as key
use Rattle.profile_json.specs.Fault.{Fault, fault_of, wrong_type, too_many}
use Rattle.profile_json.specs.Lookup.{member, or_default, list}
use Rattle.profile_json.specs.Names.{most_entries}
use Rattle.profile_json.specs.Meaning.{IsText, RootMeans}
use Rattle.profile_json.specs.inner.Making.{IsNotMade}
use Rattle.profile_json.specs.inner.Reading.{Said, typed, root_of, default_of, keys_of, archs_of}
use Rattle.profile_json.specs.Breaks.{ListBreaks}
use Rattle.profile_json.specs.Breaks as broken
use Rattle.profile_json.specs.Place.{EntryBreaksAt, AnEntryBreaksAt, SeccompBreaksAt, BreaksAt}
use Rattle.profile_json.proofs.reading.Steps.{ok_or_ok, ok_or_err}
use Rattle.profile_json.proofs.reading.RootLaws.{root_breaks}
use Rattle.profile_json.proofs.reading.KeyLaws.{keys_break}
use Rattle.profile_json.proofs.reading.ArchLaws.{archs_refused}
use Rattle.profile_json.proofs.reading.BundleLaws.{SaidMeans, default_breaks, not_made_at}

-- ---- entries

pub one_of_them : (family : Family) (ds : List Data) (i : ℕ) (d : Data) (p : Part) (o : Option Fault) → slice_get ds i ≡ Some d
    → IfSome o (EntryBreaksAt family d p) → IfSome o (AnEntryBreaksAt family ds (place.Entry i p))
one_of_them family ds i d p None at h = tt
one_of_them family ds i d p (Some f) at h = (d, at, h)

module _ (s : Data) (native : Arch) where
  pub no_list_at : (o : Option Fault) → IsSomeAnd o (λ f. typed (or_default [] (member list key.syscalls s)) ≡ Err f)
      → IfSome o (SeccompBreaksAt s native place.Entries)
  no_list_at None h = absurd h
  no_list_at (Some f) h =
      let at = ok_or_err (or_default [] (member list key.syscalls s)) wrong_type f h in
      subst (ListBreaks s native) at.1 (broken.ListBreaks.no_list at.0)

  pub many_at : (family : Family) (values : List Value) (m : ℕ) → family ≡ family_of native → m ≡ most_entries family → m < length values
      → typed (or_default [] (member list key.syscalls s)) ≡ Ok (map view values) → ListBreaks s native too_many
  many_at family values m e is lt given =
      let large : m < length (map view values) = subst (λ (k : ℕ). m < k) (sym (length-map values view)) lt in
      broken.ListBreaks.many (map view values) (ok_or_ok (or_default [] (member list key.syscalls s)) wrong_type (map view values) given)
      (subst (λ (k : ℕ). k < length (map view values)) (is ∙ ap most_entries e) large)

  module _ (ds : List Data) (are : or_default [] (member list key.syscalls s) ≡ Some ds) where
    entry_in : (p : Place) (f : Fault) → AnEntryBreaksAt (family_of native) ds p f → SeccompBreaksAt s native p f
    entry_in place.Text f h = absurd h
    entry_in place.Root f h = absurd h
    entry_in place.Default f h = absurd h
    entry_in place.Keys f h = absurd h
    entry_in place.Machines f h = absurd h
    entry_in place.Entries f h = absurd h
    entry_in (place.Entry i p) f h = (ds, are, h)

    entry_told : (family : Family) (p : Place) (o : Option Fault) → family ≡ family_of native → IfSome o (AnEntryBreaksAt family ds p)
        → IfSome o (SeccompBreaksAt s native p)
    entry_told family p None e h = tt
    entry_told family p (Some f) e h = entry_in p f (subst (λ (x : Family). AnEntryBreaksAt x ds p f) e h)

  pub entries_told : {X : Type 0} (family : Family) (values : List Value) (r : Result X Refusal) → family ≡ family_of native
      → typed (or_default [] (member list key.syscalls s)) ≡ Ok (map view values)
      → IfErr r (λ x. IfSome (fault_of x.error) (AnEntryBreaksAt family (map view values) x.place))
      → IfErr r (λ x. IfSome (fault_of x.error) (SeccompBreaksAt s native x.place))
  entries_told family values (Ok x) e given h = tt
  entries_told family values (Err x) e given h =
      entry_told (map view values) (ok_or_ok (or_default [] (member list key.syscalls s)) wrong_type (map view values) given) family x.place
      (fault_of x.error) e h

  -- ---- the object under linux.seccomp

  pub default_at : (family : Family) (o : Option Fault) → family ≡ family_of native → IsSomeAnd o (λ f. default_of family s ≡ Err f)
      → IfSome o (SeccompBreaksAt s native place.Default)
  default_at family None e h = absurd h
  default_at family (Some f) e h = default_breaks (family_of native) s f (ap (λ (x : Family). default_of x s) (sym e) ∙ h)

  pub keys_at : (family : Family) (o : Option Fault) → family ≡ family_of native → IsSomeAnd o (λ f. keys_of family s ≡ Err f)
      → IfSome o (SeccompBreaksAt s native place.Keys)
  keys_at family None e h = absurd h
  keys_at family (Some f) e h = keys_break (family_of native) s f (ap (λ (x : Family). keys_of x s) (sym e) ∙ h)

  pub archs_at : (o : Option Fault) → IfSome o (λ f. archs_of native s ≡ Err f) → IfSome o (SeccompBreaksAt s native place.Machines)
  archs_at None h = tt
  archs_at (Some f) h = archs_refused s native f h

-- ---- the bytes

module _ (bytes : List ℕ) (native : Arch) (t : Data) (text : IsText bytes t) where
  pub root_at : (o : Option Fault) → IsSomeAnd o (λ f. root_of (family_of native) t ≡ Err f) → IfSome o (BreaksAt bytes native place.Root)
  root_at None h = absurd h
  root_at (Some f) h = (t, text, root_breaks (family_of native) t f h)

  module _ (s : Data) (root : RootMeans (family_of native) t s) where
    under : (p : Place) (f : Fault) → SeccompBreaksAt s native p f → BreaksAt bytes native p f
    under place.Text f h = absurd h
    under place.Root f h = absurd h
    under place.Default f h = (t, s, text, root.seccomp, h)
    under place.Keys f h = (t, s, text, root.seccomp, h)
    under place.Machines f h = (t, s, text, root.seccomp, h)
    under place.Entries f h = (t, s, text, root.seccomp, h)
    under (place.Entry i p) f h = (t, s, text, root.seccomp, h)

    pub said_at : (p : Place) (o : Option Fault) → IfSome o (SeccompBreaksAt s native p) → IfSome o (BreaksAt bytes native p)
    said_at p None h = tt
    said_at p (Some f) h = under p f h

    pub made_at : (x : Said) (o : Option Fault) → SaidMeans s native x → IfSome o (IsNotMade x native)
        → IfSome o (BreaksAt bytes native place.Entries)
    made_at x None said h = tt
    made_at x (Some f) said h = (t, s, text, root.seccomp, not_made_at s native x f said h)
