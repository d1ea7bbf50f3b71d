-- A fault that stands at a place stands in the text.
use Rattle.std.proofs.Common.{◌≡◌, ◌⊎◌, inl, inr, ℕ, List, [], Option, Some, None, IfSome, sym, subst}
use Rattle.std.specs.List.{slice_get}
use Rattle.serde_json.specs.Data.{Data}
use Rattle.machines.specs.declared.arch.Arch.{Arch}
use Rattle.machines.specs.declared.arch.Family.{Family}
use Rattle.machines.specs.Arch.{family_of}
use Rattle.profile_json.specs.declared.refusal.Part.{Part}
use Rattle.profile_json.specs.declared.refusal.Part.TheVariants as part
use Rattle.profile_json.specs.declared.refusal.Place.{Place}
use Rattle.profile_json.specs.declared.refusal.Place.TheVariants as place
use Rattle.profile_json.specs.Fault.{Fault, repeated_index}
use Rattle.profile_json.specs.Keys as key
use Rattle.profile_json.specs.Lookup.{member, or_default, list}
use Rattle.profile_json.specs.Breaks.{Breaks, SeccompBreaks, EntryBreaks, ArgBreaks, ArgsBreak}
use Rattle.profile_json.specs.Meaning.{IsText, IsSeccomp}
use Rattle.profile_json.specs.Breaks as broken
use Rattle.profile_json.specs.Place.{RepeatsIndex, EntryBreaksAt, SeccompBreaksAt, BreaksAt}
use Rattle.profile_json.proofs.Lists.{contains_at}

arg_is : (d : Data) (ds : List Data) (i : ℕ) (x : Data) (f : Fault) → or_default [] (member list key.args d) ≡ Some ds
    → slice_get ds i ≡ Some x → ArgBreaks x f ⊎ ((f ≡ repeated_index) × RepeatsIndex ds i x) → ArgsBreak d f
arg_is d ds i x f are at (inl e) = broken.ArgsBreak.in_arg ds x f are (contains_at ds i x at) e
arg_is d ds i x f are at (inr (is, (n, is_x, (j, y, lt, at_y, is_y)))) =
    subst (ArgsBreak d) (sym is) (broken.ArgsBreak.twice ds j i y x n are lt at_y at is_y is_x)

entry_is : (family : Family) (d : Data) (p : Part) (f : Fault) → EntryBreaksAt family d p f → EntryBreaks family d f
entry_is family d part.Itself f h = subst (EntryBreaks family d) (sym h.1) (broken.EntryBreaks.no_object h.0)
entry_is family d part.Names f h = broken.EntryBreaks.names f h.0 (broken.NamesBreak.in_list f h.1)
entry_is family d (part.Name i) f (some, (ds, are, (x, at, e))) =
    broken.EntryBreaks.names f some (broken.NamesBreak.in_name ds x f are (contains_at ds i x at) e)
entry_is family d part.Verdict f h = broken.EntryBreaks.word f h.0 h.1
entry_is family d part.Args f h = broken.EntryBreaks.args f h.0 (subst (ArgsBreak d) (sym h.1.1) (broken.ArgsBreak.no_list h.1.0))
entry_is family d (part.Arg i) f (some, (ds, are, (x, at, e))) = broken.EntryBreaks.args f some (arg_is d ds i x f are at e)

seccomp_is : (s : Data) (native : Arch) (p : Place) (f : Fault) → SeccompBreaksAt s native p f → SeccompBreaks s native f
seccomp_is s native place.Text f h = absurd h
seccomp_is s native place.Root f h = absurd h
seccomp_is s native place.Default f h = broken.SeccompBreaks.default_word f h
seccomp_is s native place.Keys f h = broken.SeccompBreaks.keys f h
seccomp_is s native place.Machines f h = broken.SeccompBreaks.archs f h
seccomp_is s native place.Entries f h = broken.SeccompBreaks.entries f (broken.EntriesBreak.in_list f h)
seccomp_is s native (place.Entry i p) f (ds, are, (d, at, breaks)) =
    broken.SeccompBreaks.entries f (broken.EntriesBreak.in_entry ds d f are (contains_at ds i d at) (entry_is (family_of native) d p f breaks))

module _ (bytes : List ℕ) (native : Arch) where
  under : (p : Place) (f : Fault) (t s : Data) → IsText bytes t → IsSeccomp t s → SeccompBreaksAt s native p f → Breaks bytes native f
  under p f t s text at h = broken.in_value t f text (broken.ValueBreaks.seccomp s f at (seccomp_is s native p f h))

  pub stands : (p : Place) (f : Fault) → BreaksAt bytes native p f → Breaks bytes native f
  stands place.Text f h = subst (Breaks bytes native) (sym h.1) (broken.no_value h.0)
  stands place.Root f (t, text, h) = broken.in_value t f text (broken.ValueBreaks.root f h)
  stands place.Default f (t, s, text, at, h) = under place.Default f t s text at h
  stands place.Keys f (t, s, text, at, h) = under place.Keys f t s text at h
  stands place.Machines f (t, s, text, at, h) = under place.Machines f t s text at h
  stands place.Entries f (t, s, text, at, h) = under place.Entries f t s text at h
  stands (place.Entry i p) f (t, s, text, at, h) = under (place.Entry i p) f t s text at h

  pub told_stands : (p : Place) (o : Option Fault) → IfSome o (BreaksAt bytes native p) → IfSome o (Breaks bytes native)
  told_stands p None h = tt
  told_stands p (Some f) h = stands p f h
