-- Faults, each at the member of an entry at which it was told.
use Rattle.std.proofs.Common.{◌≡◌, ℕ, ◌<◌, List, [], length, map, get_or, Ok, Err, Option, Some, None, option_map, IsSome, IsSomeAnd, IfSome}
use Rattle.std.proofs.Common.{sym, ◌∙◌, ap, subst}
use Rattle.std.specs.List.{slice_get}
use Rattle.std.proofs.lemmas.List.{length-map}
use Rattle.std.proofs.lemmas.Option.{slice_get-map, slice_get-get_or}
use Rattle.serde_json.specs.declared.value.Value.{Value}
use Rattle.serde_json.specs.Data.{Data}
use Rattle.serde_json.specs.View.{view}
use Rattle.machines.specs.declared.arch.Family.{Family}
use Rattle.profile_json.specs.declared.refusal.Part.{Part}
use Rattle.profile_json.specs.declared.refusal.Part.TheVariants as part
use Rattle.profile_json.specs.Keys as key
use Rattle.profile_json.specs.Fault.{Fault, missing_key, empty_names, too_many}
use Rattle.profile_json.specs.Lookup.{holds, member, object, list}
use Rattle.profile_json.specs.Names.{most_names}
use Rattle.profile_json.specs.inner.Reading.{typed, needed, name_of, entry_verdict}
use Rattle.profile_json.specs.Breaks.{NamesListBreaks}
use Rattle.profile_json.specs.Breaks as broken
use Rattle.profile_json.specs.Place.{NameBreaksAt, MemberBreaksAt, EntryBreaksAt}
use Rattle.profile_json.proofs.reading.Steps.{object_is, object_not, needed_ok, needed_breaks}
use Rattle.profile_json.proofs.reading.EntryLaws.{name_err, entry_verdict_breaks}

pub itself_at : (family : Family) (d : Data) (o : Option Fault) → IsSomeAnd o (λ f. typed (object d) ≡ Err f)
    → IfSome o (EntryBreaksAt family d part.Itself)
itself_at family d None h = absurd h
itself_at family d (Some f) h = let at = object_not d f h in (at.0, sym at.1)

-- ---- the members of an entry

module _ (family : Family) (d x : Data) (is : typed (object d) ≡ Ok x) where
  moved : (p : Part) (f : Fault) → MemberBreaksAt family x p f → IsSome (object d) × MemberBreaksAt family d p f
  moved p f h = let o = object_is d x is in (o.0, subst (λ (y : Data). MemberBreaksAt family y p f) (sym o.1) h)

  at_member : (p : Part) (f : Fault) → MemberBreaksAt family x p f → EntryBreaksAt family d p f
  at_member part.Itself f h = absurd h
  at_member part.Names f h = moved part.Names f h
  at_member (part.Name i) f h = moved (part.Name i) f h
  at_member part.Verdict f h = moved part.Verdict f h
  at_member part.Args f h = moved part.Args f h
  at_member (part.Arg i) f h = moved (part.Arg i) f h

  pub member_at : (p : Part) (o : Option Fault) → IfSome o (MemberBreaksAt family x p) → IfSome o (EntryBreaksAt family d p)
  member_at p None h = tt
  member_at p (Some f) h = at_member p f h

  pub arg_member_at : (p : Part) (o : Option Fault) → IsSomeAnd o (MemberBreaksAt family x p) → IfSome o (EntryBreaksAt family d p)
  arg_member_at p None h = absurd h
  arg_member_at p (Some f) h = at_member p f h

  pub verdict_at : (o : Option Fault) → IsSomeAnd o (λ f. entry_verdict family x ≡ Err f) → IfSome o (EntryBreaksAt family d part.Verdict)
  verdict_at None h = absurd h
  verdict_at (Some f) h = at_member part.Verdict f (entry_verdict_breaks family x f h)

-- ---- names

module _ (family : Family) (d : Data) where
  pub no_names_at : (o : Option Fault) → IsSomeAnd o (λ f. needed missing_key (member list key.names d) ≡ Err f)
      → IfSome o (MemberBreaksAt family d part.Names)
  no_names_at None h = absurd h
  no_names_at (Some f) h = broken.NamesListBreaks.no_list f (needed_breaks (member list key.names d) f h)

  module _ (values : List Value) (given : needed missing_key (member list key.names d) ≡ Ok (map view values)) where
    are : member list key.names d ≡ holds (map view values)
    are = needed_ok missing_key (member list key.names d) (map view values) given

    pub none_at : values ≡ [] → NamesListBreaks family d empty_names
    none_at e = broken.NamesListBreaks.none (are ∙ ap (λ (vs : List Value). holds (map view vs)) e)

    pub many_names_at : (m : ℕ) → m ≡ most_names family → m < length values → NamesListBreaks family d too_many
    many_names_at m is lt =
        let large : m < length (map view values) = subst (λ (k : ℕ). m < k) (sym (length-map values view)) lt in
        broken.NamesListBreaks.many (map view values) are (subst (λ (k : ℕ). k < length (map view values)) is large)

pub name_at : (family : Family) (ds : List Data) (i : ℕ) (d : Data) (o : Option Fault) → slice_get ds i ≡ Some d
    → IsSomeAnd o (λ f. name_of family d ≡ Err f) → IfSome o (NameBreaksAt family ds i)
name_at family ds i d None at h = absurd h
name_at family ds i d (Some f) at h = (d, at, name_err family d f h)

-- the value at a place
pub value_at : (values : List Value) (i : ℕ) (v : Value) → i < length values → v ≡ get_or values i v
    → slice_get (map view values) i ≡ Some (view v)
value_at values i v lt is = slice_get-map view values i ∙ ap (option_map view) (slice_get-get_or values i v lt ∙ ap Some (sym is))
