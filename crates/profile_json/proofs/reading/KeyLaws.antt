-- Flags and the listener: what reading gives is meant, and what it refuses is broken.
use Rattle.std.proofs.Common.{◌≡◌, ◌≢◌, ℕ, List, [], ◌∷◌, Bool, cond, Result, Ok, Err, Some, None, true, false, inl, inr, refl, sym, ◌∙◌}
use Rattle.std.proofs.Common.{ap, subst}
use Rattle.std.specs.List.{All, Contains, list_any}
use Rattle.std.specs.Str.{bytes_eq}
use Rattle.std.proofs.lemmas.List.Elements.{All-nil, All-cons, All-contains}
use Rattle.std.proofs.lemmas.Option.{same_Some}
use Rattle.serde_json.specs.Data.{Data}
use Rattle.machines.specs.declared.arch.Family.{Family}
use Rattle.machines.specs.declared.arch.Family.TheVariants.{Chosen, Whole}
use Rattle.profile_json.specs.Keys as key
use Rattle.profile_json.specs.Fault.{Fault, wrong_type, unsupported_key}
use Rattle.profile_json.specs.Lookup.{Member, member, or_default, text, list}
use Rattle.profile_json.specs.Names.{filter_flags}
use Rattle.profile_json.specs.inner.Outcome.{◌>>=◌}
use Rattle.profile_json.specs.inner.Reading.{typed, empty, is_empty, unused_of, flag_of, flags_in, flags_of, metadata_for, listener_of}
use Rattle.profile_json.specs.inner.Reading.{named_of, keys_of}
use Rattle.profile_json.specs.Meaning.{UsesNone, NamesFlag, NamesListener, KeysMean}
use Rattle.profile_json.specs.Breaks.{EmptyBreaks, is_other, not_empty, UseBreaks, flags, path, metadata, ListenerBreaks, flags_other}
use Rattle.profile_json.specs.Breaks.{flag_other, no_flag, path_other, metadata_other, no_listener, KeysBreak}
use Rattle.profile_json.proofs.Lists.{contains_head, contains_tail, named, named_back}
use Rattle.profile_json.proofs.reading.Steps.{bind_ok, bind_err, ok_or_ok, ok_or_err, cond_ok, cond_err, is_nil, none_some, not_ok}
use Rattle.profile_json.proofs.reading.Steps.{true_false}

-- ---- keys of which none is used

not_nil : {A : Type 0} (xs : List A) → is_empty xs ≡ false → xs ≢ []
not_nil [] h = λ same. (let both : true ≡ false = h in cc)
not_nil (x ∷ xs) h = λ (same : x ∷ xs ≡ []). cc

empty_ok : {A : Type 0} (m : Member (List A)) (u : Unit {0}) → empty m ≡ Ok u → or_default [] m ≡ Some []
empty_ok {A} m u h =
    let step = bind_ok (typed (or_default [] m)) (λ (xs : List A). cond (is_empty xs) (Ok tt) (Err unsupported_key)) u h in
    let same = cond_ok (is_empty step.0) unsupported_key tt u step.2 in
    ok_or_ok (or_default [] m) wrong_type step.0 step.1 ∙ ap Some (is_nil step.0 same.0)

empty_err : {A : Type 0} (m : Member (List A)) (e : Fault) → empty m ≡ Err e → EmptyBreaks m e
empty_err {A} m e h =
    elim (bind_err (typed (or_default [] m)) (λ (xs : List A). cond (is_empty xs) (Ok tt) (Err unsupported_key)) e h) [
      | inl bad ↦ (let at = ok_or_err (or_default [] m) wrong_type e bad in subst (EmptyBreaks m) at.1 (is_other at.0))
      | inr step ↦
          let at = cond_err (is_empty step.0) unsupported_key e tt step.2 in
          subst (EmptyBreaks m) at.1 (not_empty step.0 (ok_or_ok (or_default [] m) wrong_type step.0 step.1) (not_nil step.0 at.0))
    ]

empty_unbroken : {A : Type 0} (m : Member (List A)) (f : Fault) → or_default [] m ≡ Some [] → EmptyBreaks m f → ⊥
empty_unbroken m _ is (is_other e) = none_some (or_default [] m) [] e is
empty_unbroken m _ is (not_empty xs e ne) = ne (same_Some xs [] (sym e ∙ is))

unused_means : (s : Data) (u : Unit {0}) → unused_of s ≡ Ok u → UsesNone s
unfolding unused_of
unused_means s u h =
    let b = bind_ok (empty (member list key.flags s))
    (λ b. empty (member text key.listener_path s) >>= (λ c. empty (member text key.listener_metadata s))) u h in
    let c = bind_ok (empty (member text key.listener_path s)) (λ c. empty (member text key.listener_metadata s)) u b.2 in
    record {
      no_flags = empty_ok (member list key.flags s) b.0 b.1;
      no_path = empty_ok (member text key.listener_path s) c.0 c.1;
      no_metadata = empty_ok (member text key.listener_metadata s) u c.2;
    }

use_breaks : (s : Data) (f : Fault) → unused_of s ≡ Err f → UseBreaks s f
unfolding unused_of
use_breaks s f h =
    elim (bind_err (empty (member list key.flags s))
    (λ b. empty (member text key.listener_path s) >>= (λ c. empty (member text key.listener_metadata s))) f h) [
      | inl bad ↦ flags f (empty_err (member list key.flags s) f bad)
      | inr b ↦ elim (bind_err (empty (member text key.listener_path s)) (λ c. empty (member text key.listener_metadata s)) f b.2) [
        | inl bad ↦ path f (empty_err (member text key.listener_path s) f bad)
        | inr c ↦ metadata f (empty_err (member text key.listener_metadata s) f c.2)
      ]
    ]

unused_unbroken : (s : Data) (f : Fault) → UsesNone s → UseBreaks s f → ⊥
unused_unbroken s f m (flags _ e) = empty_unbroken (member list key.flags s) f m.no_flags e
unused_unbroken s f m (path _ e) = empty_unbroken (member text key.listener_path s) f m.no_path e
unused_unbroken s f m (metadata _ e) = empty_unbroken (member text key.listener_metadata s) f m.no_metadata e

-- ---- flags

flag_ok : (d : Data) (u : Unit {0}) → flag_of d ≡ Ok u → NamesFlag d
unfolding flag_of
flag_ok d u h =
    let step = bind_ok (typed (text d)) (λ name. cond (list_any (λ f. bytes_eq f name) filter_flags) (Ok tt) (Err unsupported_key)) u h in
    let found = cond_ok (list_any (λ f. bytes_eq f step.0) filter_flags) unsupported_key tt u step.2 in
    (step.0, ok_or_ok (text d) wrong_type step.0 step.1, named filter_flags step.0 found.0)

-- a value that names no flag
data FlagBreaks (d : Data) : Fault → Type 0 where
  has_no_text : text d ≡ None → FlagBreaks d wrong_type
  is_unknown : (name : List ℕ) → text d ≡ Some name → ¬ Contains filter_flags name → FlagBreaks d unsupported_key

flag_err : (d : Data) (f : Fault) → flag_of d ≡ Err f → FlagBreaks d f
unfolding flag_of
flag_err d f h =
    elim (bind_err (typed (text d)) (λ name. cond (list_any (λ f. bytes_eq f name) filter_flags) (Ok tt) (Err unsupported_key)) f h) [
      | inl bad ↦ (let at = ok_or_err (text d) wrong_type f bad in subst (FlagBreaks d) at.1 (has_no_text at.0))
      | inr step ↦
          let other = cond_err (list_any (λ f. bytes_eq f step.0) filter_flags) unsupported_key f tt step.2 in
          let unread : ¬ Contains filter_flags step.0 =
          λ has. true_false (list_any (λ f. bytes_eq f step.0) filter_flags) (named_back filter_flags step.0 has) other.0 in
          subst (FlagBreaks d) other.1 (is_unknown step.0 (ok_or_ok (text d) wrong_type step.0 step.1) unread)
    ]

flags_ok : (ds : List Data) (u : Unit {0}) → flags_in ds ≡ Ok u → All NamesFlag ds
flags_ok [] u h = All-nil NamesFlag
flags_ok (d ∷ ds) u h =
    let step = bind_ok (flag_of d) (λ v. flags_in ds) u h in
    All-cons NamesFlag d ds (flag_ok d step.0 step.1) (flags_ok ds u step.2)

flags_err : (ds : List Data) (f : Fault) → flags_in ds ≡ Err f → (d : Data) × Contains ds d × FlagBreaks d f
flags_err [] f h = absurd (not_ok tt f h)
flags_err (d ∷ ds) f h =
    elim (bind_err (flag_of d) (λ v. flags_in ds) f h) [
      | inl bad ↦ (d, contains_head d ds, flag_err d f bad)
      | inr step ↦ (let at = flags_err ds f step.2 in (at.0, contains_tail d ds at.0 at.1, at.2))
    ]

flags_refused : (s : Data) (ds : List Data) (d : Data) (f : Fault) → or_default [] (member list key.flags s) ≡ Some ds → Contains ds d
    → FlagBreaks d f → ListenerBreaks s f
flags_refused s ds d _ at in_ds (has_no_text e) = flag_other ds d at in_ds e
flags_refused s ds d _ at in_ds (is_unknown name e lost) = no_flag ds d name at in_ds e lost

record AreFlags (s : Data) : Type 0 where
  named : List Data
  flags_are : or_default [] (member list key.flags s) ≡ Some named
  each : All NamesFlag named

flags_mean : (s : Data) (u : Unit {0}) → flags_of s ≡ Ok u → AreFlags s
unfolding flags_of
flags_mean s u h =
    let step = bind_ok (typed (or_default [] (member list key.flags s))) flags_in u h in
    record {
      named = step.0;
      flags_are = ok_or_ok (or_default [] (member list key.flags s)) wrong_type step.0 step.1;
      each = flags_ok step.0 u step.2;
    }

flags_break : (s : Data) (f : Fault) → flags_of s ≡ Err f → ListenerBreaks s f
unfolding flags_of
flags_break s f h =
    elim (bind_err (typed (or_default [] (member list key.flags s))) flags_in f h) [
      | inl bad ↦ (let at = ok_or_err (or_default [] (member list key.flags s)) wrong_type f bad in subst (ListenerBreaks s) at.1
          (flags_other at.0))
      | inr step ↦
          let bad = flags_err step.0 f step.2 in
          flags_refused s step.0 bad.0 f (ok_or_ok (or_default [] (member list key.flags s)) wrong_type step.0 step.1) bad.1 bad.2
    ]

-- ---- the listener

for_path : (p m : List ℕ) (u : Unit {0}) → metadata_for p m ≡ Ok u → p ≡ [] → m ≡ []
for_path [] m u h same = is_nil m (cond_ok (is_empty m) unsupported_key tt u h).0
for_path (x ∷ p) m u h same = cc

refused_so : (b : Bool) (r : Result (Unit {0}) Fault) (f : Fault) → cond b r (Ok tt) ≡ Err f → (b ≡ true) × (r ≡ Err f)
refused_so true r f h = (refl, h)
refused_so false r f h = absurd (not_ok tt f h)

without_path : (p m : List ℕ) (f : Fault) → metadata_for p m ≡ Err f → (p ≡ []) × (m ≢ []) × (unsupported_key ≡ f)
without_path p m f h =
    let at = refused_so (is_empty p) (cond (is_empty m) (Ok tt) (Err unsupported_key)) f h in
    let bad = cond_err (is_empty m) unsupported_key f tt at.1 in
    (is_nil p at.0, not_nil m bad.0, bad.1)

-- what is read after the path
after_path : Data → List ℕ → Result (Unit {0}) Fault
after_path s p = typed (or_default [] (member text key.listener_metadata s)) >>= metadata_for p

record IsListener (s : Data) : Type 0 where
  path : List ℕ
  path_is : or_default [] (member text key.listener_path s) ≡ Some path
  metadata : List ℕ
  metadata_is : or_default [] (member text key.listener_metadata s) ≡ Some metadata
  for_listener : path ≡ [] → metadata ≡ []

listener_means : (s : Data) (u : Unit {0}) → listener_of s ≡ Ok u → IsListener s
unfolding listener_of after_path
listener_means s u h =
    let p = bind_ok (typed (or_default [] (member text key.listener_path s))) (after_path s) u h in
    let m = bind_ok (typed (or_default [] (member text key.listener_metadata s))) (metadata_for p.0) u p.2 in
    record {
      path = p.0;
      path_is = ok_or_ok (or_default [] (member text key.listener_path s)) wrong_type p.0 p.1;
      metadata = m.0;
      metadata_is = ok_or_ok (or_default [] (member text key.listener_metadata s)) wrong_type m.0 m.1;
      for_listener = for_path p.0 m.0 u m.2;
    }

listener_breaks : (s : Data) (f : Fault) → listener_of s ≡ Err f → ListenerBreaks s f
unfolding listener_of after_path
listener_breaks s f h =
    let path_member = or_default [] (member text key.listener_path s) in
    let metadata_member = or_default [] (member text key.listener_metadata s) in
    elim (bind_err (typed path_member) (after_path s) f h) [
      | inl bad ↦ (let at = ok_or_err path_member wrong_type f bad in subst (ListenerBreaks s) at.1 (path_other at.0))
      | inr p ↦ elim (bind_err (typed metadata_member) (metadata_for p.0) f p.2) [
        | inl bad ↦ (let at = ok_or_err metadata_member wrong_type f bad in subst (ListenerBreaks s) at.1 (metadata_other at.0))
        | inr m ↦
            let at = without_path p.0 m.0 f m.2 in
            subst (ListenerBreaks s) at.2
            (no_listener m.0 (ok_or_ok path_member wrong_type p.0 p.1 ∙ ap Some at.0) (ok_or_ok metadata_member wrong_type m.0 m.1) at.1)
      ]
    ]

named_means : (s : Data) (u : Unit {0}) → named_of s ≡ Ok u → NamesListener s
unfolding named_of
named_means s u h =
    let b = bind_ok (flags_of s) (λ b. listener_of s) u h in
    let are = flags_mean s b.0 b.1 in
    let is = listener_means s u b.2 in
    record {
      flags = are.named;
      flags_are = are.flags_are;
      named = are.each;
      path = is.path;
      path_is = is.path_is;
      metadata = is.metadata;
      metadata_is = is.metadata_is;
      for_listener = is.for_listener;
    }

named_breaks : (s : Data) (f : Fault) → named_of s ≡ Err f → ListenerBreaks s f
unfolding named_of
named_breaks s f h =
    elim (bind_err (flags_of s) (λ b. listener_of s) f h) [
      | inl bad ↦ flags_break s f bad
      | inr b ↦ listener_breaks s f b.2
    ]

-- a value of the list names a flag
flag_in : (s : Data) (m : NamesListener s) (ds : List Data) (d : Data) → or_default [] (member list key.flags s) ≡ Some ds → Contains ds d
    → NamesFlag d
flag_in s m ds d at in_ds =
    let same : ds ≡ m.flags = same_Some ds m.flags (sym at ∙ m.flags_are) in
    All-contains NamesFlag m.flags d m.named (subst (λ (xs : List Data). Contains xs d) same in_ds)

named_unbroken : (s : Data) (f : Fault) → NamesListener s → ListenerBreaks s f → ⊥
named_unbroken s _ m (flags_other e) = none_some (or_default [] (member list key.flags s)) m.flags e m.flags_are
named_unbroken s _ m (flag_other ds d at in_ds e) = let is = flag_in s m ds d at in_ds in none_some (text d) is.0 e is.1
named_unbroken s _ m (no_flag ds d name at in_ds e lost) =
    let is = flag_in s m ds d at in_ds in
    lost (subst (Contains filter_flags) (same_Some is.0 name (sym is.1 ∙ e)) is.2)
named_unbroken s _ m (path_other e) = none_some (or_default [] (member text key.listener_path s)) m.path e m.path_is
named_unbroken s _ m (metadata_other e) = none_some (or_default [] (member text key.listener_metadata s)) m.metadata e m.metadata_is
named_unbroken s _ m (no_listener given p is some) =
    let no_path : m.path ≡ [] = same_Some m.path [] (sym m.path_is ∙ p) in
    let same : given ≡ m.metadata = same_Some given m.metadata (sym is ∙ m.metadata_is) in
    some (same ∙ m.for_listener no_path)

-- ---- of each family

pub keys_mean : (family : Family) (s : Data) (u : Unit {0}) → keys_of family s ≡ Ok u → KeysMean family s
keys_mean Chosen s u h = unused_means s u h
keys_mean Whole s u h = named_means s u h

pub keys_break : (family : Family) (s : Data) (f : Fault) → keys_of family s ≡ Err f → KeysBreak family s f
keys_break Chosen s f h = use_breaks s f h
keys_break Whole s f h = named_breaks s f h

pub keys_unbroken : (family : Family) (s : Data) (f : Fault) → KeysMean family s → KeysBreak family s f → ⊥
keys_unbroken Chosen s f m bad = unused_unbroken s f m bad
keys_unbroken Whole s f m bad = named_unbroken s f m bad

-- keys of which none is used
pub keys_widened : (s : Data) → UsesNone s → NamesListener s
keys_widened s m =
    record {
      flags = [];
      flags_are = m.no_flags;
      named = All-nil NamesFlag;
      path = [];
      path_is = m.no_path;
      metadata = [];
      metadata_is = m.no_metadata;
      for_listener = λ same. refl;
    }
