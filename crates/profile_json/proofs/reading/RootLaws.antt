-- The root: what reading gives is meant, and what it refuses is broken.
use Rattle.std.proofs.Common.{◌≡◌, ℕ, List, [], ◌∷◌, cond, Ok, Err, IsSome, inl, inr, sym, ◌∙◌, ap, subst}
use Rattle.std.specs.Prelude.{codes}
use Rattle.std.specs.List.{Contains, list_any}
use Rattle.std.specs.Str.{bytes_eq}
use Rattle.std.proofs.lemmas.List.Elements.{Contains-append_left}
use Rattle.serde_json.specs.Data.{Data}
use Rattle.machines.specs.declared.arch.Family.{Family}
use Rattle.machines.specs.declared.arch.Family.TheVariants.{Chosen, Whole}
use Rattle.profile_json.specs.Keys as key
use Rattle.profile_json.specs.Fault.{Fault, version, no_seccomp, missing_key}
use Rattle.profile_json.specs.Names.{editions}
use Rattle.profile_json.specs.Lookup.{missing, other_type, holds, member, object, text}
use Rattle.profile_json.specs.inner.Outcome.{◌>>=◌}
use Rattle.profile_json.specs.inner.Reading.{typed, needed, version_of, seccomp_of, root_of}
use Rattle.profile_json.specs.Meaning.{IsSeccomp, RootMeans}
use Rattle.profile_json.specs.Breaks.{RootBreaks, no_object, version_text, version_other, linux_missing, linux_other, seccomp_missing}
use Rattle.profile_json.specs.Breaks.{seccomp_other}
use Rattle.profile_json.proofs.Lists.{contains_head, named, named_back}
use Rattle.profile_json.proofs.reading.Steps.{bind_ok, bind_err, cond_ok, cond_err, needed_ok, needed_err, needed_breaks, needed_unbroken}
use Rattle.profile_json.proofs.reading.Steps.{object_is, object_not, is_some_not_none, holds_same, true_false}

record IsVersion (family : Family) (t : Data) : Type 0 where
  version : List ℕ
  version_is : member text key.oci_version t ≡ holds version
  edition : Contains (editions family) version

version_ok : (family : Family) (t : Data) (u : Unit {0}) → version_of family t ≡ Ok u → IsVersion family t
unfolding version_of
version_ok family t u h =
    let m = member text key.oci_version t in
    let step = bind_ok (needed missing_key m) (λ v. cond (list_any (λ e. bytes_eq e v) (editions family)) (Ok tt) (Err version)) u h in
    let found = cond_ok (list_any (λ e. bytes_eq e step.0) (editions family)) version tt u step.2 in
    record { version = step.0; version_is = needed_ok missing_key m step.0 step.1; edition = named (editions family) step.0 found.0 }

version_err : (family : Family) (t : Data) (f : Fault) → IsSome (object t) → version_of family t ≡ Err f → RootBreaks family t f
unfolding version_of
version_err family t f is_object h =
    let m = member text key.oci_version t in
    elim (bind_err (needed missing_key m) (λ v. cond (list_any (λ e. bytes_eq e v) (editions family)) (Ok tt) (Err version)) f h) [
      | inl bad ↦ version_text f is_object (needed_breaks m f bad)
      | inr step ↦
          let other = cond_err (list_any (λ e. bytes_eq e step.0) (editions family)) version f tt step.2 in
          let unread : ¬ Contains (editions family) step.0 =
          λ has. true_false (list_any (λ e. bytes_eq e step.0) (editions family)) (named_back (editions family) step.0 has) other.0 in
          subst (RootBreaks family t) other.1 (version_other step.0 (needed_ok missing_key m step.0 step.1) unread)
    ]

seccomp_ok : (t s : Data) → seccomp_of t ≡ Ok s → IsSeccomp t s
unfolding seccomp_of
seccomp_ok t s h =
    let step = bind_ok (needed no_seccomp (member object key.linux t)) (λ l. needed no_seccomp (member object key.seccomp l)) s h in (
      step.0,
      needed_ok no_seccomp (member object key.linux t) step.0 step.1,
      needed_ok no_seccomp (member object key.seccomp step.0) s
          step.2,
    )

seccomp_err : (family : Family) (t : Data) (f : Fault) → IsSome (object t) → seccomp_of t ≡ Err f → RootBreaks family t f
unfolding seccomp_of
seccomp_err family t f is_object h =
    elim (bind_err (needed no_seccomp (member object key.linux t)) (λ l. needed no_seccomp (member object key.seccomp l)) f h) [
      | inl bad ↦ elim (needed_err no_seccomp f (member object key.linux t) bad) [
        | inl at ↦ subst (RootBreaks family t) at.1 (linux_missing is_object at.0)
        | inr at ↦ subst (RootBreaks family t) at.1 (linux_other at.0)
      ]
      | inr step ↦
          let linux = needed_ok no_seccomp (member object key.linux t) step.0 step.1 in
          elim (needed_err no_seccomp f (member object key.seccomp step.0) step.2) [
            | inl at ↦ subst (RootBreaks family t) at.1 (seccomp_missing step.0 linux at.0)
            | inr at ↦ subst (RootBreaks family t) at.1 (seccomp_other step.0 linux at.0)
          ]
    ]

pub root_means : (family : Family) (t s : Data) → root_of family t ≡ Ok s → RootMeans family t s
unfolding root_of
root_means family t s h =
    let at_r = bind_ok (typed (object t)) (λ root. version_of family root >>= (λ v. seccomp_of root)) s h in
    let root = object_is t at_r.0 at_r.1 in
    let at_v = bind_ok (version_of family at_r.0) (λ v. seccomp_of at_r.0) s at_r.2 in
    let version = version_ok family at_r.0 at_v.0 at_v.1 in
    let means : RootMeans family at_r.0 s = record {
      root = subst (λ (d : Data). IsSome (object d)) root.1 root.0;
      version = version.version;
      version_is = version.version_is;
      edition = version.edition;
      seccomp = seccomp_ok at_r.0 s at_v.2;
    } in
    subst (λ (d : Data). RootMeans family d s) (sym root.1) means

pub root_breaks : (family : Family) (t : Data) (f : Fault) → root_of family t ≡ Err f → RootBreaks family t f
unfolding root_of
root_breaks family t f h =
    elim (bind_err (typed (object t)) (λ root. version_of family root >>= (λ v. seccomp_of root)) f h) [
      | inl bad ↦ (let at = object_not t f bad in subst (RootBreaks family t) at.1 (no_object at.0))
      | inr at_r ↦
          let root = object_is t at_r.0 at_r.1 in
          let is_object : IsSome (object at_r.0) = subst (λ (d : Data). IsSome (object d)) root.1 root.0 in
          subst (λ (d : Data). RootBreaks family d f) (sym root.1)
          (elim (bind_err (version_of family at_r.0) (λ v. seccomp_of at_r.0) f at_r.2) [
            | inl bad ↦ version_err family at_r.0 f is_object bad
            | inr at_v ↦ seccomp_err family at_r.0 f is_object at_v.2
          ])
    ]

-- one object stands there
pub one_seccomp : (t a b : Data) → IsSeccomp t a → IsSeccomp t b → a ≡ b
one_seccomp t a b x y =
    let linux : x.0 ≡ y.0 = holds_same x.0 y.0 (sym x.1 ∙ y.1) in
    holds_same a b (sym x.2 ∙ ap (member object key.seccomp) linux ∙ y.2)

pub root_unbroken : (family : Family) (t s : Data) (f : Fault) → RootMeans family t s → RootBreaks family t f → ⊥
root_unbroken family t s _ m (no_object e) = is_some_not_none (object t) m.root e
root_unbroken family t s f m (version_text _ is_object e) = needed_unbroken (member text key.oci_version t) m.version f m.version_is e
root_unbroken family t s _ m (version_other v e unread) =
    unread (subst (Contains (editions family)) (holds_same m.version v (sym m.version_is ∙ e)) m.edition)
root_unbroken family t s _ m (linux_missing is_object e) = let both : holds m.seccomp.0 ≡ missing = sym m.seccomp.1 ∙ e in cc
root_unbroken family t s _ m (linux_other e) = let both : holds m.seccomp.0 ≡ other_type = sym m.seccomp.1 ∙ e in cc
root_unbroken family t s _ m (seccomp_missing l at e) =
    let same : m.seccomp.0 ≡ l = holds_same m.seccomp.0 l (sym m.seccomp.1 ∙ at) in
    let both : holds s ≡ missing = sym m.seccomp.2 ∙ ap (member object key.seccomp) same ∙ e in cc
root_unbroken family t s _ m (seccomp_other l at e) =
    let same : m.seccomp.0 ≡ l = holds_same m.seccomp.0 l (sym m.seccomp.1 ∙ at) in
    let both : holds s ≡ other_type = sym m.seccomp.2 ∙ ap (member object key.seccomp) same ∙ e in cc

-- ---- editions

pub first_edition : (family : Family) → Contains (editions family) (codes "1.0.2")
first_edition Chosen = contains_head (codes "1.0.2") (codes "1.1.0" ∷ [])
first_edition Whole = contains_head (codes "1.0.2") (codes "1.1.0" ∷ codes "1.2.0" ∷ codes "1.2.1" ∷ [])

pub root_widened : (t s : Data) → RootMeans Chosen t s → RootMeans Whole t s
root_widened t s m =
    record {
      root = m.root;
      version = m.version;
      version_is = m.version_is;
      edition = Contains-append_left (editions Chosen) (codes "1.2.0" ∷ codes "1.2.1" ∷ []) m.version m.edition;
      seccomp = m.seccomp;
    }
