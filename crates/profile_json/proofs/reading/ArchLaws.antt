-- Listed machines: what reading gives is meant, and what it refuses is broken.
use Rattle.std.proofs.Common.{◌≡◌, ℕ, Bool, List, [], ◌∷◌, cond, Ok, Err, Some, None, true, inl, inr, refl}
use Rattle.std.proofs.Common.{sym, ◌∙◌, ap, subst}
use Rattle.std.specs.Option.{ok_or}
use Rattle.std.specs.List.{AllZip, Contains, list_any, position_or_len}
use Rattle.std.specs.Str.{bytes_eq}
use Rattle.std.proofs.lemmas.List.Elements.{All-nil, All-cons, All-contains}
use Rattle.std.proofs.lemmas.List.Folds.{find_at}
use Rattle.std.proofs.lemmas.Option.{same_Some}
use Rattle.serde_json.specs.Data.{Data}
use Rattle.machines.specs.declared.arch.Arch.{Arch}
use Rattle.machines.specs.declared.arch.Family.{Family}
use Rattle.machines.specs.Arch.{family_of, machines_of, same_arch, scmp_of, AreOfFamily}
use Rattle.profile.proofs.MachineLaws.{Decides-listed, machines-of_family}
use Rattle.profile_json.specs.Keys as key
use Rattle.profile_json.specs.Fault.{Fault, wrong_type, unknown_arch, native_missing}
use Rattle.profile_json.specs.Lookup.{member, or_default, text, list}
use Rattle.profile_json.specs.Names.{arch_named}
use Rattle.profile_json.specs.Rules.{or_native}
use Rattle.profile_json.specs.inner.Outcome.{◌>>=◌}
use Rattle.profile_json.specs.inner.Reading.{typed, each, arch_of, archs_or_native, archs_of}
use Rattle.profile_json.specs.Meaning.{NamesArch, ListsArchs}
use Rattle.profile_json.specs.Breaks.{ArchsBreak, no_list, no_text, unknown, not_native}
use Rattle.profile_json.proofs.Lists.{contains_at, related, one_related}
use Rattle.profile_json.proofs.reading.Steps.{bind_ok, bind_err, ok_or_ok, ok_or_err, cond_ok, cond_err, each_ok, each_err, none_some}
use Rattle.profile_json.proofs.reading.Steps.{ok_same, not_ok, true_false}

arch_means : (family : Family) (d : Data) (a : Arch) → arch_of family d ≡ Ok a → NamesArch family d a
unfolding arch_of
arch_means family d a h =
    let step = bind_ok (typed (text d)) (λ name. ok_or (arch_named family name) unknown_arch) a h in
    (step.0, ok_or_ok (text d) wrong_type step.0 step.1, ok_or_ok (arch_named family step.0) unknown_arch a step.2)

-- a value that names no machine
data ArchBreaks (family : Family) (d : Data) : Fault → Type 0 where
  has_no_text : text d ≡ None → ArchBreaks family d wrong_type
  is_unknown : (name : List ℕ) → text d ≡ Some name → arch_named family name ≡ None → ArchBreaks family d unknown_arch

arch_breaks : (family : Family) (d : Data) (f : Fault) → arch_of family d ≡ Err f → ArchBreaks family d f
unfolding arch_of
arch_breaks family d f h =
    elim (bind_err (typed (text d)) (λ name. ok_or (arch_named family name) unknown_arch) f h) [
      | inl bad ↦ (let at = ok_or_err (text d) wrong_type f bad in subst (ArchBreaks family d) at.1 (has_no_text at.0))
      | inr step ↦ (let at = ok_or_err (arch_named family step.0) unknown_arch f step.2 in subst (ArchBreaks family d) at.1
          (is_unknown step.0 (ok_or_ok (text d) wrong_type step.0 step.1) at.0))
    ]

value_breaks : (s : Data) (native : Arch) (ds : List Data) (d : Data) (f : Fault)
    → or_default [] (member list key.architectures s) ≡ Some ds → Contains ds d → ArchBreaks (family_of native) d f → ArchsBreak s native f
value_breaks s native ds d _ at in_ds (has_no_text e) = no_text ds d at in_ds e
value_breaks s native ds d _ at in_ds (is_unknown name e u) = unknown ds d name at in_ds e u

pub lists_native : (a : Arch) (archs : List Arch) → list_any (same_arch a) archs ≡ true → Contains archs a
lists_native a archs = (Decides-listed archs a).0

native_lists : (a : Arch) (archs : List Arch) → Contains archs a → list_any (same_arch a) archs ≡ true
native_lists a archs = (Decides-listed archs a).1

lists_of : (s : Data) (native : Arch) (ds : List Data) (archs : List Arch) → or_default [] (member list key.architectures s) ≡ Some ds
    → archs_or_native native ds ≡ Ok archs → ListsArchs s native archs
lists_of s native ds archs at h =
    let step = bind_ok (each (arch_of (family_of native)) ds) (λ xs0. Ok (or_native native xs0)) archs h in
    record {
      values = ds;
      values_are = at;
      named = step.0;
      names = each_ok (arch_of (family_of native)) (NamesArch (family_of native)) (arch_means (family_of native)) ds step.0 step.1;
      archs_are =
          sym (ok_same (or_native native step.0) archs step.2);
    }

pub lists_archs : (s : Data) (native : Arch) (archs : List Arch) → archs_of native s ≡ Ok archs → ListsArchs s native archs
    × Contains archs native
unfolding archs_of
lists_archs s native archs h =
    let at_d = bind_ok (typed (or_default [] (member list key.architectures s)))
    (λ ds. archs_or_native native ds >>= (λ xs0. cond (list_any (same_arch native) xs0) (Ok xs0) (Err native_missing))) archs h in
    let at_a = bind_ok (archs_or_native native at_d.0) (λ xs0. cond (list_any (same_arch native) xs0) (Ok xs0) (Err native_missing)) archs
    at_d.2 in
    let found = cond_ok (list_any (same_arch native) at_a.0) native_missing at_a.0 archs at_a.2 in
    let lists = lists_of s native at_d.0 at_a.0 (ok_or_ok (or_default [] (member list key.architectures s)) wrong_type at_d.0 at_d.1)
    at_a.1 in (
      subst (ListsArchs s native) found.1 lists,
      subst (λ (xs0 : List Arch). Contains xs0 native) found.1
          (lists_native native at_a.0 found.0),
    )

pub archs_refused : (s : Data) (native : Arch) (f : Fault) → archs_of native s ≡ Err f → ArchsBreak s native f
unfolding archs_of
archs_refused s native f h =
    elim (bind_err (typed (or_default [] (member list key.architectures s)))
    (λ ds. archs_or_native native ds >>= (λ xs0. cond (list_any (same_arch native) xs0) (Ok xs0) (Err native_missing))) f h) [
      | inl bad ↦ (let at = ok_or_err (or_default [] (member list key.architectures s)) wrong_type f bad in subst (ArchsBreak s native)
          at.1 (no_list at.0))
      | inr at_d ↦
          let values = ok_or_ok (or_default [] (member list key.architectures s)) wrong_type at_d.0 at_d.1 in
          elim (bind_err (archs_or_native native at_d.0) (λ xs0. cond (list_any (same_arch native) xs0) (Ok xs0) (Err native_missing)) f
          at_d.2) [
            | inl bad ↦ elim (bind_err (each (arch_of (family_of native)) at_d.0) (λ xs0. Ok (or_native native xs0)) f bad) [
              | inl worse ↦ (let at = each_err (arch_of (family_of native)) at_d.0 f worse in value_breaks s native at_d.0 at.0 f values at.1
                  (arch_breaks (family_of native) at.0 f at.2))
              | inr step ↦ absurd (not_ok (or_native native step.0) f step.2)
            ]
            | inr at_a ↦
                let lost = cond_err (list_any (same_arch native) at_a.0) native_missing f at_a.0 at_a.2 in
                let lists = lists_of s native at_d.0 at_a.0 values at_a.1 in
                subst (ArchsBreak s native) lost.1
                (not_native at_a.0 lists
                (λ has. true_false (list_any (same_arch native) at_a.0) (native_lists native at_a.0 has) lost.0))
          ]
    ]

-- ---- one list of machines

one_arch : (family : Family) (d : Data) (a b : Arch) → NamesArch family d a → NamesArch family d b → a ≡ b
one_arch family d a b x y =
    let same : x.0 ≡ y.0 = same_Some x.0 y.0 (sym x.1 ∙ y.1) in
    same_Some a b (sym x.2 ∙ ap (arch_named family) same ∙ y.2)

pub one_archs : (s : Data) (native : Arch) (xs ys : List Arch) → ListsArchs s native xs → ListsArchs s native ys → xs ≡ ys
one_archs s native xs ys p q =
    let values : p.values ≡ q.values = same_Some p.values q.values (sym p.values_are ∙ q.values_are) in
    let names : AllZip (NamesArch (family_of native)) q.values p.named = subst (λ ds. AllZip (NamesArch (family_of native)) ds p.named) values p.names in
    p.archs_are ∙ ap (or_native native) (one_related (NamesArch (family_of native)) (one_arch (family_of native)) q.values p.named q.named names q.names) ∙ sym q.archs_are

pub archs_unbroken : (s : Data) (native : Arch) (archs : List Arch) (f : Fault) → ListsArchs s native archs → Contains archs native
    → ArchsBreak s native f → ⊥
archs_unbroken s native archs _ m has (no_list e) = none_some (or_default [] (member list key.architectures s)) m.values e m.values_are
archs_unbroken s native archs _ m has (no_text ds d at in_ds e) =
    let same : m.values ≡ ds = same_Some m.values ds (sym m.values_are ∙ at) in
    let name = related (NamesArch (family_of native)) m.values m.named d m.names (subst (λ xs. Contains xs d) (sym same) in_ds) in
    none_some (text d) name.1.0 e name.1.1
archs_unbroken s native archs _ m has (unknown ds d t at in_ds e u) =
    let same : m.values ≡ ds = same_Some m.values ds (sym m.values_are ∙ at) in
    let name = related (NamesArch (family_of native)) m.values m.named d m.names (subst (λ xs. Contains xs d) (sym same) in_ds) in
    let names : name.1.0 ≡ t = same_Some name.1.0 t (sym name.1.1 ∙ e) in
    none_some (arch_named (family_of native) t) name.0 u (ap (arch_named (family_of native)) (sym names) ∙ name.1.2)
archs_unbroken s native archs _ m has (not_native others lists lost) =
    lost (subst (λ (xs0 : List Arch). Contains xs0 native) (one_archs s native archs others m lists) has)

-- ---- of one family

-- a name stands for a machine of the family
named_is : (family : Family) (name : List ℕ) (a : Arch) → arch_named family name ≡ Some a → family_of a ≡ family
unfolding arch_named
named_is family name a h =
    let test : Arch → Bool = λ arch. bytes_eq name (scmp_of arch) in
    All-contains (λ arch. family_of arch ≡ family) (machines_of family) a (machines-of_family family)
    (contains_at (machines_of family) (position_or_len test (machines_of family)) a (sym (find_at test (machines_of family)) ∙ h))

named_of_family : (family : Family) (ds : List Data) (archs : List Arch) → AllZip (NamesArch family) ds archs → AreOfFamily family archs
named_of_family family [] [] each = All-nil (λ a. family_of a ≡ family)
named_of_family family [] (a ∷ archs) each = absurd each
named_of_family family (d ∷ ds) [] each = absurd each
named_of_family family (d ∷ ds) (a ∷ archs) each =
    All-cons (λ b. family_of b ≡ family) a archs (named_is family each.0.0 a each.0.2) (named_of_family family ds archs each.1)

or_native_of_family : (native : Arch) (archs : List Arch) → AreOfFamily (family_of native) archs
    → AreOfFamily (family_of native) (or_native native archs)
or_native_of_family native [] h =
    All-cons (λ b. family_of b ≡ family_of native) native [] refl (All-nil (λ b. family_of b ≡ family_of native))
or_native_of_family native (a ∷ more) h = h

pub listed_of_family : (s : Data) (native : Arch) (archs : List Arch) → ListsArchs s native archs → AreOfFamily (family_of native) archs
listed_of_family s native archs m =
    subst (AreOfFamily (family_of native)) (sym m.archs_are)
    (or_native_of_family native m.named (named_of_family (family_of native) m.values m.named m.names))
