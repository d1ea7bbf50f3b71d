-- Bundles that say the same beside their entries have one default verdict, and the same machines.
use Rattle.std.proofs.Common.{◌≡◌, ℕ, ◌+◌, ◌<◌, List, [], ◌∷◌, length, map, take, get_or, refl, sym, ◌∙◌, ap, subst, arith}
use Rattle.std.proofs.lemmas.List.{get_or-map, length-map, take_more_same}
use Rattle.std.proofs.lemmas.Option.{same_Some}
use Rattle.std.specs.Prelude.{Option, Some, None, option_map}
use Rattle.std.specs.List.{AllZip}
use Rattle.serde_json.specs.Data.{Data}
use Rattle.machines.specs.declared.arch.Arch.{Arch}
use Rattle.machines.specs.declared.arch.Family.{Family}
use Rattle.machines.specs.Arch.{family_of}
use Rattle.profile.specs.declared.rules.Rule.{Rule}
use Rattle.profile.specs.Machines.{in_order}
use Rattle.profile.specs.Policy.{Policy}
use Rattle.profile_json.specs.declared.action.Action.{Action}
use Rattle.profile_json.specs.ByEntry.{AreRulesOf}
use Rattle.profile_json.specs.Keys as key
use Rattle.profile_json.specs.Lookup.{member, text, whole}
use Rattle.profile_json.specs.Meaning.{IsSeccomp, IsText, Means, NamesArch, ListsArchs, ErrnoMeans, none, given, VerdictMeans}
use Rattle.profile_json.proofs.reading.ArchLaws.{one_archs}
use Rattle.profile_json.proofs.reading.RootLaws.{one_seccomp}
use Rattle.engines.specs.inner.Heads.{AreOfSameHead, IsSameHead, list_at}

module _ {A B : Type 0} (f : A → B) where
  -- one place further
  pub same_further : (xs ys : List A) (i : ℕ) (x y : A) → i < length xs → length xs ≡ length ys → x ≡ get_or xs i x → y ≡ get_or ys i y
      → f x ≡ f y → take i (map f xs) ≡ take i (map f ys) → take (i + 1) (map f xs) ≡ take (i + 1) (map f ys)
  same_further xs ys i x y within long at_x at_y same before =
      let too : i < length ys = omega (arith, within, long) in
      let in_xs : i < length (map f xs) = omega (arith, length-map xs f, within) in
      let in_ys : i < length (map f ys) = omega (arith, length-map ys f, too) in
      let here : get_or (map f xs) i (f x) ≡ get_or (map f ys) i (f x) =
      get_or-map f xs i x (f x) within ∙ ap f (sym at_x) ∙ same ∙ ap f at_y ∙ sym (get_or-map f ys i y (f x) too) in
      take_more_same (map f xs) (map f ys) i (f x) in_xs in_ys before here

-- ---- the default verdict

errno_same : (k : List ℕ) (a b : Data) (x : Action) (n : ℕ) → member whole k a ≡ member whole k b → ErrnoMeans k b x n → ErrnoMeans k a x n
errno_same k a b x _ same (none e) = none (same ∙ e)
errno_same k a b x _ same (given n e takes small) = given n (same ∙ e) takes small

default_same : (family : Family) (a b : Data) (w : ℕ) → IsSameHead a b → VerdictMeans family key.default_action key.default_errno_ret b w
    → VerdictMeans family key.default_action key.default_errno_ret a w
default_same family a b w same m = record {
  action = m.action;
  action_is = (m.action_is.0, same.action ∙ m.action_is.1, m.action_is.2);
  errno = m.errno;
  errno_is = errno_same key.default_errno_ret a b m.action m.errno same.errno m.errno_is;
  verdict_is = m.verdict_is;
}

-- ---- the machines

found_list : (o : Option (List Data)) (ds : List Data) → option_map (map text) o ≡ Some (map text ds)
    → (cs : List Data) × (o ≡ Some cs) × (map text cs ≡ map text ds)
found_list None ds e = cc
found_list (Some cs) ds e = (cs, refl, same_Some _ _ e)

names_same : (family : Family) (cs ds : List Data) (archs : List Arch) → map text cs ≡ map text ds → AllZip (NamesArch family) ds archs
    → AllZip (NamesArch family) cs archs
names_same family [] [] archs e p = p
names_same family [] (d ∷ ds) archs e p = cc
names_same family (c ∷ cs) [] archs e p = cc
names_same family (c ∷ cs) (d ∷ ds) [] e p = absurd p
names_same family (c ∷ cs) (d ∷ ds) (a ∷ archs) e p =
    let head : text c ≡ text d = cc in
    let tail : map text cs ≡ map text ds = cc in
    ((p.0.0, head ∙ p.0.1, p.0.2), names_same family cs ds archs tail p.1)

lists_same : (a b : Data) (native : Arch) (archs : List Arch) → IsSameHead a b → ListsArchs b native archs → ListsArchs a native archs
lists_same a b native archs same m =
    let found = found_list (list_at key.architectures a) m.values (same.machines ∙ ap (option_map (map text)) m.values_are) in
    record {
      values = found.0;
      values_are = found.1;
      named = m.named;
      names = names_same (family_of native) found.0 m.values m.named found.2 m.names;
      archs_are = m.archs_are;
    }

-- ---- a draft, and what is made of it

module _ (native : Arch) (draft bytes : List ℕ) (rules : List Rule) (ends : List ℕ) (t : Data) (p : Policy) where
  sections_same : AreOfSameHead draft bytes → (are : AreRulesOf native draft rules ends) → IsText bytes t → (m : Means t native p)
      → IsSameHead are.seccomp m.seccomp
  sections_same same are is_text m =
      let one : same.t ≡ are.t = same_Some same.t are.t (sym same.is_text.1 ∙ are.is_text.1) in
      let other : same.u ≡ t = same_Some same.u t (sym same.is_other.1 ∙ is_text.1) in
      let both = same.same in
      let first : both.first ≡ are.seccomp =
      one_seccomp are.t both.first are.seccomp (subst (λ d. IsSeccomp d both.first) one both.first_is) are.root.seccomp in
      let second : both.second ≡ m.seccomp =
      one_seccomp t both.second m.seccomp (subst (λ d. IsSeccomp d both.second) other both.second_is) m.root.seccomp in
      subst (λ d. IsSameHead d m.seccomp) first (subst (λ d. IsSameHead both.first d) second both.same)

  pub default_kept : AreOfSameHead draft bytes → (are : AreRulesOf native draft rules ends) → IsText bytes t → Means t native p
      → VerdictMeans (family_of native) key.default_action key.default_errno_ret are.seccomp p.default_word
  default_kept same are is_text m =
      default_same (family_of native) are.seccomp m.seccomp p.default_word (sections_same same are is_text m) m.default_is

  pub machines_kept : AreOfSameHead draft bytes → (are : AreRulesOf native draft rules ends) → IsText bytes t → Means t native p
      → p.machines ≡ in_order (family_of native) are.archs
  machines_kept same are is_text m =
      let listed = lists_same are.seccomp m.seccomp native m.calls.archs (sections_same same are is_text m) m.calls.lists_archs in
      let archs : m.calls.archs ≡ are.archs = one_archs are.seccomp native m.calls.archs are.archs listed are.lists_archs in
      m.calls.machines_are ∙ ap (in_order (family_of native)) archs
