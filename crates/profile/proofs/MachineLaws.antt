-- The machines of a family in order: which they are, and that a call is one machine's.
use Rattle.std.proofs.Common.{◌≡◌, ℕ, zero, suc, ◌+◌, ◌<◌, Bool, true, false, inl, inr, List, [], ◌∷◌, length, get_or, refl, sym, ◌∙◌, ap}
use Rattle.std.proofs.Common.{◌≤◌, ◌++◌, cond, take, subst, arith}
use Rattle.std.proofs.lemmas.List.{append-nil, length_push}
use Rattle.std.specs.Bool.{Decides}
use Rattle.std.specs.Prelude.{filter}
use Rattle.std.specs.List.{All, Any, Contains, HoldsAt, list_any}
use Rattle.std.proofs.lemmas.Bool.{cases_Bool}
use Rattle.std.proofs.lemmas.Bool.Decides.{Decides-by_or, Decides-like, same_from_decides}
use Rattle.std.proofs.lemmas.List.Elements.{All-contains, All-contains_itself, All-cons, All-filter, All-nil, All-weaker, at_read}
use Rattle.std.proofs.lemmas.List.Elements.{filter_agree, filter_more, filter_passes}
use Rattle.machines.specs.declared.arch.Arch.{Arch}
use Rattle.machines.specs.declared.arch.Arch.TheVariants.{X86_64, Aarch64, LinuxX86_64, LinuxX86, LinuxX32, LinuxAarch64, LinuxArm, LinuxRiscv64, LinuxPpc64le, LinuxLoongarch64, LinuxS390x, LinuxS390}
use Rattle.machines.specs.declared.arch.Family.{Family}
use Rattle.machines.specs.declared.arch.Family.TheVariants.{Chosen, Whole}
use Rattle.machines.specs.Arch.{family_of, machines_of, same_arch, AreOfFamily}
use Rattle.machines.specs.Numbers.{HasCall, IsWithin}
use Rattle.machines.proofs.ArchLaws.{Decides-same_arch}
use Rattle.machines.proofs.NumberLaws.{own_not_other, shared}
use Rattle.profile.specs.Machines.{in_order}
use Rattle.profile.specs.Policy.{InOrder}

-- ---- what holds of some element

-- what holds at a place holds of some element
any_at : {X : Type 0} (P : X → Type 0) (xs : List X) (k : ℕ) → k < length xs → HoldsAt P xs k → Any P xs
any_at P [] k lt h = absurd (omega arith)
any_at P (x ∷ xs) zero lt h = (0, x, omega arith, refl, h x)
any_at P (x ∷ xs) (suc k) lt h =
    let rest : Any P xs = any_at P xs k (omega arith) h in
    (suc rest.0, rest.1, omega (arith, rest.2), rest.3, rest.4)

at_any : {X : Type 0} (P : X → Type 0) (xs : List X) → Any P xs → (k : ℕ) × (k < length xs) × HoldsAt P xs k
at_any P xs (k, x, lt, at, h) = (k, lt, at_read xs P k x lt (sym at) h)

pub Decides-any : {X : Type 0} (t : X → Bool) (T : X → Type 0) → ((x : X) → Decides (t x) (T x)) → (xs : List X)
    → Decides (list_any t xs) (Any T xs)
Decides-any t T each xs =
    Decides-like (list_any t xs) (λ (k, lt, h). any_at T xs k lt h) (at_any T xs)
    (Decides-by_or t T (list_any t) each refl (λ _ _. refl) xs)

-- ---- which machines are listed

pub Decides-listed : (archs : List Arch) (a : Arch) → Decides (list_any (same_arch a) archs) (Contains archs a)
Decides-listed archs a =
    Decides-like (list_any (same_arch a) archs)
    (λ (k, x, lt, at, same). (k, lt, subst (λ y. get_or archs k y ≡ y) (sym same) at))
    (λ (k, lt, at). (k, a, lt, at, refl))
    (Decides-any (same_arch a) (λ b. a ≡ b) (Decides-same_arch a) archs)

-- what passes is kept
pub kept : {X : Type 0} (p : X → Bool) (xs : List X) (x : X) → p x ≡ true → Contains xs x → Contains (filter p xs) x
kept p [] x passes (k, lt, at) = absurd (omega (arith, lt))
kept p (y ∷ ys) x passes (zero, lt, at) =
    let same : y ≡ x = at in
    let here : p y ≡ true = ap p same ∙ passes in
    let front : filter p (y ∷ ys) ≡ y ∷ filter p ys = rw here refl in
    subst (λ zs. Contains zs x) (sym front) (0, omega arith, same)
kept p (y ∷ ys) x passes (suc k, lt, at) =
    let rest : Contains (filter p ys) x = kept p ys x passes (k, omega (arith, lt), at) in
    elim (cases_Bool (p y)) [
      | inl here ↦
          let front : filter p (y ∷ ys) ≡ y ∷ filter p ys = rw here refl in
          subst (λ zs. Contains zs x) (sym front) (suc rest.0, omega (arith, rest.1), rest.2)
      | inr past ↦
          let behind : filter p (y ∷ ys) ≡ filter p ys = rw past refl in
          subst (λ zs. Contains zs x) (sym behind) rest
    ]

-- each machine is one of its family
among_family : (a : Arch) → Contains (machines_of (family_of a)) a
among_family X86_64 = (0, omega arith, refl)
among_family Aarch64 = (1, omega arith, refl)
among_family LinuxX86_64 = (0, omega arith, refl)
among_family LinuxX32 = (1, omega arith, refl)
among_family LinuxX86 = (2, omega arith, refl)
among_family LinuxAarch64 = (3, omega arith, refl)
among_family LinuxArm = (4, omega arith, refl)
among_family LinuxRiscv64 = (5, omega arith, refl)
among_family LinuxPpc64le = (6, omega arith, refl)
among_family LinuxLoongarch64 = (7, omega arith, refl)
among_family LinuxS390x = (8, omega arith, refl)
among_family LinuxS390 = (9, omega arith, refl)

pub machines-of_family : (family : Family) → AreOfFamily family (machines_of family)
machines-of_family Chosen =
    let P : Arch → Type 0 = λ a. family_of a ≡ Chosen in
    All-cons P X86_64 (Aarch64 ∷ []) refl (All-cons P Aarch64 [] refl (All-nil P))
machines-of_family Whole =
    let P : Arch → Type 0 = λ a. family_of a ≡ Whole in
    All-cons P LinuxX86_64 (LinuxX32 ∷ LinuxX86 ∷ LinuxAarch64 ∷ LinuxArm ∷ LinuxRiscv64 ∷ LinuxPpc64le ∷ LinuxLoongarch64 ∷ LinuxS390x ∷ LinuxS390 ∷ []) refl
    (All-cons P LinuxX32 (LinuxX86 ∷ LinuxAarch64 ∷ LinuxArm ∷ LinuxRiscv64 ∷ LinuxPpc64le ∷ LinuxLoongarch64 ∷ LinuxS390x ∷ LinuxS390 ∷ []) refl
    (All-cons P LinuxX86 (LinuxAarch64 ∷ LinuxArm ∷ LinuxRiscv64 ∷ LinuxPpc64le ∷ LinuxLoongarch64 ∷ LinuxS390x ∷ LinuxS390 ∷ []) refl
    (All-cons P LinuxAarch64 (LinuxArm ∷ LinuxRiscv64 ∷ LinuxPpc64le ∷ LinuxLoongarch64 ∷ LinuxS390x ∷ LinuxS390 ∷ []) refl
    (All-cons P LinuxArm (LinuxRiscv64 ∷ LinuxPpc64le ∷ LinuxLoongarch64 ∷ LinuxS390x ∷ LinuxS390 ∷ []) refl
    (All-cons P LinuxRiscv64 (LinuxPpc64le ∷ LinuxLoongarch64 ∷ LinuxS390x ∷ LinuxS390 ∷ []) refl
    (All-cons P LinuxPpc64le (LinuxLoongarch64 ∷ LinuxS390x ∷ LinuxS390 ∷ []) refl
    (All-cons P LinuxLoongarch64 (LinuxS390x ∷ LinuxS390 ∷ []) refl
    (All-cons P LinuxS390x (LinuxS390 ∷ []) refl
    (All-cons P LinuxS390 [] refl (All-nil P))))))))))

-- ---- machines in order

listed_before : (family : Family) (archs : List Arch) (a : Arch) → Contains (in_order family archs) a → Contains archs a
listed_before family archs a has =
    let listed : Arch → Bool = λ b. list_any (same_arch b) archs in
    (Decides-listed archs a).0 (All-contains (λ b. listed b ≡ true) (in_order family archs) a (filter_passes listed (machines_of family)) has)

listed_after : (family : Family) (archs : List Arch) → AreOfFamily family archs → (a : Arch) → Contains archs a
    → Contains (in_order family archs) a
listed_after family archs of a has =
    kept (λ b. list_any (same_arch b) archs) (machines_of family) a ((Decides-listed archs a).1 has)
    (subst (λ f. Contains (machines_of f) a) (All-contains (λ b. family_of b ≡ family) archs a of has) (among_family a))

-- of two lists with the same machines the order is the same
pub same_order : (family : Family) (xs ys : List Arch) → ((a : Arch) → Contains xs a → Contains ys a)
    → ((a : Arch) → Contains ys a → Contains xs a) → in_order family xs ≡ in_order family ys
same_order family xs ys there back =
    filter_agree (λ a. list_any (same_arch a) xs) (λ a. list_any (same_arch a) ys)
    (λ a.
    same_from_decides (list_any (same_arch a) xs) (list_any (same_arch a) ys)
    (Decides-like (list_any (same_arch a) xs) (there a) (back a) (Decides-listed xs a)) (Decides-listed ys a))
    (machines_of family)

-- these machines put in order
module _ (family : Family) (archs machines : List Arch) (of : AreOfFamily family archs) (is : machines ≡ in_order family archs) where
  pub only_of : (a : Arch) → Contains machines a → Contains archs a
  only_of a has = listed_before family archs a (subst (λ ms. Contains ms a) is has)

  has_each : (a : Arch) → Contains archs a → Contains machines a
  has_each a has = subst (λ ms. Contains ms a) (sym is) (listed_after family archs of a has)

  pub all_of : All (Contains machines) archs
  all_of = All-weaker (Contains archs) (Contains machines) has_each archs (All-contains_itself archs)

  pub stays : InOrder machines
  stays = (family, is ∙ same_order family archs machines has_each only_of)

-- each is of the family
pub family_in : (family : Family) (archs machines : List Arch) → machines ≡ in_order family archs → AreOfFamily family machines
family_in family archs machines is =
    subst (AreOfFamily family) (sym is)
    (All-filter (λ a. list_any (same_arch a) archs) (λ a. family_of a ≡ family) (machines_of family) (machines-of_family family))

-- ---- machines that are picked one by one

pub few : (family : Family) → length (machines_of family) ≤ 10
few Chosen = omega arith
few Whole = omega arith

-- what was picked of the first machines
abbrev KeptOf : List Arch → List Arch → List Arch → ℕ → Type 0
KeptOf archs items picked i = (picked ≡ filter (λ a. list_any (same_arch a) archs) (take i items)) × (length picked ≤ i)

module _ (archs items picked more : List Arch) (i : ℕ) (d : Arch) (lt : i < length items) (so_far : KeptOf archs items picked i) where
  abbrev listed : Arch → Bool
  listed a = list_any (same_arch a) archs

  step : (b : Bool) → listed (get_or items i d) ≡ b
      → filter listed (take (i + 1) items) ≡ filter listed (take i items) ++ cond b (get_or items i d ∷ []) []
  step b is = filter_more listed items i d lt ∙ ap (λ t. filter listed (take i items) ++ cond t (get_or items i d ∷ []) []) is

  pub picks : Contains archs (get_or items i d) → more ≡ picked ++ get_or items i d ∷ [] → KeptOf archs items more (i + 1)
  picks has is =
      let front = step true ((Decides-listed archs (get_or items i d)).1 has) in (
        is ∙ ap (λ xs. xs ++ get_or items i d ∷ []) so_far.0 ∙ sym front,
        omega
            (arith, ap length is, length_push picked (get_or items i d), so_far.1),
      )

  pub passes : ¬ Contains archs (get_or items i d) → KeptOf archs items picked (i + 1)
  passes lacks =
      elim (cases_Bool (listed (get_or items i d))) [
        | inl hit ↦ absurd (lacks ((Decides-listed archs (get_or items i d)).0 hit))
        | inr miss ↦ (
          so_far.0 ∙ sym (append-nil (filter listed (take i items))) ∙ sym (step false miss),
          omega
              (arith, so_far.1),
        )
      ]

-- ---- a call is one machine's

apart : (a b : Arch) (token nr : ℕ) → family_of a ≡ family_of b → HasCall token nr a → HasCall token nr b → same_arch a b ≡ false → ⊥
apart a b token nr family in-a in-b differ =
    own_not_other b nr in-b.1 (subst (Any (IsWithin nr)) (sym (shared b a family (in-a.0 ∙ sym in-b.0) differ)) in-a.1)

pub has_call-one : (machines : List Arch) → InOrder machines → (a b : Arch) → Contains machines a → Contains machines b
    → (token nr : ℕ) → HasCall token nr a → HasCall token nr b → a ≡ b
has_call-one machines (family, order) a b in-a in-b token nr call-a call-b =
    let of : (c : Arch) → Contains machines c → family_of c ≡ family =
    λ c. All-contains (λ d. family_of d ≡ family) machines c (family_in family machines machines order) in
    elim (cases_Bool (same_arch a b)) [
      | inl same ↦ (Decides-same_arch a b).0 same
      | inr differ ↦ absurd (apart a b token nr (of a in-a ∙ sym (of b in-b)) call-a call-b differ)
    ]
