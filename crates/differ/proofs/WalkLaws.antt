-- Arguments of records.
use Rattle.std.proofs.Common.{◌≡◌, ℕ, ◌+◌, ◌*◌, ◌^◌, ◌<◌, inl, inr, Bool, true, false, List, length, get_or, set, refl, sym, ◌∙◌, ap, subst, arith}
use Rattle.std.specs.Prelude.{Option, Some, None, IfNone, if◌then◌else◌}
use Rattle.std.proofs.lemmas.Bool.{cases_eq}
use Rattle.std.proofs.lemmas.List.{get_or-set_same, get_or-set_other}
use Rattle.call_record.specs.Words.{argument, word, words_from}
use Rattle.call_record.proofs.RecordLemmas.{argument-words_from}
use Rattle.machines.specs.Width.{compared, is_narrow}
use Rattle.profile.specs.Rule.{argument_of}
use Rattle.differ.specs.OnCall.{IsOfCall, bits_of}
use Rattle.differ.specs.inner.Open.{HasFirst}

pub none_weaker : {A : Type 0} (r : Option A) (P Q : Type 0) → (P → Q) → IfNone r P → IfNone r Q
none_weaker None P Q f h = f h
none_weaker (Some a) P Q f h = h

-- ---- arguments

small_bits : (narrow : Bool) (u : ℕ) → u < 2 ^ (if narrow then 32 else 64) → compared narrow u ≡ u
small_bits true u lt = omega arith
small_bits false u lt = refl

below_bits : (narrow : Bool) (u : ℕ) → u < 2 ^ 64 → compared narrow u < 2 ^ (if narrow then 32 else 64)
below_bits true u lt = omega arith
below_bits false u lt = lt

pub argument_below : (token nr : ℕ) (r : List ℕ) (j : ℕ) → IsOfCall token nr r → argument_of r j < 2 ^ bits_of token
argument_below token nr r j of =
    let low : word r (4 + 2 * j) < 2 ^ 32 = of.is_record.words (4 + 2 * j) in
    let high : word r (5 + 2 * j) < 2 ^ 32 = of.is_record.words (5 + 2 * j) in
    let whole : argument r j < 2 ^ 64 = omega arith in
    subst (λ t. compared (is_narrow (word r 1)) (argument r j) < 2 ^ (if is_narrow t then 32 else 64)) of.machine
    (below_bits (is_narrow (word r 1)) (argument r j) whole)

pub has_itself : (nr arch ip : ℕ) (args : List ℕ) (n : ℕ) → ((i : ℕ) → i < n → get_or args i 0 < 2 ^ bits_of arch)
    → HasFirst args n (words_from nr arch ip args)
has_itself nr arch ip args n small = λ i lt.
    let e : argument (words_from nr arch ip args) i ≡ get_or args i 0 = argument-words_from nr arch ip args i in
    ap (λ u. compared (is_narrow arch) u) e ∙ small_bits (is_narrow arch) (get_or args i 0) (small i lt)

pub small_set : (args : List ℕ) (j v bound : ℕ) → j < length args → v < bound → ((i : ℕ) → i < j → get_or args i 0 < bound)
    → (i : ℕ) → i < j + 1 → get_or (set args j v) i 0 < bound
small_set args j v bound within lt small i le =
    elim (cases_eq i j) [
      | inl same ↦ subst (λ k. get_or (set args j v) k 0 < bound) (sym same) (subst (λ u. u < bound) (sym (get_or-set_same args j v 0 within)) lt)
      | inr other ↦ subst (λ u. u < bound) (sym (get_or-set_other args j i v 0 other)) (small i (omega arith))
    ]

-- ---- a record whose fields equations name

pub small_with : (arch arch' : ℕ) (args args' : List ℕ) (j v : ℕ) → arch' ≡ arch → args' ≡ set args j v → j < length args
    → v < 2 ^ bits_of arch → ((i : ℕ) → i < j → get_or args i 0 < 2 ^ bits_of arch)
    → (i : ℕ) → i < j + 1 → get_or args' i 0 < 2 ^ bits_of arch'
small_with arch arch' args args' j v same_arch same_args within lt small i le =
    subst (λ a. get_or args' i 0 < 2 ^ bits_of a) (sym same_arch)
    (subst (λ xs. get_or xs i 0 < 2 ^ bits_of arch) (sym same_args) (small_set args j v (2 ^ bits_of arch) within lt small i le))

pub not_some : {A : Type 0} (o : Option A) (P : Type 0) → ((x : A) → o ≡ Some x → ⊥) → IfNone o P → P
not_some None P n h = h
not_some (Some a) P n h = absurd (n a refl)
