-- How long what is made can become.
use native.Mathlib.Nat.{add-mul, mul-le-mul_right}
use Rattle.std.proofs.Common.{◌≡◌, ◌≤◌, ◌<◌, ◌+◌, ◌*◌, ℕ, zero, suc, List, [], ◌∷◌, ◌++◌, get_or, length, map, take, refl, ap, ◌∙◌, arith}
use Rattle.std.specs.Prelude.{None, Some, Result, Ok, Err, IfErr, slice_get}
use Rattle.std.specs.Result.{IsErrAnd}
use Rattle.std.proofs.lemmas.Result.{err_from_is_err_and}
use Rattle.std.proofs.lemmas.List.{length-append, take-map}
use Rattle.bpf_insn.specs.declared.instruction.Insn.{Insn}
use Rattle.bpf_insn.specs.Bytes.{insns_of}
use Rattle.flatten.specs.declared.unflat.Limit.{Limit}
use Rattle.flatten.specs.declared.unflat.Limit.TheVariants.{OutOfMemory, TooLong}
use Rattle.flatten.specs.declared.unflat.Unflat.{Unflat}
use Rattle.flatten.specs.declared.unflat.Unflat.TheVariants.{Bytes, Made, Refused, Unplain}
use Rattle.flatten.specs.declared.unflat.Unflat.TheVariants.{OutOfMemory as WithoutMemory, TooLong as LongStack}
use Rattle.flatten.specs.Unflat.{CanBeLong, IsOfLength, Says, SaysAt, most_above, most_from, place_of, returns_in}
use Rattle.flatten.specs.inner.Turns.{block, mapped}
use Rattle.flatten.proofs.TurnLaws.{take_found}
use Rattle.flatten.proofs.StackLaws.{says_none}

-- ---- want of memory is not what is too long

clash : {T : Type 0} (r : Result T Limit) (e : Limit) → r ≡ Err e → e ≡ OutOfMemory → r ≡ Err TooLong → ⊥
clash r e is memory long = cc

pub never_long : {T : Type 0} (r : Result T Limit) → IsErrAnd r (λ e. e ≡ OutOfMemory) → r ≡ Err TooLong → ⊥
never_long r h long = let p = err_from_is_err_and r h in clash r p.0 p.1 p.2 long

same_error : {T : Type 0} (r : Result T Limit) (y e : Limit) → r ≡ Err y → y ≡ e → r ≡ Err TooLong → e ≡ TooLong
same_error r y e is same long = cc

pub passed_on : {T : Type 0} (r : Result T Limit) (e : Limit) → IsErrAnd r (λ y. y ≡ e) → r ≡ Err TooLong → e ≡ TooLong
passed_on r e h long = let p = err_from_is_err_and r h in same_error r p.0 e p.1 p.2 long

-- ---- an older filter under a newer verdict

mapped_size : (word : ℕ) (p : List Insn) → length (mapped word p) ≡ length p
mapped_size word [] = refl
mapped_size word (i ∷ p) = ap suc (mapped_size word p)

pub block_size : (older area new : List Insn) (word : ℕ) → new ≡ area ++ block word older → length new ≡ length area + (length older + 2)
block_size older area new word e =
    let whole = ap length e ∙ length-append area (block word older) in
    let own = mapped_size word older in
    omega (arith, whole, own)

-- ---- the returns of a program

returns_append : (p q : List Insn) → returns_in (p ++ q) ≡ returns_in p + returns_in q
returns_append [] q = omega arith
returns_append (i ∷ p) q = let rest = returns_append p q in omega (arith, rest)

found_at : (p : List Insn) (n : ℕ) (d : Insn) → n < length p → slice_get p n ≡ Some (get_or p n d)
found_at [] n d lt = absurd (omega (arith, lt))
found_at (i ∷ p) zero d lt = refl
found_at (i ∷ p) (suc n) d lt = found_at p n d (omega (arith, lt))

returns_more : (p : List Insn) (n : ℕ) (d : Insn) → n < length p
    → returns_in (take (n + 1) p) ≡ returns_in (take n p) + returns_in (get_or p n d ∷ [])
returns_more p n d lt =
    ap returns_in (take_found p n (n + 1) (get_or p n d) (found_at p n d lt) refl) ∙ returns_append (take n p) (get_or p n d ∷ [])

pub returns_most : (p : List Insn) (n : ℕ) → returns_in (take n p) ≤ returns_in p
returns_most p zero = omega arith
returns_most [] (suc n) = omega arith
returns_most (i ∷ p) (suc n) = let rest = returns_most p n in omega (arith, rest)

pub returns_all : (p : List Insn) (n w : ℕ) → returns_in (take n p) * w ≤ returns_in p * w
returns_all p n w = mul-le-mul_right w (returns_most p n)

-- one instruction more, and so the older ones and two more if it returns
grown : (size b c n w new : ℕ) → size ≤ b * w → n ≡ b + c → new ≤ size + c * w → new ≤ n * w
grown size b c n w new had more is =
    let parts : n * w ≡ b * w + c * w = ap (λ k. k * w) more ∙ add-mul b c w in
    omega (arith, parts, had, is)

module _ (newer : List Insn) (place : ℕ) (d : Insn) (w size : ℕ) where
  pub size_more : (new : ℕ) → size ≤ returns_in (take place newer) * w → place < length newer
      → new ≤ size + returns_in (get_or newer place d ∷ []) * w → new ≤ returns_in (take (place + 1) newer) * w
  size_more new had lt is =
      grown size (returns_in (take place newer)) (returns_in (get_or newer place d ∷ [])) (returns_in (take (place + 1) newer)) w new had
      (returns_more newer place d lt) is

  pub long_more : size ≤ returns_in (take place newer) * w → place < length newer
      → 4096 < size + returns_in (get_or newer place d ∷ []) * w → 4096 < returns_in newer * w
  long_more had lt is =
      let new = size + returns_in (get_or newer place d ∷ []) * w in
      let more = size_more new had lt (omega arith) in
      let all = returns_all newer (place + 1) w in
      omega (arith, is, more, all)

-- ---- a stack

pub above_more : (older most : ℕ) (newer : List Insn) → older ≤ most → most_above older newer ≤ most_above most newer
above_more older most newer h =
    let more : (older + 2) * returns_in newer ≤ (most + 2) * returns_in newer = mul-le-mul_right (returns_in newer) (omega (arith, h)) in
    let a : (older + 2) * returns_in newer ≡ returns_in newer * (older + 2) = omega arith in
    let b : (most + 2) * returns_in newer ≡ returns_in newer * (most + 2) = omega arith in
    omega (arith, more, a, b)

most_last : (older : ℕ) (filters : List (List ℕ)) (f : List ℕ) → most_from older (filters ++ f ∷ []) ≡ most_above (most_from older filters) (insns_of f)
most_last older [] f = refl
most_last older (g ∷ filters) f = most_last (most_above older (insns_of g)) filters f

pub most_next : (older new : ℕ) (filters more : List (List ℕ)) (f : List ℕ) → more ≡ filters ++ f ∷ [] → older ≤ most_from 1 filters
    → new ≤ most_above older (insns_of f) → new ≤ most_from 1 more
most_next older new filters more f e had is =
    let last : most_from 1 more ≡ most_above (most_from 1 filters) (insns_of f) = ap (most_from 1) e ∙ most_last 1 filters f in
    let further = above_more older (most_from 1 filters) (insns_of f) had in
    omega (arith, last, further, is)

pub too_long : {V : Type 0} (items : V → List ℕ) (all : List V) (place older : ℕ) (f : List ℕ)
    → map items (take (place + 1) all) ≡ map items (take place all) ++ f ∷ [] → older ≤ most_from 1 (map items (take place all))
    → 4096 < most_above older (insns_of f) → CanBeLong (map items all)
too_long items all place older f e had is =
    let last : most_from 1 (map items (take (place + 1) all)) ≡ most_above (most_from 1 (map items (take place all))) (insns_of f) =
    ap (most_from 1) e ∙ most_last 1 (map items (take place all)) f in
    let further = above_more older (most_from 1 (map items (take place all))) (insns_of f) had in
    let same : most_from 1 (take (place + 1) (map items all)) ≡ most_from 1 (map items (take (place + 1) all)) =
    ap (most_from 1) (take-map items (place + 1) all) in
    (place + 1, omega (arith, last, further, is, same))

pub says : (filters : List (List ℕ)) (e : Unflat) → SaysAt (place_of e) filters e → (e ≡ LongStack → CanBeLong filters) → Says filters e
says filters e at long = (at, of e long) where
  of : (e : Unflat) → (e ≡ LongStack → CanBeLong filters) → IsOfLength filters e
  of (Bytes place fault) h = tt
  of (Refused place why) h = tt
  of (Unplain place at_) h = tt
  of Made h = tt
  of LongStack h = h refl
  of WithoutMemory h = tt

pub unsaid : {T : Type 0} (filters : List (List ℕ)) (r : Result T Unflat) → IfErr r (λ e. place_of e ≡ None) → (r ≡ Err LongStack → ⊥)
    → IfErr r (Says filters)
unsaid filters (Ok made) none short = tt
unsaid filters (Err e) none short = says filters e (says_none filters e none) (λ long. absurd (short (ap Err long)))
