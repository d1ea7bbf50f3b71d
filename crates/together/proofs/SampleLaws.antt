-- Arguments that stand for all others.
use Rattle.std.proofs.Common.{◌≡◌, ℕ, zero, suc, ◌+◌, ◌*◌, ◌<◌, ◌^◌, inl, inr, List, [], ◌∷◌, length, map, get_or, set, refl, sym, ◌∙◌, ap, subst, arith}
use Rattle.std.specs.List.{All, Contains, flat_map}
use Rattle.std.proofs.lemmas.Bool.{cases_eq}
use Rattle.std.proofs.lemmas.List.{get_or-map, get_or-set_same, get_or-set_other, length-append, length-map, length-set}
use Rattle.std.proofs.lemmas.Nat.{pow_pos}
use Rattle.call_record.specs.Words.{words_from}
use Rattle.profile.specs.declared.conditions.Cond.{Cond}
use Rattle.std.proofs.lemmas.List.Elements.{All-append, All-contains, All-cons, All-head, All-map, All-nil, All-tail, Contains-append_left, Contains-append_right}
use Rattle.profile.specs.Policy.{Policy}
use Rattle.profile.specs.Rule.{argument_of}
use Rattle.differ.specs.Cells.{AreAlike, AreCells}
use Rattle.differ.specs.OnCall.{IsOfCall, bits_of}
use Rattle.differ.specs.declared.named.Call.{Call}
use Rattle.differ.proofs.WalkLaws.{argument_below, has_itself}
use Rattle.together.specs.declared.way.Way.{Way}
use Rattle.together.specs.OnCall.{AgreesAt, AgreesOnCall, AreArguments, AreSamples, AreWays, IsLike, conditions_of, widened}
use Rattle.together.specs.OnCall.AreWays.{more}
use Rattle.together.proofs.SaidLaws.{agree_alike}

-- ---- lists

contains_map : {X Y : Type 0} (f : X → Y) (xs : List X) (x : X) → Contains xs x → Contains (map f xs) (f x)
contains_map f xs x h =
    let lt = h.1 in
    let long : length (map f xs) ≡ length xs = length-map xs f in
    (h.0, omega arith, get_or-map f xs h.0 x (f x) lt ∙ ap f h.2)

contains_flat : {X Y : Type 0} (f : X → List Y) (xs : List X) (x : X) (y : Y) (k : ℕ) → k < length xs → get_or xs k x ≡ x → Contains (f x) y
    → Contains (flat_map f xs) y
contains_flat f [] x y k lt at has = absurd (omega arith)
contains_flat f (z ∷ xs) x y zero lt at has = Contains-append_left (f z) (flat_map f xs) y (subst (λ w. Contains (f w) y) (sym at) has)
contains_flat f (z ∷ xs) x y (suc k) lt at has =
    Contains-append_right (f z) (flat_map f xs) y (contains_flat f xs x y k (omega arith) at has)

all_flat : {X Y : Type 0} (P : Y → Type 0) (f : X → List Y) (xs : List X) → All (λ x. All P (f x)) xs → All P (flat_map f xs)
all_flat P f [] h = All-nil P
all_flat {X} P f (x ∷ xs) h =
    let Q : X → Type 0 = λ z. All P (f z) in
    All-append P (f x) (flat_map f xs) (All-head Q x xs h) (all_flat P f xs (All-tail Q x xs h))

-- ---- one argument more

set_fits : (call : Call) (args : List ℕ) (n v : ℕ) → n < 6 → v < 2 ^ bits_of call.token → AreArguments call args → AreArguments call (set args n v)
set_fits call args n v lt small fit =
    let six = fit.six in
    record {
      six = length-set args n v ∙ six;
      small = λ j. elim (cases_eq j n) [
        | inl same ↦
            subst (λ i. get_or (set args n v) i 0 < 2 ^ bits_of call.token) (sym same)
            (subst (λ u. u < 2 ^ bits_of call.token) (sym (get_or-set_same args n v 0 (omega arith))) small)
        | inr other ↦ subst (λ u. u < 2 ^ bits_of call.token) (sym (get_or-set_other args n j v 0 other)) (fit.small j)
      ];
    }

like_set : (ps : List Policy) (q : Policy) (call : Call) (n v : ℕ) (r args : List ℕ) → n < length args
    → AreAlike (conditions_of ps q call n) (argument_of r n) v → IsLike ps q call n r args → IsLike ps q call (n + 1) r (set args n v)
like_set ps q call n v r args within here before = λ j lt. elim (cases_eq j n) [
  | inl same ↦
      subst (λ i. AreAlike (conditions_of ps q call i) (argument_of r i) (get_or (set args n v) i 0)) (sym same)
      (subst (λ u. AreAlike (conditions_of ps q call n) (argument_of r n) u) (sym (get_or-set_same args n v 0 within)) here)
  | inr other ↦
      subst (λ u. AreAlike (conditions_of ps q call j) (argument_of r j) u) (sym (get_or-set_other args n j v 0 other)) (before j (omega arith))
]

pub widen : (ps : List Policy) (q : Policy) (call : Call) (n bits : ℕ) (conds : List Cond) (values : List ℕ) (samples : List (List ℕ)) → n < 6
    → bits ≡ bits_of call.token → conds ≡ conditions_of ps q call n → AreCells conds bits values → AreSamples ps q call n samples
    → AreSamples ps q call (n + 1) (widened n values samples)
widen ps q call n bits conds values samples lt width are cells old = record {
  fit =
      all_flat (AreArguments call) (λ args. map (λ v. set args n v) values) samples
      (λ k d within. All-map (AreArguments call) (λ v. set (get_or samples k d) n v) values
      (λ i e inside. set_fits call (get_or samples k d) n (get_or values i e) lt
      (subst (λ b. get_or values i e < 2 ^ b) width (cells.within i e inside)) (old.fit k d within)));
  each = λ r of.
      let from = old.each r of in
      let args = from.0 in
      let u = argument_of r n in
      let below : u < 2 ^ bits = subst (λ b. u < 2 ^ b) (sym width) (argument_below call.token call.nr r n of) in
      let met = cells.each_is_met u below in
      let v = met.0 in
      let alike : AreAlike (conditions_of ps q call n) u v = subst (λ cs. AreAlike cs u v) are met.2 in
      let six = (All-contains (AreArguments call) samples args old.fit from.1).six in (
        set args n v,
        contains_flat (λ xs. map (λ w. set xs n w) values) samples args (set args n v) from.1.0 from.1.1 from.1.2 (contains_map (λ w. set args n w) values v met.1),
        like_set ps q call n v r args (omega arith) alike from.2,
      );
}

-- ---- how many there are

pub length_widened : (n : ℕ) (values : List ℕ) (samples : List (List ℕ)) → length (widened n values samples) ≡ length samples * length values
length_widened n values [] = omega arith
length_widened n values (args ∷ samples) =
    let own : List (List ℕ) = map (λ v. set args n v) values in
    let sum : length (widened n values (args ∷ samples)) ≡ length own + length (widened n values samples) =
    length-append own (widened n values samples) in
    let first : length own ≡ length values = length-map values (λ v. set args n v) in
    let rest : length (widened n values samples) ≡ length samples * length values = length_widened n values samples in
    omega arith

-- one argument more
pub more_ways : (ps : List Policy) (q : Policy) (call : Call) (j n bits : ℕ) (conds : List Cond) (values : List ℕ) → bits ≡ bits_of call.token
    → conds ≡ conditions_of ps q call j → AreCells conds bits values → AreWays ps q call j n → AreWays ps q call (j + 1) (n * length values)
more_ways ps q call j n bits conds values width are cells ways =
    more j n values ways (subst (λ cs. AreCells cs (bits_of call.token) values) are (subst (λ b. AreCells conds b values) width cells))

-- ---- none yet

small_zeros : (bits j : ℕ) → get_or (0 ∷ 0 ∷ 0 ∷ 0 ∷ 0 ∷ 0 ∷ []) j 0 < 2 ^ bits
small_zeros bits zero = pow_pos bits
small_zeros bits (suc zero) = pow_pos bits
small_zeros bits (suc (suc zero)) = pow_pos bits
small_zeros bits (suc (suc (suc zero))) = pow_pos bits
small_zeros bits (suc (suc (suc (suc zero)))) = pow_pos bits
small_zeros bits (suc (suc (suc (suc (suc zero))))) = pow_pos bits
small_zeros bits (suc (suc (suc (suc (suc (suc j)))))) = pow_pos bits

pub begin : (ps : List Policy) (q : Policy) (call : Call) (samples : List (List ℕ)) → samples ≡ (0 ∷ 0 ∷ 0 ∷ 0 ∷ 0 ∷ 0 ∷ []) ∷ []
    → AreSamples ps q call 0 samples
begin ps q call samples are =
    let zeros : List ℕ = 0 ∷ 0 ∷ 0 ∷ 0 ∷ 0 ∷ 0 ∷ [] in
    subst (AreSamples ps q call 0) (sym are)
    (record {
      fit = All-cons (AreArguments call) zeros [] (record { six = refl; small = small_zeros (bits_of call.token) }) (All-nil (AreArguments call));
      each = λ r of. (zeros, (0, omega arith, refl), λ j lt. absurd (omega arith));
    })

-- ---- all arguments

-- where q says what counts of each sample, it says so of each record of the call
pub by_samples : (way : Way) (ps : List Policy) (q : Policy) (call : Call) (samples : List (List ℕ)) → AreSamples ps q call 6 samples
    → All (AgreesAt way ps q call) samples
    → AgreesOnCall way ps q call.token call.nr
by_samples way ps q call samples are agree = λ r of.
    let from = are.each r of in
    let args = from.0 in
    let s : List ℕ = words_from call.nr call.token 0 args in
    let here = All-contains (AgreesAt way ps q call) samples args agree from.1 in
    let fit = All-contains (AreArguments call) samples args are.fit from.1 in
    let of_s : IsOfCall call.token call.nr s = record { is_record = here.is_record; machine = refl; number = refl } in
    let same = has_itself call.nr call.token 0 args 6 (λ j lt. fit.small j) in
    agree_alike way call ps q r s of of_s
    (λ j lt. subst (λ u. AreAlike (conditions_of ps q call j) (argument_of r j) u) (sym (same j lt)) (from.2 j lt)) here.agrees
