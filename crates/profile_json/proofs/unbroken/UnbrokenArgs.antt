-- Conditions that are meant: there is one meaning, and it breaks no rule.
use Rattle.std.proofs.Common.{◌≡◌, ℕ, zero, suc, ◌<◌, ◌==◌, not, List, [], ◌∷◌, map, Some, option_map, true, refl, sym, ◌∙◌, ap, subst}
use Rattle.std.proofs.Common.{arith}
use Rattle.std.specs.List.{AllZip, Contains, list_any, slice_get}
use Rattle.std.proofs.lemmas.Bool.Decides.{Decides-eqb}
use Rattle.std.proofs.lemmas.Bool.{and_parts, not-true, or_right}
use Rattle.std.proofs.lemmas.Option.{same_Some, slice_get-map}
use Rattle.serde_json.specs.Data.{Data}
use Rattle.profile.specs.declared.conditions.Op.{Op}
use Rattle.profile.specs.Operator.{are_distinct, mask_of}
use Rattle.profile_json.specs.Keys as key
use Rattle.profile_json.specs.Fault.{Fault}
use Rattle.profile_json.specs.Parts.{CondParts}
use Rattle.profile_json.specs.Lookup.{holds, member, or_default, whole, list}
use Rattle.profile_json.specs.Names.{op_named}
use Rattle.profile_json.specs.Meaning.{ArgMeans, ArgsMean}
use Rattle.profile_json.specs.Breaks.{ArgsBreak, no_list, in_arg, twice}
use Rattle.profile_json.proofs.Lists.{related, related_at, one_related}
use Rattle.profile_json.proofs.reading.Steps.{holds_same, none_some, true_false}
use Rattle.profile_json.proofs.reading.ArgLaws.{arg_unbroken}

-- ---- conditions

cond_of : ℕ → Op → ℕ → ℕ → CondParts
cond_of index op value datum = record { index = index; op = op; value = value; datum = datum }

same_cond : (a b : CondParts) → a.index ≡ b.index → a.op ≡ b.op → a.value ≡ b.value → a.datum ≡ b.datum → a ≡ b
unfolding cond_of
same_cond a b ei eo ev ed =
    ap (λ i. cond_of i a.op a.value a.datum) ei ∙ ap (λ o. cond_of b.index o a.value a.datum) eo
    ∙ ap (λ v. cond_of b.index b.op v a.datum) ev ∙ ap (cond_of b.index b.op b.value) ed

pub one_arg : (d : Data) (a b : CondParts) → ArgMeans d a → ArgMeans d b → a ≡ b
one_arg d a b m n =
    let names : m.op_name ≡ n.op_name = holds_same m.op_name n.op_name (sym m.op_text ∙ n.op_text) in
    let ops : a.op ≡ b.op = same_Some a.op b.op (sym m.op_is ∙ ap op_named names ∙ n.op_is) in
    let values : a.value ≡ b.value = holds_same a.value b.value (sym m.value_is ∙ n.value_is) in
    let seconds : m.second ≡ n.second = same_Some m.second n.second (sym m.second_is ∙ n.second_is) in
    let datums : a.datum ≡ b.datum = m.datum_is ∙ ap (λ x. mask_of x m.second) ops ∙ ap (mask_of b.op) seconds ∙ sym n.datum_is in
    same_cond a b (holds_same a.index b.index (sym m.index_is ∙ n.index_is)) ops values datums

-- ---- `args`

found_at : (xs : List ℕ) (i n : ℕ) → slice_get xs i ≡ Some n → list_any (λ z. z == n) xs ≡ true
found_at [] i n h = cc
found_at (x ∷ xs) zero n h = rw ((Decides-eqb x n).1 (same_Some x n h)) refl
found_at (x ∷ xs) (suc i) n h = or_right (x == n) (list_any (λ z. z == n) xs) (found_at xs i n h)

-- no two of different numbers are the same
distinct_twice : (xs : List ℕ) (i j n : ℕ) → are_distinct xs ≡ true → i < j → slice_get xs i ≡ Some n → slice_get xs j ≡ Some n → ⊥
distinct_twice [] i j n h lt at_i at_j = cc
distinct_twice (x ∷ xs) zero zero n h lt at_i at_j = omega arith
distinct_twice (x ∷ xs) zero (suc j) n h lt at_i at_j =
    let same : x ≡ n = same_Some x n at_i in
    let parts = and_parts (not (list_any (λ z. z == x) xs)) (are_distinct xs) h in
    true_false (list_any (λ z. z == x) xs) (found_at xs j x (at_j ∙ ap Some (sym same))) (not-true (list_any (λ z. z == x) xs) parts.0)
distinct_twice (x ∷ xs) (suc i) zero n h lt at_i at_j = omega arith
distinct_twice (x ∷ xs) (suc i) (suc j) n h lt at_i at_j =
    let parts = and_parts (not (list_any (λ z. z == x) xs)) (are_distinct xs) h in
    distinct_twice xs i j n parts.1 (omega arith) at_i at_j

index_at : (ds : List Data) (cs : List CondParts) (i : ℕ) (x : Data) (n : ℕ) → AllZip ArgMeans ds cs → slice_get ds i ≡ Some x
    → member whole key.index x ≡ holds n → slice_get (map (λ c. c.index) cs) i ≡ Some n
index_at ds cs i x n each at is =
    let c = related_at ArgMeans ds cs i x each at in
    slice_get-map (λ e. e.index) cs i ∙ ap (option_map (λ (e : CondParts). e.index)) c.1
    ∙ ap Some (holds_same c.0.index n (sym c.2.index_is ∙ is))

pub args_unbroken : (d : Data) (cs : List CondParts) (f : Fault) → ArgsMean d cs → ArgsBreak d f → ⊥
args_unbroken d cs _ m (no_list e) = none_some (or_default [] (member list key.args d)) m.values e m.values_are
args_unbroken d cs f m (in_arg ds x _ at in_ds bad) =
    let same : ds ≡ m.values = same_Some ds m.values (sym at ∙ m.values_are) in
    let c = related ArgMeans m.values cs x m.each (subst (λ xs. Contains xs x) same in_ds) in
    arg_unbroken x c.0 f c.1 bad
args_unbroken d cs _ m (twice ds i j x y n at lt at_i at_j is_x is_y) =
    let same : ds ≡ m.values = same_Some ds m.values (sym at ∙ m.values_are) in
    let in_x : slice_get m.values i ≡ Some x = ap (λ xs. slice_get xs i) (sym same) ∙ at_i in
    let in_y : slice_get m.values j ≡ Some y = ap (λ xs. slice_get xs j) (sym same) ∙ at_j in
    distinct_twice (map (λ c. c.index) cs) i j n m.apart lt (index_at m.values cs i x n m.each in_x is_x)
    (index_at m.values cs j y n m.each in_y is_y)

pub one_args : (d : Data) (xs ys : List CondParts) → ArgsMean d xs → ArgsMean d ys → xs ≡ ys
one_args d xs ys m n =
    let same : m.values ≡ n.values = same_Some m.values n.values (sym m.values_are ∙ n.values_are) in
    one_related ArgMeans one_arg n.values xs ys (subst (λ ds. AllZip ArgMeans ds xs) same m.each) n.each
