-- Conditions: what reading gives is meant, and what it refuses is broken.
use Rattle.std.proofs.Common.{◌≡◌, ◌≢◌, ℕ, ◌<◌, ◌==◌, nat_lt, List, map, bit_and, cond, Bool, Result, Ok, Err, Some, None, IsSome, true}
use Rattle.std.proofs.Common.{false, ◌⊎◌, inl, inr, refl, sym, ◌∙◌, ap, subst, arith}
use Rattle.std.specs.Option.{ok_or}
use Rattle.std.specs.List.{list_any}
use Rattle.std.proofs.lemmas.Bool.{ltb-true, ltb-false}
use Rattle.std.proofs.lemmas.Bool.Decides.{Decides-eqb}
use Rattle.std.proofs.lemmas.Option.{same_Some}
use Rattle.serde_json.specs.Data.{Data}
use Rattle.profile.specs.declared.conditions.Op.{Op}
use Rattle.profile.specs.Operator.{mask_of}
use Rattle.profile_json.specs.Keys as key
use Rattle.profile_json.specs.Fault.{Fault, wrong_type, missing_key, unknown_op, bad_index, repeated_index, stray_datum}
use Rattle.profile_json.specs.Parts.{CondParts}
use Rattle.profile_json.specs.Lookup.{Member, missing, other_type, holds, member, or_default, object, text, whole}
use Rattle.profile_json.specs.Names.{op_named}
use Rattle.profile_json.specs.inner.Outcome.{◌>>=◌}
use Rattle.profile_json.specs.inner.Reading.{typed, needed, index_at, op_at, cond_of, arg_of}
use Rattle.profile_json.specs.Meaning.{ArgMeans}
use Rattle.profile_json.specs.Breaks.{ArgBreaks, no_object, index_whole, index_large, value_whole, second_other, op_text, op_unknown, stray}
use Rattle.profile_json.proofs.reading.Steps.{bind_ok, bind_err, ok_or_ok, ok_or_err, cond_ok, cond_err, needed_ok, needed_breaks}
use Rattle.profile_json.proofs.reading.Steps.{needed_unbroken, object_is, object_not, is_some_not_none, holds_same, none_some, true_false}

-- ---- index

abbrev new_index : List CondParts → ℕ → Result ℕ Fault
new_index front i =
    cond (nat_lt i 6) (cond (list_any (λ j. j == i) (map (λ e. e.index) front)) (Err repeated_index) (Ok i)) (Err bad_index)

index_test : (small seen : Bool) (i x : ℕ) → cond small (cond seen (Err repeated_index) (Ok i)) (Err bad_index) ≡ Ok x → (small ≡ true)
    × (seen ≡ false) × (i ≡ x)
index_test true true i x h = cc
index_test true false i x h = (refl, refl, cc)
index_test false seen i x h = cc

index_fault : (small seen : Bool) (i : ℕ) (e : Fault) → cond small (cond seen (Err repeated_index) (Ok i)) (Err bad_index) ≡ Err e
    → ((small ≡ false) × (bad_index ≡ e)) ⊎ ((seen ≡ true) × (repeated_index ≡ e))
index_fault true true i e h = inr (refl, cc)
index_fault true false i e h = cc
index_fault false seen i e h = inl (refl, cc)

-- a small index that no condition in front has
record IsIndex (front : List CondParts) (d : Data) (i : ℕ) : Type 0 where
  is : member whole key.index d ≡ holds i
  small : i < 6
  fresh : list_any (λ j. j == i) (map (λ e. e.index) front) ≡ false

index_ok : (front : List CondParts) (d : Data) (x : ℕ) → index_at front d ≡ Ok x → IsIndex front d x
unfolding index_at
index_ok front d x h =
    let step = bind_ok (needed missing_key (member whole key.index d)) (new_index front) x h in
    let at = index_test (nat_lt step.0 6) (list_any (λ j. j == step.0) (map (λ e. e.index) front)) step.0 x step.2 in
    let found : IsIndex front d step.0 =
    record { is = needed_ok missing_key (member whole key.index d) step.0 step.1; small = ltb-true step.0 6 at.0; fresh = at.1 } in
    subst (IsIndex front d) at.2 found

-- why a member is refused: it breaks a rule, or its index stands in front
pub data Refused (front : List CondParts) (d : Data) : Fault → Type 0 where
  alone : (f : Fault) → ArgBreaks d f → Refused front d f
  repeated : (i : ℕ) → member whole key.index d ≡ holds i → list_any (λ j. j == i) (map (λ e. e.index) front) ≡ true
      → Refused front d repeated_index

index_err : (front : List CondParts) (d : Data) (f : Fault) → IsSome (object d) → index_at front d ≡ Err f → Refused front d f
unfolding index_at
index_err front d f is_object h =
    elim (bind_err (needed missing_key (member whole key.index d)) (new_index front) f h) [
      | inl bad ↦ alone f (index_whole f is_object (needed_breaks (member whole key.index d) f bad))
      | inr step ↦
          let is = needed_ok missing_key (member whole key.index d) step.0 step.1 in
          elim (index_fault (nat_lt step.0 6) (list_any (λ j. j == step.0) (map (λ e. e.index) front)) step.0 f step.2) [
            | inl big ↦ subst (Refused front d) big.1 (alone bad_index (index_large step.0 is (ltb-false step.0 6 big.0)))
            | inr seen ↦ subst (Refused front d) seen.1 (repeated step.0 is seen.0)
          ]
    ]

-- ---- operator

record IsOp (d : Data) (o : Op) : Type 0 where
  name : List ℕ
  is : member text key.op d ≡ holds name
  named : op_named name ≡ Some o

op_ok : (d : Data) (o : Op) → op_at d ≡ Ok o → IsOp d o
unfolding op_at
op_ok d o h =
    let step = bind_ok (needed missing_key (member text key.op d)) (λ name. ok_or (op_named name) unknown_op) o h in
    record {
      name = step.0;
      is = needed_ok missing_key (member text key.op d) step.0 step.1;
      named =
          ok_or_ok (op_named step.0) unknown_op o step.2;
    }

op_err : (d : Data) (f : Fault) → IsSome (object d) → op_at d ≡ Err f → ArgBreaks d f
unfolding op_at
op_err d f is_object h =
    elim (bind_err (needed missing_key (member text key.op d)) (λ name. ok_or (op_named name) unknown_op) f h) [
      | inl bad ↦ op_text f is_object (needed_breaks (member text key.op d) f bad)
      | inr step ↦ (let at = ok_or_err (op_named step.0) unknown_op f step.2 in subst (ArgBreaks d) at.1
          (op_unknown step.0 (needed_ok missing_key (member text key.op d) step.0 step.1) at.0))
    ]

-- ---- a member of `args`

second_none : (d : Data) (m : Member ℕ) → or_default 0 m ≡ None → m ≡ other_type
second_none d missing h = cc
second_none d other_type h = refl
second_none d (holds n) h = cc

parts_of : ℕ → Op → ℕ → ℕ → CondParts
parts_of index op value datum = record { index = index; op = op; value = value; datum = datum }

-- what is read after the second value, the value, and the index
abbrev after_second : Data → ℕ → ℕ → ℕ → Result CondParts Fault
after_second d index value two = op_at d >>= (λ op. cond_of index op value two)

abbrev after_value : Data → ℕ → ℕ → Result CondParts Fault
after_value d index value = typed (or_default 0 (member whole key.value_two d)) >>= after_second d index value

abbrev after_index : Data → ℕ → Result CondParts Fault
after_index d index = needed missing_key (member whole key.value d) >>= after_value d index

abbrev of_object : List CondParts → Data → Result CondParts Fault
of_object front d = index_at front d >>= after_index d

-- the condition that an object says, where its index is not in front
arg_ok_in : (front : List CondParts) (d : Data) (c : CondParts) → IsSome (object d)
    → of_object front d ≡ Ok c
    → ArgMeans d c × (list_any (λ j. j == c.index) (map (λ e. e.index) front) ≡ false)
unfolding cond_of
arg_ok_in front d c is_object h =
    let at_i = bind_ok (index_at front d) (after_index d) c h in
    let at_v = bind_ok (needed missing_key (member whole key.value d)) (after_value d at_i.0) c at_i.2 in
    let at_t = bind_ok (typed (or_default 0 (member whole key.value_two d))) (after_second d at_i.0 at_v.0) c at_v.2 in
    let at_o = bind_ok (op_at d) (λ op. cond_of at_i.0 op at_v.0 at_t.0) c at_t.2 in
    let datum : ℕ = mask_of at_o.0 at_t.0 in
    let made : CondParts = record { index = at_i.0; op = at_o.0; value = at_v.0; datum = datum } in
    let last = cond_ok (bit_and datum (mask_of at_o.0 at_v.0) == datum) stray_datum made c at_o.2 in
    let index = index_ok front d at_i.0 at_i.1 in
    let op = op_ok d at_o.0 at_o.1 in
    let means : ArgMeans d made = record {
      is_object = is_object;
      index_is = index.is;
      index_small = index.small;
      value_is = needed_ok missing_key (member whole key.value d) at_v.0 at_v.1;
      second = at_t.0;
      second_is = ok_or_ok (or_default 0 (member whole key.value_two d)) wrong_type at_t.0 at_t.1;
      op_name = op.name;
      op_text = op.is;
      op_is = op.named;
      datum_is = refl;
      no_stray = (Decides-eqb (bit_and datum (mask_of at_o.0 at_v.0)) datum).0 last.0;
    } in (
      subst (ArgMeans d) last.1 means,
      subst (λ (x : CondParts). list_any (λ j. j == x.index) (map (λ e. e.index) front) ≡ false) last.1
          index.fresh,
    )

pub arg_ok : (front : List CondParts) (d : Data) (c : CondParts) → arg_of front d ≡ Ok c → ArgMeans d c
    × (list_any (λ j. j == c.index) (map (λ e. e.index) front) ≡ false)
unfolding arg_of
arg_ok front d c h =
    let at = bind_ok (typed (object d)) (of_object front) c h in
    let o = object_is d at.0 at.1 in
    let some : IsSome (object at.0) = subst (λ (x : Data). IsSome (object x)) o.1 o.0 in
    subst (λ (x : Data). ArgMeans x c × (list_any (λ j. j == c.index) (map (λ e. e.index) front) ≡ false)) (sym o.1)
    (arg_ok_in front at.0 c some at.2)

arg_err_in : (front : List CondParts) (d : Data) (f : Fault) → IsSome (object d)
    → of_object front d ≡ Err f
    → Refused front d f
unfolding cond_of
arg_err_in front d f is_object h =
    elim (bind_err (index_at front d) (after_index d) f h) [
      | inl bad ↦ index_err front d f is_object bad
      | inr at_i ↦ elim (bind_err (needed missing_key (member whole key.value d)) (after_value d at_i.0) f at_i.2) [
        | inl bad ↦ alone f (value_whole f is_object (needed_breaks (member whole key.value d) f bad))
        | inr at_v ↦ elim (bind_err (typed (or_default 0 (member whole key.value_two d))) (after_second d at_i.0 at_v.0) f at_v.2) [
          | inl bad ↦ (let at = ok_or_err (or_default 0 (member whole key.value_two d)) wrong_type f bad in subst (Refused front d) at.1
              (alone wrong_type (second_other (second_none d (member whole key.value_two d) at.0))))
          | inr at_t ↦ elim (bind_err (op_at d) (λ op. cond_of at_i.0 op at_v.0 at_t.0) f at_t.2) [
            | inl bad ↦ alone f (op_err d f is_object bad)
            | inr at_o ↦
                let datum : ℕ = mask_of at_o.0 at_t.0 in
                let op = op_ok d at_o.0 at_o.1 in
                let last = cond_err (bit_and datum (mask_of at_o.0 at_v.0) == datum) stray_datum f
                (record { index = at_i.0; op = at_o.0; value = at_v.0; datum = datum }) at_o.2 in
                let apart : bit_and datum (mask_of at_o.0 at_v.0) ≢ datum =
                λ (same : bit_and datum (mask_of at_o.0 at_v.0) ≡ datum). true_false (bit_and datum (mask_of at_o.0 at_v.0) == datum)
                ((Decides-eqb (bit_and datum (mask_of at_o.0 at_v.0)) datum).1 same) last.0 in
                let value = needed_ok missing_key (member whole key.value d) at_v.0 at_v.1 in
                let second = ok_or_ok (or_default 0 (member whole key.value_two d)) wrong_type at_t.0 at_t.1 in
                subst (Refused front d) last.1 (alone stray_datum (stray op.name at_o.0 at_v.0 at_t.0 op.is op.named value second apart))
          ]
        ]
      ]
    ]

pub arg_err : (front : List CondParts) (d : Data) (f : Fault) → arg_of front d ≡ Err f → Refused front d f
unfolding arg_of
arg_err front d f h =
    elim (bind_err (typed (object d)) (of_object front) f h) [
      | inl bad ↦ (let at = object_not d f bad in subst (Refused front d) at.1 (alone wrong_type (no_object at.0)))
      | inr at ↦
          let o = object_is d at.0 at.1 in
          let is_object : IsSome (object at.0) = subst (λ (x : Data). IsSome (object x)) o.1 o.0 in
          subst (λ (x : Data). Refused front x f) (sym o.1) (arg_err_in front at.0 f is_object at.2)
    ]

pub arg_unbroken : (d : Data) (c : CondParts) (f : Fault) → ArgMeans d c → ArgBreaks d f → ⊥
arg_unbroken d c _ m (no_object e) = is_some_not_none (object d) m.is_object e
arg_unbroken d c f m (index_whole _ is_object e) = needed_unbroken (member whole key.index d) c.index f m.index_is e
arg_unbroken d c _ m (index_large n at big) =
    let same : c.index ≡ n = holds_same c.index n (sym m.index_is ∙ at) in
    let small = m.index_small in
    omega (arith, same, small, big)
arg_unbroken d c f m (value_whole _ is_object e) = needed_unbroken (member whole key.value d) c.value f m.value_is e
arg_unbroken d c _ m (second_other e) = let both : None ≡ Some m.second = sym (ap (or_default 0) e) ∙ m.second_is in cc
arg_unbroken d c f m (op_text _ is_object e) = needed_unbroken (member text key.op d) m.op_name f m.op_text e
arg_unbroken d c _ m (op_unknown name at e) =
    let same : m.op_name ≡ name = holds_same m.op_name name (sym m.op_text ∙ at) in
    none_some (op_named name) c.op e (ap op_named (sym same) ∙ m.op_is)
arg_unbroken d c _ m (stray name o value second at_o named at_v at_s apart) =
    let names : m.op_name ≡ name = holds_same m.op_name name (sym m.op_text ∙ at_o) in
    let ops : c.op ≡ o = same_Some c.op o (sym m.op_is ∙ ap op_named names ∙ named) in
    let values : c.value ≡ value = holds_same c.value value (sym m.value_is ∙ at_v) in
    let seconds : m.second ≡ second = same_Some m.second second (sym m.second_is ∙ at_s) in
    let datum : c.datum ≡ mask_of o second = m.datum_is ∙ ap (λ x. mask_of x m.second) ops ∙ ap (mask_of o) seconds in
    let masks : mask_of c.op c.value ≡ mask_of o value = ap (λ x. mask_of x c.value) ops ∙ ap (mask_of o) values in
    apart (ap (λ x. bit_and x (mask_of o value)) (sym datum) ∙ ap (bit_and c.datum) (sym masks) ∙ m.no_stray ∙ datum)
