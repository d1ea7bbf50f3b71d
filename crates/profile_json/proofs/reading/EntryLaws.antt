-- Entries: what reading gives is meant, and what it refuses is broken.
use Rattle.std.proofs.Common.{◌≡◌, ℕ, ◌<◌, ◌==◌, nat_lt, List, [], ◌∷◌, ◌++◌, length, map, cond, ◌||◌, Result, Ok, Err, Some}
use Rattle.std.proofs.Common.{IsSome}
use Rattle.std.proofs.Common.{true, false, ◌⊎◌, inl, inr, refl, sym, ◌∙◌, ap, subst, arith}
use Rattle.std.specs.List.{AllZip, list_any}
use Rattle.std.proofs.lemmas.Bool.{cases_Bool, eqb-true, ltb-false}
use Rattle.std.proofs.Math.Bool.{or-false}
use Rattle.std.proofs.lemmas.List.Folds.{list_any-append}
use Rattle.std.proofs.lemmas.Bool.Decides.{nat_tests}
use Rattle.std.proofs.lemmas.List.{append_assoc, append-nil, map_push}
use Rattle.serde_json.specs.Data.{Data}
use Rattle.machines.specs.declared.arch.Family.{Family}
use Rattle.profile.specs.Operator.{are_distinct}
use Rattle.profile_json.specs.Keys as key
use Rattle.profile_json.specs.Fault.{Fault, wrong_type, missing_key, unknown_call, empty_names, too_many}
use Rattle.profile_json.specs.Parts.{CondParts, EntryParts}
use Rattle.profile_json.specs.Lookup.{member, or_default, object, text, list}
use Rattle.profile_json.specs.Names.{is_known, most_entries, most_names}
use Rattle.profile_json.specs.CallName.{short_name}
use Rattle.profile_json.specs.inner.Outcome.{◌>>=◌}
use Rattle.profile_json.specs.inner.Reading.{typed, needed, is_empty, each, arg_of, args_after, args_of, name_of, names_of, entry_verdict}
use Rattle.profile_json.specs.inner.Reading.{entry_of, entries_of}
use Rattle.profile_json.specs.Meaning.{VerdictMeans, ArgMeans, ArgsMean, NamesMean, EntryMeans, EntriesMean}
use Rattle.profile_json.specs.Breaks.{VerdictBreaks, NameBreaks}
use Rattle.profile_json.specs.Breaks as broken
use Rattle.profile_json.proofs.reading.Conditions.{distinct_push}
use Rattle.profile_json.proofs.reading.ActionLaws.{verdict_means, verdict_breaks}
use Rattle.profile_json.proofs.reading.ArgLaws.{arg_ok}
use Rattle.profile_json.proofs.reading.Steps.{bind_ok, bind_err, ok_or_ok, ok_or_err, cond_ok, cond_err, guard_ok, needed_ok}
use Rattle.profile_json.proofs.reading.Steps.{object_is, each_ok, ok_same}

-- ---- the list of conditions

indexes_push : (front : List CondParts) (c : CondParts) → map (λ x. x.index) (front ++ c ∷ []) ≡ map (λ x. x.index) front ++ c.index ∷ []
indexes_push front c = map_push (λ (x : CondParts). x.index) front c

apart_push : (front : List CondParts) (c : CondParts) → are_distinct (map (λ x. x.index) front) ≡ true
    → list_any (λ j. j == c.index) (map (λ x. x.index) front) ≡ false → are_distinct (map (λ x. x.index) (front ++ c ∷ [])) ≡ true
apart_push front c h e = rw (indexes_push front c) (distinct_push (map (λ x. x.index) front) c.index h e)

-- what is read after the conditions in front
record After (front : List CondParts) (ds : List Data) (conds : List CondParts) : Type 0 where
  own : List CondParts
  all : conds ≡ front ++ own
  each : AllZip ArgMeans ds own
  apart : are_distinct (map (λ x. x.index) front) ≡ true → are_distinct (map (λ x. x.index) conds) ≡ true

args_ok : (front : List CondParts) (ds : List Data) (conds : List CondParts) → args_after front ds ≡ Ok conds → After front ds conds
args_ok front [] conds h =
    let same : front ≡ conds = ok_same front conds h in
    record {
      own = [];
      all = sym same ∙ sym (append-nil front);
      each = tt;
      apart =
          λ p. subst (λ xs. are_distinct (map (λ x. x.index) xs) ≡ true) same p;
    }
args_ok front (d ∷ ds) conds h =
    let step = bind_ok (arg_of front d) (λ c. args_after (front ++ c ∷ []) ds) conds h in
    let arg = arg_ok front d step.0 step.1 in
    let rest : After (front ++ step.0 ∷ []) ds conds = args_ok (front ++ step.0 ∷ []) ds conds step.2 in
    record {
      own = step.0 ∷ rest.own;
      all = rest.all ∙ append_assoc front (step.0 ∷ []) rest.own;
      each = (arg.0, rest.each);
      apart = λ p. rest.apart (apart_push front step.0 p arg.1);
    }

-- a number that is in a list with one more is in the list, or is that one
pub seen_push : (xs : List ℕ) (y n : ℕ) → list_any (λ j. j == n) (xs ++ y ∷ []) ≡ true → (list_any (λ j. j == n) xs ≡ true) ⊎ (y ≡ n)
seen_push xs y n h =
    elim (cases_Bool (list_any (λ j. j == n) xs)) [
      | inl before ↦ inl before
      | inr new ↦
          let last : ((y == n) || false) ≡ true = sym (ap (λ b. b || list_any (λ j. j == n) (y ∷ [])) new)
          ∙ sym (list_any-append (λ j. j == n) xs (y ∷ [])) ∙ h in
          inr (eqb-true y n (sym (or-false (y == n)) ∙ last))
    ]

args_mean : (d : Data) (conds : List CondParts) → args_of d ≡ Ok conds → ArgsMean d conds
unfolding args_of
args_mean d conds h =
    let step = bind_ok (typed (or_default [] (member list key.args d))) (λ ds. args_after [] ds) conds h in
    let after : After [] step.0 conds = args_ok [] step.0 conds step.2 in
    record {
      values = step.0;
      values_are = ok_or_ok (or_default [] (member list key.args d)) wrong_type step.0 step.1;
      each = subst (AllZip ArgMeans step.0) (sym after.all) after.each;
      apart = after.apart refl;
    }

-- ---- names

name_ok : (family : Family) (d : Data) (name : List ℕ) → name_of family d ≡ Ok name → (text d ≡ Some name) × (is_known family name ≡ true)
unfolding name_of
name_ok family d name h =
    let step = bind_ok (typed (text d)) (λ n. cond (is_known family n) (Ok n) (Err (unknown_call (short_name n)))) name h in
    let known = cond_ok (is_known family step.0) (unknown_call (short_name step.0)) step.0 name step.2 in
    (ok_or_ok (text d) wrong_type step.0 step.1 ∙ ap Some known.1, ap (is_known family) (sym known.1) ∙ known.0)

pub name_err : (family : Family) (d : Data) (f : Fault) → name_of family d ≡ Err f → NameBreaks family d f
unfolding name_of
name_err family d f h =
    elim (bind_err (typed (text d)) (λ n. cond (is_known family n) (Ok n) (Err (unknown_call (short_name n)))) f h) [
      | inl bad ↦ (let at = ok_or_err (text d) wrong_type f bad in subst (NameBreaks family d) at.1 (broken.NameBreaks.no_text at.0))
      | inr step ↦ (let at = cond_err (is_known family step.0) (unknown_call (short_name step.0)) f step.0 step.2 in subst (NameBreaks family d) at.1
          (broken.NameBreaks.unknown step.0 (ok_or_ok (text d) wrong_type step.0 step.1) at.0))
    ]

not_zero : (n : ℕ) → (n == 0) ≡ false → 0 < n
not_zero n h = grind (arith, nat_tests)

names_mean : (family : Family) (d : Data) (names : List (List ℕ)) → names_of family d ≡ Ok names → NamesMean family d names
unfolding names_of
names_mean family d names h =
    let step = bind_ok (needed missing_key (member list key.names d))
    (λ ds. cond (is_empty ds) (Err empty_names) (cond (nat_lt (most_names family) (length ds)) (Err too_many) (each (name_of family) ds))) names h in
    let some = guard_ok (is_empty step.0) empty_names (cond (nat_lt (most_names family) (length step.0)) (Err too_many) (each (name_of family) step.0)) names
    step.2 in
    let few = guard_ok (nat_lt (most_names family) (length step.0)) too_many (each (name_of family) step.0) names some.1 in
    record {
      values = step.0;
      values_are = needed_ok missing_key (member list key.names d) step.0 step.1;
      some = not_zero (length step.0) some.0;
      few = ltb-false (most_names family) (length step.0) few.0;
      each = each_ok (name_of family) _ (name_ok family) step.0 names few.1;
    }

-- ---- an entry

entry_verdict_means : (family : Family) (d : Data) (w : ℕ) → entry_verdict family d ≡ Ok w → VerdictMeans family key.action key.errno_ret d w
unfolding entry_verdict
entry_verdict_means family d w h = verdict_means family key.action key.errno_ret d w h

pub entry_verdict_breaks : (family : Family) (d : Data) (f : Fault) → entry_verdict family d ≡ Err f → VerdictBreaks family key.action key.errno_ret d f
unfolding entry_verdict
entry_verdict_breaks family d f h = verdict_breaks family key.action key.errno_ret d f h

parts : List (List ℕ) → ℕ → List CondParts → EntryParts
parts names word conds = record { names = names; conds = conds; word = word }

-- what is read after the verdict and the names
after_verdict : Data → List (List ℕ) → ℕ → Result EntryParts Fault
after_verdict d names word = args_of d >>= (λ conds. Ok (parts names word conds))

after_names : Family → Data → List (List ℕ) → Result EntryParts Fault
after_names family d names = entry_verdict family d >>= after_verdict d names

entry_ok_in : (family : Family) (d : Data) (e : EntryParts) → IsSome (object d) → (names_of family d >>= after_names family d) ≡ Ok e → EntryMeans family d e
unfolding after_names after_verdict parts
entry_ok_in family d e is_object h =
    let at_n = bind_ok (names_of family d) (after_names family d) e h in
    let at_w = bind_ok (entry_verdict family d) (after_verdict d at_n.0) e at_n.2 in
    let at_c = bind_ok (args_of d) (λ conds. Ok (parts at_n.0 at_w.0 conds)) e at_w.2 in
    let means : EntryMeans family d (parts at_n.0 at_w.0 at_c.0) = record {
      is_object = is_object;
      names = names_mean family d at_n.0 at_n.1;
      verdict_is = entry_verdict_means family d at_w.0 at_w.1;
      args = args_mean d at_c.0 at_c.1;
    } in
    subst (EntryMeans family d) (ok_same (parts at_n.0 at_w.0 at_c.0) e at_c.2) means

entry_means : (family : Family) (d : Data) (e : EntryParts) → entry_of family d ≡ Ok e → EntryMeans family d e
unfolding entry_of after_names after_verdict parts
entry_means family d e h =
    let at = bind_ok (typed (object d)) (λ o. names_of family o >>= after_names family o) e h in
    let o = object_is d at.0 at.1 in
    let some : IsSome (object at.0) = subst (λ (x : Data). IsSome (object x)) o.1 o.0 in
    subst (λ (x : Data). EntryMeans family x e) (sym o.1) (entry_ok_in family at.0 e some at.2)

pub entries_mean : (family : Family) (s : Data) (es : List EntryParts) → entries_of family s ≡ Ok es → EntriesMean family s es
unfolding entries_of
entries_mean family s es h =
    let step = bind_ok (typed (or_default [] (member list key.syscalls s)))
    (λ ds. cond (nat_lt (most_entries family) (length ds)) (Err too_many) (each (entry_of family) ds)) es h in
    let few = guard_ok (nat_lt (most_entries family) (length step.0)) too_many (each (entry_of family) step.0) es step.2 in
    record {
      values = step.0;
      values_are = ok_or_ok (or_default [] (member list key.syscalls s)) wrong_type step.0 step.1;
      few = ltb-false (most_entries family) (length step.0) few.0;
      each = each_ok (entry_of family) (EntryMeans family) (entry_means family) step.0 es few.1;
    }
