-- The machine answers a record as a filter of calls answers the call of its token and its number.
use Rattle.std.proofs.Common.{◌≡◌, ℕ, zero, suc, Bool, true, false, cond, eqb, List, [], ◌∷◌, length, refl, ap}
use Rattle.std.proofs.Common.{sym, ◌∙◌, subst, arith}
use Rattle.std.specs.Prelude.{Option, Some, None, slice_get, slice_index}
use Rattle.std.specs.Option.{option_map}
use Rattle.std.specs.List.{All, Any}
use Rattle.std.proofs.lemmas.Bool.{eqb-true}
use Rattle.std.proofs.lemmas.List.Elements.{All-contains, All-nil}
use Rattle.std.proofs.lemmas.Option.{none-some, same_Some, slice_get-get_or}
use Rattle.bpf_insn.specs.declared.code.Operand.TheVariants.{K}
use Rattle.bpf_insn.specs.declared.code.Test.{Test}
use Rattle.bpf_insn.specs.declared.code.Test.TheVariants.{Equal, AtLeast}
use Rattle.bpf_insn.specs.declared.code.Operation.{Operation}
use Rattle.bpf_insn.specs.declared.code.Operation.TheVariants.{LoadWord, ReturnK, Jump, Branch}
use Rattle.bpf_insn.specs.declared.instruction.Insn.{Insn}
use Rattle.bpf_insn.specs.Code.{operation_of}
use Rattle.bpf_insn.specs.Machine.{Registers, Ending, after_one, ending, follow, holds, loaded, perform_if, start, verdict_of, word_at}
use Rattle.call_record.specs.Words.{IsRecord, word}
use Rattle.machines.specs.Numbers.{HasCall}
use Rattle.profile.specs.declared.conditions.Cond.{Cond}
use Rattle.profile.specs.declared.rules.Rule.{Rule}
use Rattle.profile.specs.Condition.{Meets}
use Rattle.profile.specs.Rule.{argument_of, Matches}
use Rattle.profile.specs.Policy.{IsNative, Policy, Says}
use Rattle.profile.specs.Said.{said}
use Rattle.profile.proofs.SaidLaws.{each_record_is_said_one_verdict}
use Rattle.rule_compile.specs.Moves.{Goes, move_at}
use Rattle.rule_compile.specs.Shape.{IsCallFilter, IsPlain, IsPlainRule, answer, answer_by, call}
use Rattle.cert_check.specs.Right.{IsRight}
use Rattle.rule_compile.proofs.RangeLaws.{call_is_record}

given_after : (e : Ending) → option_map (λ (end : ℕ × ℕ). end.0) (after_one e) ≡ option_map (λ (end : ℕ × ℕ). end.0) e
given_after None = refl
given_after (Some end) = refl

-- A holds what the answer says that it holds, of a record with these words
abbrev HeldBy : Option ℕ → List ℕ → Registers → Type 0
HeldBy None q s = Unit {0}
HeldBy (Some w) q s = s.a ≡ slice_index q w

-- the record r has sixteen words, and the first two of q
record IsLike (r q : List ℕ) : Type 0 where
  whole : length r ≡ 16
  number : slice_index r 0 ≡ slice_index q 0
  machine : slice_index r 1 ≡ slice_index q 1

-- from one instruction on the machine gives the verdict
abbrev Agrees : (rest : ℕ → Option ℕ → Option ℕ) → (run : ℕ → Registers → Ending) → List ℕ → Type 0
Agrees rest run q = (skip : ℕ) (now : Option ℕ) (t : Registers) (v : ℕ) → HeldBy now q t → rest skip now ≡ Some v
    → option_map (λ (end : ℕ × ℕ). end.0) (run skip t) ≡ Some v

module _ (r q : List ℕ) (like : IsLike r q) (i : Insn) (s : Registers) (v : ℕ) (rest : ℕ → Option ℕ → Option ℕ)
    (run : ℕ → Registers → Ending) (agrees : Agrees rest run q) where
  first_word : slice_get r 0 ≡ Some (slice_index q 0)
  first_word = slice_get-get_or r 0 0 (omega (arith, like.whole)) ∙ ap Some like.number

  second_word : slice_get r 1 ≡ Some (slice_index q 1)
  second_word = slice_get-get_or r 1 0 (omega (arith, like.whole)) ∙ ap Some like.machine

  -- the rest, after one instruction
  goes_on : (skip : ℕ) (now : Option ℕ) (t : Registers) → HeldBy now q t → rest skip now ≡ Some v
      → option_map (λ (end : ℕ × ℕ). end.0) (after_one (run skip t)) ≡ Some v
  goes_on skip now t holding e = given_after (run skip t) ∙ agrees skip now t v holding e

  loads_word : (k w : ℕ) → word_at r k ≡ Some (slice_index q w) → rest 0 (Some w) ≡ Some v
      → option_map (λ (end : ℕ × ℕ). end.0) (follow (loaded s (word_at r k)) run) ≡ Some v
  loads_word k w is e =
      ap (λ o. option_map (λ (end : ℕ × ℕ). end.0) (follow (loaded s o) run)) is
      ∙ goes_on 0 (Some w) (record s { a = slice_index q w }) refl e

  load_by : (held : Option ℕ) (a b : Bool) → eqb i.k 0 ≡ a → eqb i.k 4 ≡ b
      → answer_by (cond a (Some (Goes 0 (Some 0))) (cond b (Some (Goes 0 (Some 1))) None)) i q rest ≡ Some v
      → option_map (λ (end : ℕ × ℕ). end.0) (follow (loaded s (word_at r i.k)) run) ≡ Some v
  load_by held true b is_a is_b e = loads_word i.k 0 (ap (word_at r) (eqb-true i.k 0 is_a) ∙ first_word) e
  load_by held false true is_a is_b e = loads_word i.k 1 (ap (word_at r) (eqb-true i.k 4 is_b) ∙ second_word) e
  load_by held false false is_a is_b e = absurd (none-some v e)

  branch_by : (test : Test) (w : ℕ) → s.a ≡ slice_index q w
      → rest (cond (holds test (slice_index q w) i.k) i.jt i.jf) (Some w) ≡ Some v
      → option_map (λ (end : ℕ × ℕ). end.0) (after_one (run (cond (holds test s.a i.k) i.jt i.jf) s)) ≡ Some v
  branch_by test w is e =
      goes_on (cond (holds test s.a i.k) i.jt i.jf) (Some w) s is
      (ap (λ n. rest (cond (holds test n i.k) i.jt i.jf) (Some w)) is ∙ e)

  by : (o : Option Operation) (held : Option ℕ) → HeldBy held q s → answer_by (move_at o i.k held) i q rest ≡ Some v
      → option_map (λ (end : ℕ × ℕ). end.0) (follow (perform_if o r i s) run) ≡ Some v
  by None held holding e = absurd (none-some v e)
  by (Some ReturnK) held holding e = e
  by (Some Jump) held holding e = goes_on i.k held s holding e
  by (Some LoadWord) held holding e = load_by held (eqb i.k 0) (eqb i.k 4) refl refl e
  by (Some (Branch Equal K)) (Some w) holding e = branch_by Equal w holding e
  by (Some (Branch AtLeast K)) (Some w) holding e = branch_by AtLeast w holding e
  by (Some (Branch Equal K)) None holding e = absurd (none-some v e)
  by (Some (Branch AtLeast K)) None holding e = absurd (none-some v e)
  by (Some _) held holding e = absurd (none-some v e)

gives : (p : List Insn) (pc : ℕ) (held : Option ℕ) (r q : List ℕ) (s : Registers) (v : ℕ) → IsLike r q → HeldBy held q s
    → answer p pc held q ≡ Some v → option_map (λ (end : ℕ × ℕ). end.0) (ending p pc s r) ≡ Some v
gives [] pc held r q s v like holding e = absurd (none-some v e)
gives (i ∷ p) (suc pc) held r q s v like holding e = gives p pc held r q s v like holding e
gives (i ∷ p) zero held r q s v like holding e =
    by r q like i s v (λ skip now. answer p skip now q) (λ skip t. ending p skip t r)
    (λ skip now t w known told. gives p skip now r q t w like known told) (operation_of i.code) held holding e

-- ---- what a profile without conditions says is said of the number and the machine

module _ (policy : Policy) (r q : List ℕ) (number : slice_index r 0 ≡ slice_index q 0) (machine : slice_index r 1 ≡ slice_index q 1) where
  native_like : IsNative policy r → IsNative policy q
  native_like n =
      subst (λ u. Any (HasCall (word q 1) u) policy.machines) number
      (subst (λ t. Any (HasCall t (word r 0)) policy.machines) machine n)

  matches_like : (rule : Rule) → rule.conds.items ≡ [] → Matches rule r → Matches rule q
  matches_like rule none m = record {
    machine = sym machine ∙ m.machine;
    number = sym number ∙ m.number;
    conditions =
        let P : Cond → Type 0 = λ c. Meets c (argument_of q c.index) in
        subst (All P) (sym none) (All-nil P);
  }

says_like : (policy : Policy) (r q : List ℕ) (v : ℕ) → IsPlain policy → slice_index r 0 ≡ slice_index q 0
    → slice_index r 1 ≡ slice_index q 1 → Says policy q v → Says policy r v
says_like policy r q v plain number machine says = record {
  foreign = λ not. says.foreign (λ n. not (native_like policy q r (sym number) (sym machine) n));
  matched = λ n rule has m.
      says.matched (native_like policy r q number machine n) rule has
      (matches_like policy r q number machine rule (All-contains IsPlainRule policy.rules rule plain.rules has).0 m);
  unmatched = λ n none.
      says.unmatched (native_like policy r q number machine n)
      (λ k d within m. none k d within (matches_like policy q r (sym number) (sym machine) _ (plain.rules k d within).0 m));
}

-- ---- a filter of the shape is right

pub right : (policy : Policy) (p : List Insn) → IsPlain policy → IsCallFilter policy p → IsRight policy p
right policy p plain shape r rec v =
    let t = word r 1 in
    let u = word r 0 in
    let q = call t u in
    let small : IsRecord q = call_is_record t u (rec.words 1) (rec.words 0) in
    let like : IsLike r q = record { whole = rec.length_is; number = refl; machine = refl } in
    let gives_it : verdict_of p r ≡ Some (said policy q) =
    gives p 0 None r q start (said policy q) like tt (shape.answers t u (rec.words 1) (rec.words 0)) in
    let says_it : Says policy r (said policy q) =
    says_like policy r q (said policy q) plain refl refl ((each_record_is_said_one_verdict policy q (said policy q) plain.clear small).1 refl) in
    let one = each_record_is_said_one_verdict policy r v plain.clear rec in
    let its = each_record_is_said_one_verdict policy r (said policy q) plain.clear rec in (
      λ is. subst (Says policy r) (same_Some (said policy q) v (sym gives_it ∙ is)) says_it,
      λ told. gives_it ∙ ap Some (its.0 says_it ∙ sym (one.0 told)),
    )
