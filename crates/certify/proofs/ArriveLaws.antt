-- The edges of a node that lead to nodes which say no more than is known on the way.
use Rattle.std.proofs.Common.{◌≡◌, ℕ, ◌<◌, List, [], ◌∷◌, ◌++◌, get_or}
use Rattle.std.proofs.Common.{sym, ap, subst, ◌∙◌, inl, inr, ⊎_elim}
use Rattle.std.specs.Prelude.{Option, Some, slice_get, slice_index_or, Contains, option_to_list, All}
use Rattle.std.proofs.lemmas.Option.{same_Some, get_or_from_slice_get}
use Rattle.std.proofs.lemmas.List.Elements.{All-cons, All-nil, Contains-append_left, Contains-append_right, Contains-append_cases}
use Rattle.bpf_insn.specs.declared.instruction.Insn.{Insn}
use Rattle.profile.specs.Policy.{Policy}
use Rattle.cert_state.specs.declared.literal.Lit.{Lit}
use Rattle.cert_state.specs.declared.literal.AVal.{AVal}
use Rattle.cert_state.specs.declared.literal.AVal.TheVariants.{Unknown}
use Rattle.cert_state.specs.declared.literal.Regs.{Regs}
use Rattle.cert_state.specs.Entailment.{Entails, IsDead}
use Rattle.cert_form.specs.declared.node.Kind.TheVariants.{Dead}
use Rattle.cert_form.specs.Nodes.{PlainNode}
use Rattle.cert_check.specs.Rules.{IsOutOn, IsMetBy, Edge, known_on, Allows, Carries, EdgeRule, EntailRule}
use Rattle.cert_check.specs.Rules.{edges}
use Rattle.cert_check.proofs.Elements.{each_of}

-- ---- edges

-- an edge of node i arrives
abbrev pub Arrives : Policy → List PlainNode → ℕ → PlainNode → Edge → Type 0
Arrives policy ns i n e = (i < e.to) × ((m : PlainNode) × (slice_get ns e.to ≡ Some m) × (m.pc ≡ e.pc) × Carries policy n e m)

module _ (policy : Policy) (p : List Insn) (ns : List PlainNode) (i : ℕ) (n : PlainNode) (insn : Insn) (out : List Edge)
    (inside : slice_get p n.pc ≡ Some insn) (leave : edges n insn ≡ Some out) (arrive : All (Arrives policy ns i n) out) where
  pub edge_kept : EdgeRule p ns i n
  edge_kept = record {
    insn = insn;
    inside = inside;
    out = out;
    leave = leave;
    lead = λ k d lt. let a = arrive k d lt in (a.0, (a.1.0, a.1.1, a.1.2));
  }

  carried : All (λ e. (m : PlainNode) → slice_get ns e.to ≡ Some m → Carries policy n e m) out
  carried = λ k d lt m there.
      let a = arrive k d lt in
      subst (λ x. Carries policy n (get_or out k d) x) (same_Some a.1.0 m (sym a.1.1 ∙ there)) a.1.3

  pub entail_kept : (n.kind ≡ Dead → IsDead n.known) → EntailRule policy p ns n
  entail_kept dead = record {
    carry = λ i' out' found leave'.
        let same : insn ≡ i' = same_Some insn i' (sym inside ∙ found) in
        let same_out : out ≡ out' = same_Some out out' (sym leave ∙ ap (λ y. edges n y) same ∙ leave') in
        subst (λ o. All (λ e. (m : PlainNode) → slice_get ns e.to ≡ Some m → Carries policy n e m) o) same_out carried;
    dead = dead;
  }

-- ---- what is carried

contains_swap : (xs ys : List Lit) (x : Lit) → Contains (xs ++ ys) x → Contains (ys ++ xs) x
contains_swap xs ys x has = ⊎_elim
    (λ (one : Contains xs x). Contains-append_right ys xs x one)
    (λ (other : Contains ys x). Contains-append_left ys xs x other)
    (Contains-append_cases xs ys x has)

same_values : (r s : Regs) → r ≡ s → (j : ℕ) (v : AVal) → slice_get r.scratch j ≡ Some v → Allows v (slice_index_or s.scratch j Unknown)
same_values r s e j v found =
    inr (sym (get_or_from_slice_get s.scratch j v Unknown (ap (λ (x : Regs). slice_get x.scratch j) (sym e) ∙ found)))

-- no rule is said to be out, and no condition to be met
none_out : (policy : Policy) (n : PlainNode) (e : Edge) (m : PlainNode) → m.out ≡ [] → All (IsOutOn policy n e) m.out
none_out policy n e m o = subst (All (IsOutOn policy n e)) (sym o) (All-nil (IsOutOn policy n e))

none_met : (policy : Policy) (n : PlainNode) (e : Edge) (m : PlainNode) → m.met ≡ [] → All (IsMetBy policy n.met (known_on n e)) m.met
none_met policy n e m o = subst (All (IsMetBy policy n.met (known_on n e))) (sym o) (All-nil (IsMetBy policy n.met (known_on n e)))

-- what is learned is known there too
pub carries : (policy : Policy) (n : PlainNode) (to pc : ℕ) (regs : Regs) (f : Option Lit) (m : PlainNode) → m.regs ≡ regs
    → m.known ≡ option_to_list f ++ n.known → m.out ≡ [] → m.met ≡ []
    → Carries policy n (record { to = to; pc = pc; fact = f; regs = regs }) m
carries policy n to pc regs f m r k o q = record {
  literals = each_of (Entails (n.known ++ option_to_list f)) m.known
      (λ x has. inl (contains_swap (option_to_list f) n.known x (subst (λ ls. Contains ls x) k has)));
  outs = none_out policy n (record { to = to; pc = pc; fact = f; regs = regs }) m o;
  mets = none_met policy n (record { to = to; pc = pc; fact = f; regs = regs }) m q;
  for_a = inr (ap (λ (s : Regs). s.a) r);
  for_x = inr (ap (λ (s : Regs). s.x) r);
  for_scratch = same_values m.regs regs r;
}

-- two edges
pub all_two : (P : Edge → Type 0) (e f : Edge) → P e → P f → All P (e ∷ f ∷ [])
all_two P e f h g = All-cons P e (f ∷ []) h (All-cons P f [] g (All-nil P))
