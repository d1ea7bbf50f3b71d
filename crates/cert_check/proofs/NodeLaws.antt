-- The rules of a node, from what was found of its instruction and its edges.
use Rattle.std.proofs.Common.{◌≡◌, ℕ, ◌+◌, ◌<◌, List, length, sym, ap, ◌∙◌, subst, inl, inr, arith}
use Rattle.std.proofs.lemmas.Bool.{cases_lt}
use Rattle.std.specs.Prelude.{All, slice_get, Some, None, Result, MatchResult}
use Rattle.std.proofs.lemmas.List.Elements.{All-weaker}
use Rattle.std.proofs.lemmas.Option.{slice_get_cases, slice_get_within, same_Some, none-some}
use Rattle.bpf_insn.specs.declared.instruction.Insn.{Insn}
use Rattle.profile.specs.Policy.{Policy}
use Rattle.cert_form.specs.declared.node.Kind.TheVariants as kind
use Rattle.cert_form.specs.Nodes.{PlainNode}
use Rattle.cert_state.specs.Entailment.{IsDead}
use Rattle.cert_check.specs.declared.fault.CheckError.{CheckError}
use Rattle.cert_check.specs.declared.fault.CheckError.TheVariants as fault
use Rattle.cert_check.specs.Rules.{Edge, edges, Leads, RootRule, EdgeRule, EntailRule, ReturnRule, Keeps}
use Rattle.cert_check.specs.inner.Broken.{ReturnsAt, CarriesTo, IsBrokenAt, NodeFound, IsBrokenFirst, IsFound, KeepBefore}

-- what is found of the node that stands at a place is found of the place
pub found_at : (policy : Policy) (p : List Insn) (ns : List PlainNode) (i : ℕ) (n : PlainNode) (found : Result (Unit {0}) CheckError)
    → slice_get ns i ≡ Some n → MatchResult found (λ _. Keeps policy p ns i n) (IsBrokenAt policy p ns i n) → NodeFound policy p ns i found
found_at policy p ns i n found at h m stands =
    subst (λ x. MatchResult found (λ _. Keeps policy p ns i x) (IsBrokenAt policy p ns i x)) (same_Some n m (sym at ∙ stands)) h

-- a position without an instruction
pub no_insn : (p : List Insn) (ns : List PlainNode) (i : ℕ) (n : PlainNode) → slice_get p n.pc ≡ None → EdgeRule p ns i n → ⊥
no_insn p ns i n past rule = none-some rule.insn (sym past ∙ rule.inside)

module _ (policy : Policy) (p : List Insn) (ns : List PlainNode) (i : ℕ) (n : PlainNode) (insn : Insn) (at : slice_get p n.pc
    ≡ Some insn) where
  -- an instruction where the node may not stand
  pub no_edges : edges n insn ≡ None → EdgeRule p ns i n → ⊥
  no_edges none rule =
      let same : rule.insn ≡ insn = same_Some rule.insn insn (sym rule.inside ∙ at) in
      none-some rule.out (sym none ∙ (ap (λ x. edges n x) (sym same) ∙ rule.leave))

  pub return_from : (n.kind ≡ kind.Return → ReturnsAt policy insn n) → n.kind ≡ kind.Return → ReturnRule policy p n
  return_from h is =
      let here = h is in record { insn = insn; inside = at; word = here.word; known = here.known; agrees = here.agrees }

  pub return_back : (n.kind ≡ kind.Return → ReturnRule policy p n) → n.kind ≡ kind.Return → ReturnsAt policy insn n
  return_back h is =
      let rule = h is in
      let same : rule.insn ≡ insn = same_Some rule.insn insn (sym rule.inside ∙ at) in
      subst (λ x. ReturnsAt policy x n) same (record { word = rule.word; known = rule.known; agrees = rule.agrees })

  module _ (out : List Edge) (leave : edges n insn ≡ Some out) where
    -- the edges of the rule are these
    same_out : (j : Insn) (es : List Edge) → slice_get p n.pc ≡ Some j → edges n j ≡ Some es → es ≡ out
    same_out j es there its =
        let same : j ≡ insn = same_Some j insn (sym there ∙ at) in
        same_Some es out (sym its ∙ (ap (λ x. edges n x) same ∙ leave))

    pub edge_from : All (Leads ns i) out → EdgeRule p ns i n
    edge_from lead = record { insn = insn; inside = at; out = out; leave = leave; lead = lead }

    pub edge_back : EdgeRule p ns i n → All (Leads ns i) out
    edge_back rule = subst (All (Leads ns i)) (same_out rule.insn rule.out rule.inside rule.leave) rule.lead

    pub there : All (Leads ns i) out → All (λ e. e.to < length ns) out
    there lead = All-weaker (Leads ns i) (λ e. e.to < length ns) (λ e l. slice_get_within ns e.to l.1.0 l.1.1) out lead

    pub entail_from : All (CarriesTo policy ns n) out × (n.kind ≡ kind.Dead → IsDead n.known) → EntailRule policy p ns n
    entail_from h = record {
      carry = λ j es stands its. subst (All (CarriesTo policy ns n)) (sym (same_out j es stands its)) h.0;
      dead = h.1;
    }

    pub entail_back : EntailRule policy p ns n → All (CarriesTo policy ns n) out × (n.kind ≡ kind.Dead → IsDead n.known)
    entail_back rule = (rule.carry insn out at leave, rule.dead)

-- one node more
pub keep_one_more : (policy : Policy) (p : List Insn) (ns : List PlainNode) (i : ℕ) → KeepBefore policy p ns i
    → ((n : PlainNode) → slice_get ns i ≡ Some n → Keeps policy p ns i n) → KeepBefore policy p ns (i + 1)
keep_one_more policy p ns i before here j m lt at =
    elim (cases_lt j i) [
      | inl earlier ↦ before j m earlier at
      | inr later ↦
          let same : i ≡ j = omega arith in
          subst (λ k. Keeps policy p ns k m) same (here m (subst (λ k. slice_get ns k ≡ Some m) (sym same) at))
    ]

-- the first node that breaks a rule
pub found_first : (policy : Policy) (p : List Insn) (ns : List PlainNode) (i : ℕ) (e : CheckError)
    → RootRule ns → i < length ns → KeepBefore policy p ns i
    → ((n : PlainNode) → slice_get ns i ≡ Some n → IsBrokenAt policy p ns i n e) → IsFound policy p ns e
found_first policy p ns i e root inside before broken =
    elim (slice_get_cases ns i).1 [
      | inl here ↦ as_found e (record {
        root = root;
        place = i;
        node = here.0;
        at = here.2;
        before = before;
        broken = broken here.0 here.2;
      })
      | inr past ↦ absurd (omega (arith, past.0))
    ] where
      as_found : (e : CheckError) → IsBrokenFirst policy p ns e → IsFound policy p ns e
      as_found fault.Root h = absurd h.broken
      as_found (fault.View x) h = h
      as_found (fault.Kernel x) h = h
      as_found (fault.Form x) h = h
      as_found (fault.Edge j) h = h
      as_found (fault.Entail j) h = h
      as_found (fault.Return j) h = h
      as_found (fault.Split j) h = h
      as_found fault.OutOfMemory h = h
