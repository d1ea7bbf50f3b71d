-- The nodes of places keep the rules.
use Rattle.std.proofs.Common.{◌≡◌, ℕ, ◌+◌, ◌<◌, true, false, List, [], ◌∷◌, ◌++◌}
use Rattle.std.proofs.Common.{refl, ap, inl, inr}
use Rattle.std.specs.Prelude.{Option, Some, None, slice_get, option_to_list, All}
use Rattle.std.proofs.lemmas.List.Elements.{All-cons, All-nil}
use Rattle.bpf_insn.specs.declared.code.Operand.{Operand}
use Rattle.bpf_insn.specs.declared.code.Operation.TheVariants.{Branch}
use Rattle.bpf_insn.specs.declared.code.Test.{Test}
use Rattle.bpf_insn.specs.declared.instruction.Insn.{Insn}
use Rattle.bpf_insn.specs.Code.{operation_of}
use Rattle.profile.specs.Policy.{Policy}
use Rattle.cert_state.specs.declared.literal.Lit.{Lit}
use Rattle.cert_state.specs.declared.literal.Lit.TheVariants.{In, Bits, NotBits}
use Rattle.cert_state.specs.declared.literal.Regs.{Regs}
use Rattle.cert_state.specs.Entailment.{IsDead}
use Rattle.cert_state.specs.Sharp.{sharp_fact}
use Rattle.cert_state.specs.Transfer.{transfer}
use Rattle.cert_form.specs.declared.node.Kind.{Kind}
use Rattle.cert_form.specs.declared.node.Kind.TheVariants.{Step, Split, Return, Dead}
use Rattle.cert_form.specs.Nodes.{PlainNode}
use Rattle.cert_check.specs.Agree.{Agrees}
use Rattle.cert_check.specs.Rules.{Edge, Keeps}
use Rattle.cert_check.specs.Rules.{ReturnRule, SplitRule, edges, no_node, step_edges, verdict_by}
use Rattle.certify.specs.declared.action.Action.TheVariants as action
use Rattle.certify.specs.inner.Actions.{action_by}
use Rattle.certify.specs.inner.Cuts.{AreHalves}
use Rattle.certify.specs.inner.Places.{StandsAt}
use Rattle.certify.proofs.ActionLaws.{edge_on}
use Rattle.certify.proofs.ArriveLaws.{Arrives, all_two, carries, edge_kept, entail_kept}

-- the node of a place
abbrev pub own_node : ℕ → Regs → List Lit → Kind → PlainNode
own_node pc regs known kind = record { kind = kind; pc = pc; regs = regs; known = known; out = []; met = []; sharp = true }

module _ (policy : Policy) (p : List Insn) (ns : List PlainNode) (i : ℕ) (insn : Insn) (pc : ℕ) (regs : Regs) (known : List Lit)
    (inside : slice_get p pc ≡ Some insn) where
  -- a node whose edges arrive
  kept : (kind : Kind) (out : List Edge) → edges (own_node pc regs known kind) insn ≡ Some out
      → All (Arrives policy ns i (own_node pc regs known kind)) out
      → SplitRule true kind → (kind ≡ Dead → IsDead known) → (kind ≡ Return → ReturnRule policy p (own_node pc regs known kind))
      → Keeps policy p ns i (own_node pc regs known kind)
  kept kind out leave arrive split dead return = record {
    edge = edge_kept policy p ns i (own_node pc regs known kind) insn out inside leave arrive;
    split = split;
    entail = entail_kept policy p ns i (own_node pc regs known kind) insn out inside leave arrive dead;
    return = return;
  }

  arrives : (kind : Kind) (to next : ℕ) (now : Regs) (f : Option Lit) → i < to → StandsAt ns to next now (option_to_list f ++ known)
      → Arrives policy ns i (own_node pc regs known kind) (record { to = to; pc = next; fact = f; regs = now })
  arrives kind to next now f later at = (
    later,
    (
      at.node,
      at.there,
      at.pc_is,
      carries policy (own_node pc regs known kind) to next now f at.node at.regs_are at.known_is at.none_out at.none_met,
    ),
  )

  two_arrive : (kind : Kind) (first second at_first at_second : ℕ) (now : Regs) (l m : Option Lit) → i < first → i < second
      → StandsAt ns first at_first now (option_to_list l ++ known) → StandsAt ns second at_second now (option_to_list m ++ known)
      → All (Arrives policy ns i (own_node pc regs known kind))
      (record { to = first; pc = at_first; fact = l; regs = now }
      ∷ record { to = second; pc = at_second; fact = m; regs = now } ∷ [])
  two_arrive kind first second at_first at_second now l m later also one other =
      all_two (Arrives policy ns i (own_node pc regs known kind)) (record { to = first; pc = at_first; fact = l; regs = now })
      (record { to = second; pc = at_second; fact = m; regs = now }) (arrives kind first at_first now l later one)
      (arrives kind second at_second now m also other)

  -- an instruction of one way on
  pub goes_keeps : (skip : ℕ) → action_by (operation_of insn.code) insn ≡ action.Goes skip → (to : ℕ) → i < to
      → StandsAt ns to (pc + 1 + skip) (transfer regs insn) known → Keeps policy p ns i (own_node pc regs known (Step to no_node))
  goes_keeps skip acts to later at =
      let e : Edge = record { to = to; pc = pc + 1 + skip; fact = None; regs = transfer regs insn } in
      kept (Step to no_node) (e ∷ []) (edge_on insn skip (operation_of insn.code) (own_node pc regs known (Step to no_node)) to acts)
      (All-cons (Arrives policy ns i (own_node pc regs known (Step to no_node))) e []
      (arrives (Step to no_node) to (pc + 1 + skip) (transfer regs insn) None later at)
      (All-nil (Arrives policy ns i (own_node pc regs known (Step to no_node))))) tt (λ no_dead. cc) (λ no_return. cc)

  -- a comparison, which tells its fact on each way
  pub fork_keeps : (test : Test) (c : Operand) → operation_of insn.code ≡ Some (Branch test c) → (first second : ℕ)
      → i < first → i < second
      → StandsAt ns first (pc + 1 + insn.jt) (transfer regs insn) (option_to_list (sharp_fact known regs insn true) ++ known)
      → StandsAt ns second (pc + 1 + insn.jf) (transfer regs insn) (option_to_list (sharp_fact known regs insn false) ++ known)
      → Keeps policy p ns i (own_node pc regs known (Step first second))
  fork_keeps test c is first second later also one other =
      kept (Step first second)
      (record { to = first; pc = pc + 1 + insn.jt; fact = sharp_fact known regs insn true; regs = transfer regs insn }
      ∷ record { to = second; pc = pc + 1 + insn.jf; fact = sharp_fact known regs insn false; regs = transfer regs insn } ∷ [])
      (ap (λ o. step_edges o (own_node pc regs known (Step first second)) first second insn) is)
      (two_arrive (Step first second) first second (pc + 1 + insn.jt) (pc + 1 + insn.jf) (transfer regs insn)
      (sharp_fact known regs insn true) (sharp_fact known regs insn false) later also one other)
      tt (λ no_dead. cc) (λ no_return. cc)

  halves_split : (l m : Lit) (first second : ℕ) → AreHalves l m → SplitRule true (Split l m first second)
  halves_split (In w a b) (In v c d) first second h = inl (inl h)
  halves_split (Bits w m d) (NotBits v n e) first second h = inl (inl h)
  halves_split (Bits w m d) (Bits v n e) first second h = inr (refl, inl h)
  halves_split _ _ first second h = absurd h

  pub split_keeps : (l m : Lit) (first second : ℕ) → AreHalves l m → i < first → i < second
      → StandsAt ns first pc regs (l ∷ known) → StandsAt ns second pc regs (m ∷ known)
      → Keeps policy p ns i (own_node pc regs known (Split l m first second))
  split_keeps l m first second halves later also one other =
      kept (Split l m first second)
      (record { to = first; pc = pc; fact = Some l; regs = regs }
      ∷ record { to = second; pc = pc; fact = Some m; regs = regs } ∷ [])
      refl (two_arrive (Split l m first second) first second pc pc regs (Some l) (Some m) later also one other)
      (halves_split l m first second halves) (λ no_dead. cc) (λ no_return. cc)

  pub return_keeps : (word : ℕ) → verdict_by (operation_of insn.code) regs insn ≡ Some word → Agrees policy [] [] known word
      → Keeps policy p ns i (own_node pc regs known Return)
  return_keeps word is agrees =
      kept Return [] refl (All-nil (Arrives policy ns i (own_node pc regs known Return))) tt (λ no_dead. cc) (λ _. record {
        insn = insn;
        inside = inside;
        word = word;
        known = is;
        agrees = inl agrees;
      })

  pub dead_keeps : IsDead known → Keeps policy p ns i (own_node pc regs known Dead)
  dead_keeps dead = kept Dead [] refl (All-nil (Arrives policy ns i (own_node pc regs known Dead))) tt (λ _. dead) (λ no_return. cc)
