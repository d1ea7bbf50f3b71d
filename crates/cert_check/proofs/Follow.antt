-- A valid certificate follows each run to a return whose verdict the profile says.
use Rattle.std.proofs.Common.{◌≡◌, ◌==◌, ℕ, zero, suc, ◌+◌, ◌<◌, ◌≤◌, Bool, true, false, cond, List, [], ◌∷◌, ◌++◌}
use Rattle.std.proofs.Common.{length, Option, Some, None, sym, refl, ap, ◌∙◌, subst, inl, inr, ◌⊎◌, arith}
use Rattle.std.specs.Prelude.{bit_and, IsTrue, slice_index, slice_index_or, slice_get, unwrap_or, All, Contains, IfSome, option_to_list}
use Rattle.std.proofs.lemmas.List.Elements.{All-contains, All-append, All-nil, All-cons}
use Rattle.cert_check.proofs.Elements.{contains_at, each_of}
use Rattle.std.proofs.lemmas.Bool.{cases_eq, cases_lt, eqb-true}
use Rattle.std.proofs.lemmas.Option.{slice_get_within, same_Some, cond_some, none-some, unwrap_or-slice_get}
use Rattle.call_record.specs.Words.{IsRecord, argument}
use Rattle.machines.specs.Width.{compared}
use Rattle.bpf_insn.specs.declared.code.Operand.{Operand}
use Rattle.bpf_insn.specs.declared.code.Test.{Test}
use Rattle.bpf_insn.specs.declared.code.Operation.{Operation}
use Rattle.bpf_insn.specs.declared.code.Operation.TheVariants.{LoadWord, LoadScratch, LoadScratchX, ReturnK}
use Rattle.bpf_insn.specs.declared.code.Operation.TheVariants.{ReturnA, Jump, Branch, ShiftLeft, ShiftRight}
use Rattle.bpf_insn.specs.declared.instruction.Insn.{Insn}
use Rattle.bpf_insn.specs.Code.{operation_of}
use Rattle.bpf_insn.specs.Machine.{Registers, Step, Ends, Goes, Stuck, Ending, after_one, ending, start, holds}
use Rattle.bpf_insn.specs.Machine.{operand, loaded, loaded_x, with_a, kept, word_at, perform_if, step}
use Rattle.bpf_insn.proofs.RunLaws.{ending_ends, ending_goes, ending_stuck}
use Rattle.kernel_check.specs.Accepted.{IsAccepted}
use Rattle.kernel_check.specs.Paths.{LeadsTo}
use Rattle.kernel_check.proofs.RunLaws.{leads, plain}
use Rattle.profile.specs.declared.conditions.Cond.{Cond}
use Rattle.profile.specs.declared.rules.Rule.{Rule}
use Rattle.profile.specs.Policy.{Policy, Says}
use Rattle.profile.specs.Rule.{Matches, is_narrow_rule}
use Rattle.profile.specs.Condition.{Meets}
use Rattle.cert_state.specs.declared.literal.Lit.{Lit}
use Rattle.cert_state.specs.declared.literal.Lit.TheVariants.{In, Bits, NotBits}
use Rattle.cert_state.specs.declared.literal.AVal.{AVal}
use Rattle.cert_state.specs.declared.literal.AVal.TheVariants.{Unknown, Const, Masked}
use Rattle.cert_state.specs.declared.literal.Regs.{Regs}
use Rattle.cert_state.specs.Literals.{Holds}
use Rattle.cert_state.specs.States.{HasValue, IsKept, Inside}
use Rattle.cert_state.specs.Entailment.{Entails}
use Rattle.cert_state.specs.Transfer.{transfer, edge_fact}
use Rattle.cert_state.specs.Sharp.{lowest_bit, sharp_fact}
use Rattle.cert_state.proofs.KnownLaws.{entailed_is_true, dead_is_none}
use Rattle.cert_state.proofs.StepLaws.{stays_inside}
use Rattle.cert_state.proofs.EdgeLaws.{follows_fact}
use Rattle.cert_state.proofs.SharpLaws.{above_lowest, bit_is_set, follows_sharp_fact}
use Rattle.cert_form.specs.declared.node.Kind.{Kind}
use Rattle.cert_form.specs.declared.node.Kind.TheVariants as kind
use Rattle.cert_form.specs.Nodes.{PlainNode}
use Rattle.cert_check.specs.Agree.{IsRefuted, IsYes}
use Rattle.cert_check.specs.Several.{ReturnAgrees}
use Rattle.cert_check.proofs.Agreement.{AreOut, AreMet, refuted_rule, yes_condition}
use Rattle.cert_check.specs.Rules.{no_node, Edge, one_edge, step_edges, edges_by, fact_at, Leads, Covers, CoversSharply, SplitRule, Allows}
use Rattle.cert_check.specs.Rules.{IsOutOn, IsMetBy, Carries, known_on, value_verdict, verdict_by, Keeps, IsValid}

-- what gives a verdict after one instruction gives it before
after_one_gives : (e : Ending) (v n : ℕ) → after_one e ≡ Some (v, n) → (m : ℕ) × (e ≡ Some (v, m))
after_one_gives None v n h = absurd (none-some (v, n) h)
after_one_gives (Some (w, k)) v n h =
    let same : w ≡ v = ap (λ (end : ℕ × ℕ). end.0) (same_Some (w, k + 1) (v, n) h) in
    (k, ap (λ x. Some (x, k)) same)

-- what is loaded does not end a run
loaded_goes : (o : Option ℕ) (s : Registers) (word : ℕ) → loaded s o ≡ Ends word → ⊥
loaded_goes None s word e = cc
loaded_goes (Some w) s word e = cc

loaded_x_goes : (o : Option ℕ) (s : Registers) (word : ℕ) → loaded_x s o ≡ Ends word → ⊥
loaded_x_goes None s word e = cc
loaded_x_goes (Some w) s word e = cc

guarded_goes : (b : Bool) (n : ℕ) (s : Registers) (word : ℕ) → cond b (with_a s n) Stuck ≡ Ends word → ⊥
guarded_goes true n s word e = cc
guarded_goes false n s word e = cc

-- a run ends by the verdict that a return is known to give
ends_by : (op : Option Operation) (r : List ℕ) (i : Insn) (s : Registers) (regs : Regs) (word w : ℕ) → HasValue regs.a r s.a
    → perform_if op r i s ≡ Ends word → verdict_by op regs i ≡ Some w → word ≡ w
ends_by None r i s regs word w has e known = absurd (none-some w known)
ends_by (Some ReturnK) r i s regs word w has e known =
    let same : i.k ≡ word = cc in sym same ∙ same_Some i.k w known
ends_by (Some ReturnA) r i s regs word w has e known = by_value regs.a has known where
  by_value : (v : AVal) → HasValue v r s.a → value_verdict v ≡ Some w → word ≡ w
  by_value (Const c) h k = let same : s.a ≡ word = cc in sym same ∙ (h ∙ same_Some c w k)
  by_value Unknown h k = absurd (none-some w k)
  by_value (Masked v m) h k = absurd (none-some w k)
ends_by (Some _) r i s regs word w has e known = absurd (none-some w known)

-- the run does not go on from a return, and is not stuck there
returns : (op : Option Operation) (r : List ℕ) (i : Insn) (s : Registers) (regs : Regs) (w : ℕ) → verdict_by op regs i ≡ Some w
    → (word : ℕ) × (perform_if op r i s ≡ Ends word)
returns None r i s regs w known = absurd (none-some w known)
returns (Some ReturnK) r i s regs w known = (i.k, refl)
returns (Some ReturnA) r i s regs w known = (s.a, refl)
returns (Some _) r i s regs w known = absurd (none-some w known)

-- an instruction that a step may stand at does not end the run
steps_go : (op : Option Operation) (r : List ℕ) (i : Insn) (s : Registers) (n : PlainNode) (first second : ℕ) (out : List Edge) (word : ℕ)
    → step_edges op n first second i ≡ Some out → perform_if op r i s ≡ Ends word → ⊥
steps_go None r i s n first second out word leave e = cc
steps_go (Some LoadWord) r i s n first second out word leave e = loaded_goes (word_at r i.k) s word e
steps_go (Some LoadScratch) r i s n first second out word leave e = loaded_goes (kept s i.k) s word e
steps_go (Some LoadScratchX) r i s n first second out word leave e = loaded_x_goes (kept s i.k) s word e
steps_go (Some ReturnK) r i s n first second out word leave e = none-some out leave
steps_go (Some ReturnA) r i s n first second out word leave e = none-some out leave
steps_go (Some ShiftLeft) r i s n first second out word leave e = guarded_goes _ _ s word e
steps_go (Some ShiftRight) r i s n first second out word leave e = guarded_goes _ _ s word e
steps_go (Some _) r i s n first second out word leave e = cc

-- what a node says of rules is true
abbrev IsTrueOf : Policy → List ℕ → List (ℕ × ℕ) → List ℕ → Type 0
IsTrueOf policy out met r = AreOut policy out r × AreMet policy met r

module _ (r : List ℕ) (rec : IsRecord r) (p : List Insn) (accepted : IsAccepted p) (policy : Policy) where
  -- from this position, with these registers, only verdicts that the profile says are given
  abbrev Right : ℕ → Registers → Type 0
  Right pc s = (v n : ℕ) → ending p pc s r ≡ Some (v, n) → Says policy r v

  -- what is right after an instruction is right before it
  goes_back : (pc next skip : ℕ) (i : Insn) (s t : Registers) → slice_get p pc ≡ Some i → step r i s ≡ Goes skip t → next ≡ pc + 1 + skip
      → Right next t → Right pc s
  goes_back pc next skip i s t found e at right v n given =
      let inner = after_one_gives (ending p next t r) v n (sym (ending_goes p pc i s r skip t next found e at) ∙ given) in
      right v inner.0 inner.1

  -- one of the edges of a node is the run's own
  record Way (n : PlainNode) (s : Registers) (out : List Edge) : Type 0 where
    edge : Edge
    stands : Contains out edge
    fact : IfSome edge.fact (λ l. Holds l r)
    next : Registers
    fits : Inside edge.regs n.known r next
    on : Right edge.pc next → Right n.pc s

  -- the only edge of an instruction that goes on
  one_way : (i : Insn) (n : PlainNode) (s t : Registers) (skip first second pc : ℕ) (out : List Edge) → slice_get p n.pc ≡ Some i
      → step r i s ≡ Goes skip t → Inside n.regs n.known r s → pc ≡ n.pc + 1 + skip
      → one_edge first second pc (transfer n.regs i) ≡ Some out
      → Way n s out
  one_way i n s t skip first second pc out found e inside at leave =
      let edge : Edge = record { to = first; pc = pc; fact = None; regs = transfer n.regs i } in
      let only = (cond_some (second == no_node) (edge ∷ []) out leave).1 in
      record {
        edge = edge;
        stands = subst (λ es. Contains es edge) only (0, omega arith, refl);
        fact = tt;
        next = t;
        fits = stays_inside n.regs n.known i (plain p n.pc i accepted found) r s skip t rec inside e;
        on = goes_back n.pc pc skip i s t found e at;
      }

  -- the fact of the edge of a jump that the run takes is true
  fact_holds : (n : PlainNode) (i : Insn) (s : Registers) (test : Test) (c : Operand) → Inside n.regs n.known r s
      → operation_of i.code ≡ Some (Branch test c) → IfSome (fact_at n i (holds test s.a (operand c i s))) (λ l. Holds l r)
  fact_holds n i s test c inside op = by_form n.sharp where
    taken : Bool
    taken = holds test s.a (operand c i s)

    by_form : (b : Bool) → IfSome (cond b (sharp_fact n.known n.regs i taken) (edge_fact n.regs i taken)) (λ l. Holds l r)
    by_form true = follows_sharp_fact n.regs n.known i r s test c rec inside op
    by_form false = follows_fact n.regs n.known i r s test c rec inside op

  -- the edge of a jump that is taken, or is not
  branch_way : (i : Insn) (n : PlainNode) (s : Registers) (test : Test) (c : Operand) (first second : ℕ) (out : List Edge) (b : Bool)
      → holds test s.a (operand c i s) ≡ b → operation_of i.code ≡ Some (Branch test c)
      → slice_get p n.pc ≡ Some i → Inside n.regs n.known r s
      → step_edges (Some (Branch test c)) n first second i ≡ Some out → Way n s out
  branch_way i n s test c first second out true is op found inside leave =
      let edge : Edge = record { to = first; pc = n.pc + 1 + i.jt; fact = fact_at n i true; regs = transfer n.regs i } in
      let e : step r i s ≡ Goes i.jt s = ap (λ o. perform_if o r i s) op ∙ ap (λ b. Goes (cond b i.jt i.jf) s) is in
      record {
        edge = edge;
        stands = subst (λ es. Contains es edge) (same_Some _ out leave) (0, omega arith, refl);
        fact = subst (λ b. IfSome (fact_at n i b) (λ l. Holds l r)) is (fact_holds n i s test c inside op);
        next = s;
        fits = stays_inside n.regs n.known i (plain p n.pc i accepted found) r s i.jt s rec inside e;
        on = goes_back n.pc (n.pc + 1 + i.jt) i.jt i s s found e refl;
      }
  branch_way i n s test c first second out false is op found inside leave =
      let edge : Edge = record { to = second; pc = n.pc + 1 + i.jf; fact = fact_at n i false; regs = transfer n.regs i } in
      let e : step r i s ≡ Goes i.jf s = ap (λ o. perform_if o r i s) op ∙ ap (λ b. Goes (cond b i.jt i.jf) s) is in
      record {
        edge = edge;
        stands = subst (λ es. Contains es edge) (same_Some _ out leave) (1, omega arith, refl);
        fact = subst (λ b. IfSome (fact_at n i b) (λ l. Holds l r)) is (fact_holds n i s test c inside op);
        next = s;
        fits = stays_inside n.regs n.known i (plain p n.pc i accepted found) r s i.jf s rec inside e;
        on = goes_back n.pc (n.pc + 1 + i.jf) i.jf i s s found e refl;
      }

  -- the edge of a step that goes on
  step_way : (op : Option Operation) (i : Insn) (n : PlainNode) (s t : Registers) (skip first second : ℕ) (out : List Edge)
      → operation_of i.code ≡ op → slice_get p n.pc ≡ Some i → step r i s ≡ Goes skip t → Inside n.regs n.known r s
      → LeadsTo op n.pc i (n.pc + 1 + skip) → step_edges op n first second i ≡ Some out → Way n s out
  step_way (Some (Branch test c)) i n s t skip first second out is found e inside leads leave =
      branch_way i n s test c first second out (holds test s.a (operand c i s)) refl is found inside leave
  step_way (Some Jump) i n s t skip first second out is found e inside leads leave =
      one_way i n s t skip first second (n.pc + 1 + i.k) out found e inside (sym leads) leave
  step_way (Some ReturnK) i n s t skip first second out is found e inside leads leave = absurd leads
  step_way (Some ReturnA) i n s t skip first second out is found e inside leads leave = absurd leads
  step_way _ i n s t skip first second out is found e inside leads leave =
      one_way i n s t skip first second (n.pc + 1) out found e inside (sym leads) leave

  -- one of two literals that cover each record
  covered : (c d : Lit) → Covers c d → Holds c r ⊎ Holds d r
  covered (In w a b) (In u c d) (same, low, seam, high, h) =
      elim (cases_lt (slice_index r w) c) [
        | inl q ↦ inl (omega arith, omega arith)
        | inr q ↦ inr (subst (λ n. (c ≤ slice_index r n) × (slice_index r n ≤ d)) same (q, let small = rec.words w in omega arith))
      ]
  covered (Bits w m d) (NotBits u n e) (same, mask, datum) =
      elim (cases_eq (bit_and (slice_index r w) m) d) [
        | inl q ↦ inl q
        | inr q ↦ inr (λ is. q (ap (λ i. bit_and (slice_index r i) m) same ∙ ap (λ i. bit_and (slice_index r u) i) mask ∙ is ∙ sym datum))
      ]
  covered _ _ h = absurd h

  covered_sharply : (c d : Lit) → CoversSharply c d → Holds c r ⊎ Holds d r
  covered_sharply (Bits w m d) (Bits v n e) (same, mask, none, set, one) =
      elim (cases_eq (bit_and (slice_index r w) m) 0) [
        | inl q ↦ inl (q ∙ sym none)
        | inr q ↦ inr (ap (λ i. bit_and (slice_index r i) n) (sym same) ∙ (ap (λ i. bit_and (slice_index r w) i) (sym mask)
            ∙ (bit_is_set m (slice_index r w) (eqb-true m (lowest_bit m) one) q ∙ sym set)))
      ]
  covered_sharply (Bits w m d) (In v a b) (same, fits, none, low, high) =
      elim (cases_eq (bit_and (slice_index r w) m) 0) [
        | inl q ↦ inl (q ∙ sym none)
        | inr q ↦ inr (subst (λ i. (a ≤ slice_index r i) × (slice_index r i ≤ b)) same (
            let least = above_lowest (slice_index r w) m q in
            let small = rec.words w in
            (omega (arith, least, low), omega (arith, small, high))))
      ]
  covered_sharply _ _ h = absurd h

  turned : (c d : Lit) → Holds d r ⊎ Holds c r → Holds c r ⊎ Holds d r
  turned c d (inl second) = inr second
  turned c d (inr first) = inl first

  split_covers : (c d : Lit) (sharp : Bool) → (Covers c d ⊎ Covers d c) ⊎ (IsTrue sharp × (CoversSharply c d ⊎ CoversSharply d c))
      → Holds c r ⊎ Holds d r
  split_covers c d sharp (inl (inl h)) = covered c d h
  split_covers c d sharp (inl (inr h)) = turned c d (covered d c h)
  split_covers c d sharp (inr (is, inl h)) = covered_sharply c d h
  split_covers c d sharp (inr (is, inr h)) = turned c d (covered_sharply d c h)

  -- the edge of a split
  split_way : (n : PlainNode) (s : Registers) (first second : ℕ) (c d : Lit) (i : Insn) (out : List Edge) → Inside n.regs n.known r s
      → edges_by (kind.Split c d first second) n i ≡ Some out → Holds c r ⊎ Holds d r → Way n s out
  split_way n s first second c d i out inside leave (inl h) =
      let edge : Edge = record { to = first; pc = n.pc; fact = Some c; regs = n.regs } in
      record {
        edge = edge;
        stands = subst (λ es. Contains es edge) (same_Some _ out leave) (0, omega arith, refl);
        fact = h;
        next = s;
        fits = inside;
        on = λ h. h;
      }
  split_way n s first second c d i out inside leave (inr h) =
      let edge : Edge = record { to = second; pc = n.pc; fact = Some d; regs = n.regs } in
      record {
        edge = edge;
        stands = subst (λ es. Contains es edge) (same_Some _ out leave) (1, omega arith, refl);
        fact = h;
        next = s;
        fits = inside;
        on = λ h. h;
      }

  -- a register at the node that an edge leads to is as that says
  allowed : (there here : AVal) (a : ℕ) → Allows there here → HasValue here r a → HasValue there r a
  allowed there here a (inl e) h = subst (λ v. HasValue v r a) (sym e) tt
  allowed there here a (inr e) h = subst (λ v. HasValue v r a) (sym e) h

  allowed_kept : (there here : AVal) (o : Option ℕ) → Allows there here → IsKept here r o → IsKept there r o
  allowed_kept there here o (inl e) h = subst (λ v. IsKept v r o) (sym e) tt
  allowed_kept there here o (inr e) h = subst (λ v. IsKept v r o) (sym e) h

  -- the value at a place of a list, or Unknown past its end, is kept
  kept_at : (regs : Regs) (s : Registers) (k : ℕ) → ((j : ℕ) (v : AVal) → slice_get regs.scratch j ≡ Some v → IsKept v r (kept s j))
      → IsKept (slice_index_or regs.scratch k Unknown) r (kept s k)
  kept_at regs s k h =
      subst (λ v. IsKept v r (kept s k)) (unwrap_or-slice_get regs.scratch k Unknown) (by_case (slice_get regs.scratch k) refl) where
        by_case : (o : Option AVal) → slice_get regs.scratch k ≡ o → IsKept (unwrap_or o Unknown) r (kept s k)
        by_case None e = tt
        by_case (Some v) e = h k v e

  -- what is known on an edge is true
  more_holds : (n : PlainNode) → All (λ l. Holds l r) n.known → (o : Option Lit) → IfSome o (λ l. Holds l r)
      → All (λ l. Holds l r) (n.known ++ option_to_list o)
  more_holds n known None h = All-append (λ l. Holds l r) n.known [] known (All-nil (λ l. Holds l r))
  more_holds n known (Some l) h = All-append (λ l. Holds l r) n.known (l
      ∷ []) known (All-cons (λ l. Holds l r) l [] h (All-nil (λ l. Holds l r)))

  -- what an edge carries, its node may say
  arrives : (n : PlainNode) (e : Edge) (m : PlainNode) (s : Registers) → Inside e.regs n.known r s → IfSome e.fact (λ l. Holds l r)
      → Carries policy n e m → Inside m.regs m.known r s
  arrives n e m s inside fact carries =
      let so = more_holds n inside.known e.fact fact in
      record {
        known = each_of (λ l. Holds l r) m.known (λ l has.
            entailed_is_true r rec (n.known
            ++ option_to_list e.fact) so l (All-contains (Entails (n.known ++ option_to_list e.fact)) m.known l carries.literals has));
        has_a = allowed m.regs.a e.regs.a s.a carries.for_a inside.has_a;
        has_x = allowed m.regs.x e.regs.x s.x carries.for_x inside.has_x;
        sixteen = inside.sixteen;
        has_scratch = λ k v at. allowed_kept v (slice_index_or e.regs.scratch k Unknown) (kept s k) (carries.for_scratch k v at) (kept_at e.regs s k inside.has_scratch);
      }

  -- a rule that is out there does not match, since it was out at the node or is refuted
  arrives_out : (n : PlainNode) (e : Edge) (m : PlainNode) → All (λ l. Holds l r) n.known
      → AreOut policy n.out r → IfSome e.fact (λ l. Holds l r)
      → Carries policy n e m → AreOut policy m.out r
  arrives_out n e m known gone fact carries = λ place rule has stands.
      let is = All-contains (IsOutOn policy n e) m.out place carries.outs has in
      let same : is.rule ≡ rule = same_Some is.rule rule (sym is.stands ∙ stands) in
      by_reason place rule stands (subst (λ x. Contains n.out place ⊎ IsRefuted (known_on n e) x) same is.reason)
    where
      by_reason : (place : ℕ) (rule : Rule) → slice_get policy.rules place ≡ Some rule
          → Contains n.out place ⊎ IsRefuted (known_on n e) rule
          → Matches rule r → ⊥
      by_reason place rule stands (inl before) = gone place rule before stands
      by_reason place rule stands (inr refuted) = refuted_rule r rec (known_on n e) (more_holds n known e.fact fact) rule refuted

  -- a condition that is met there is met, since it was so at the node or is yes
  arrives_met : (n : PlainNode) (e : Edge) (m : PlainNode) → All (λ l. Holds l r) n.known
      → AreMet policy n.met r → IfSome e.fact (λ l. Holds l r)
      → Carries policy n e m → AreMet policy m.met r
  arrives_met n e m known so_met fact carries = λ place own rule c has stands its.
      let is = All-contains (IsMetBy policy n.met (known_on n e)) m.met (place, own) carries.mets has in
      let same : is.rule ≡ rule = same_Some is.rule rule (sym is.stands ∙ stands) in
      let one : is.cond ≡ c = same_Some is.cond c (sym is.its ∙ subst (λ x. slice_get x.conds.items own ≡ Some c) (sym same) its) in
      let reason = subst (λ x. Contains n.met (place, own) ⊎ IsYes (is_narrow_rule is.rule) (known_on n e) x) one is.reason in
      by_reason place own rule c stands its (subst (λ x. Contains n.met (place, own) ⊎ IsYes (is_narrow_rule x) (known_on n e) c) same reason)
    where
      by_reason : (place own : ℕ) (rule : Rule) (c : Cond) → slice_get policy.rules place ≡ Some rule
          → slice_get rule.conds.items own ≡ Some c
          → Contains n.met (place, own) ⊎ IsYes (is_narrow_rule rule) (known_on n e) c
          → Meets c (compared (is_narrow_rule rule) (argument r c.index))
      by_reason place own rule c stands its (inl before) = so_met place own rule c before stands its
      by_reason place own rule c stands its (inr settled) =
          yes_condition r rec (known_on n e) (more_holds n known e.fact fact) (is_narrow_rule rule) c settled

  arrives_told : (n : PlainNode) (e : Edge) (m : PlainNode) → All (λ l. Holds l r) n.known → IsTrueOf policy n.out n.met r
      → IfSome e.fact (λ l. Holds l r) → Carries policy n e m → IsTrueOf policy m.out m.met r
  arrives_told n e m known told fact carries =
      (arrives_out n e m known told.0 fact carries, arrives_met n e m known told.1 fact carries)

  module _ (ns : List PlainNode)
      (settles : (n : PlainNode) (w : ℕ) → ReturnAgrees policy n w → All (λ l. Holds l r) n.known → IsTrueOf policy n.out n.met r
      → Says policy r w) where
    -- from node j, wherever a run is inside it and what it says of rules is true, only verdicts that the profile says are
    -- given
    abbrev GoesFrom : ℕ → Type 0
    GoesFrom j =
        (m : PlainNode) → slice_get ns j ≡ Some m → (s : Registers) → Inside m.regs m.known r s
        → IsTrueOf policy m.out m.met r → Right m.pc s

    along : (i : ℕ) (n : PlainNode) (s : Registers) (out : List Edge) → All (λ l. Holds l r) n.known
        → IsTrueOf policy n.out n.met r → All (Leads ns i) out
        → All (λ e. (m : PlainNode) → slice_get ns e.to ≡ Some m → Carries policy n e m) out
        → ((j : ℕ) → i < j → GoesFrom j) → Way n s out → Right n.pc s
    along i n s out known gone lead carry later way =
        let e = way.edge in
        let there = All-contains (Leads ns i) out e lead way.stands in
        let m = there.1.0 in
        let carried = All-contains (λ e. (m : PlainNode) → slice_get ns e.to ≡ Some m
        → Carries policy n e m) out e carry way.stands m there.1.1 in
        let right = later e.to there.0 m there.1.1 way.next (arrives n e m way.next way.fits way.fact carried) (arrives_told n e m known gone way.fact carried) in
        way.on (subst (λ pc. Right pc way.next) there.1.2 right)

    at_step : (first second i : ℕ) (n : PlainNode) (s : Registers) (insn : Insn) (out : List Edge) (does : Step) → step r insn s ≡ does
        → slice_get p n.pc ≡ Some insn → edges_by (kind.Step first second) n insn ≡ Some out → Inside n.regs n.known r s
        → (Way n s out → Right n.pc s) → Right n.pc s
    at_step first second i n s insn out (Ends word) does found leave inside on =
        absurd (steps_go (operation_of insn.code) r insn s n first second out word leave does)
    at_step first second i n s insn out (Goes skip t) does found leave inside on =
        on (step_way (operation_of insn.code) insn n s t skip first second out refl found does inside (leads n.pc insn r s t skip does) leave)
    at_step first second i n s insn out Stuck does found leave inside on = λ v count given.
        absurd (none-some (v, count) (sym (ending_stuck p n.pc insn s r found does) ∙ given))

    at_node : (k : Kind) (i : ℕ) (n : PlainNode) (s : Registers) → n.kind ≡ k → Keeps policy p ns i n
        → Inside n.regs n.known r s → IsTrueOf policy n.out n.met r
        → ((j : ℕ) → i < j → GoesFrom j) → Right n.pc s
    at_node (kind.Step first second) i n s is keeps inside gone later =
        let rule = keeps.edge in
        let leave : edges_by (kind.Step first second) n rule.insn ≡ Some rule.out = ap (λ k. edges_by k n rule.insn) (sym is)
        ∙ rule.leave in
        at_step first second i n s rule.insn rule.out (step r rule.insn s) refl rule.inside leave inside
        (along i n s rule.out inside.known gone rule.lead (keeps.entail.carry rule.insn rule.out rule.inside rule.leave) later)
    at_node (kind.Split c d first second) i n s is keeps inside gone later =
        let rule = keeps.edge in
        let leave : edges_by (kind.Split c d first second) n rule.insn ≡ Some rule.out = ap (λ k. edges_by k n rule.insn) (sym is)
        ∙ rule.leave in
        along i n s rule.out inside.known gone rule.lead (keeps.entail.carry rule.insn rule.out rule.inside rule.leave) later
        (split_way n s first second c d rule.insn rule.out inside leave (split_covers c d n.sharp (subst (SplitRule n.sharp) is keeps.split)))
    at_node kind.Return i n s is keeps inside gone later = λ v count given.
        let rule = keeps.return is in
        let does = returns (operation_of rule.insn.code) r rule.insn s n.regs rule.word rule.known in
        let word : does.0 ≡ v = ap (λ (end : ℕ × ℕ). end.0) (same_Some (does.0, 1) (
          v,
          count,
        ) (sym (ending_ends p n.pc rule.insn s r does.0 rule.inside does.1) ∙ given)) in
        let same = ends_by (operation_of rule.insn.code) r rule.insn s n.regs does.0 rule.word inside.has_a does.1 rule.known in
        subst (Says policy r) (sym same ∙ word) (settles n rule.word rule.agrees inside.known gone)
    at_node kind.Dead i n s is keeps inside gone later = absurd (dead_is_none r rec n.known inside.known (keeps.entail.dead is))

    follow : ((i : ℕ) (n : PlainNode) → slice_get ns i ≡ Some n → Keeps policy p ns i n) → (fuel i : ℕ) → length ns ≤ i + fuel → GoesFrom i
    follow each zero i enough m at s inside gone = absurd (omega (arith, slice_get_within ns i m at))
    follow each (suc fuel) i enough m at s inside gone =
        at_node m.kind i m s refl (each i m at) inside gone (λ j later. follow each fuel j (omega arith))

    -- what the program gives is what the profile says
    pub only_right : IsValid policy p ns → Right 0 start
    only_right valid =
        let root = valid.root in
        let inside : Inside root.root.regs root.root.known r start = record {
          known = subst (All (λ l. Holds l r)) (sym root.nothing) (All-nil (λ l. Holds l r));
          has_a = subst (λ v. HasValue v r 0) (sym root.a_is_zero) refl;
          has_x = subst (λ v. HasValue v r 0) (sym root.x_is_zero) refl;
          sixteen = refl;
          has_scratch = λ k v at. subst (λ u. IsKept u r (kept start k)) (sym (All-contains (λ u. u
              ≡ Unknown) root.root.regs.scratch v root.none_stated (contains_at root.root.regs.scratch k v at))) tt;
        } in
        let gone : IsTrueOf policy root.root.out root.root.met r = (
          subst (λ os. AreOut policy os r) (sym root.none_out) (λ place rule has. absurd (omega (arith, has.1))),
          subst (λ ms. AreMet policy ms r) (sym root.none_met) (λ place own rule c has. absurd (omega (arith, has.1))),
        ) in
        subst (λ pc. Right pc start) root.at_first (follow valid.each (length ns) 0 (omega arith) root.root root.first start inside gone)
