-- What the ways on from a place of a plain profile's paths take, and that all of them fit.
use Rattle.std.proofs.Common.{◌≡◌, ℕ, ◌+◌, ◌-◌, ◌/◌, ◌^◌, ◌<◌, ◌≤◌, Bool, true, false, cond, List, ◌∷◌, ◌++◌, length}
use Rattle.std.proofs.Common.{refl, ap, sym, ◌∙◌, subst, arith, inl, inr, ◌⊎◌, ⊎_elim}
use Rattle.std.specs.Prelude.{All, Option, Some, None, slice_get, bit_and, bit_or, option_to_list}
use Rattle.std.specs.Int.Bits.{or_zero_r}
use Rattle.std.specs.Int.Count.{count_trailing_zeros}
use Rattle.std.proofs.lemmas.Bool.{cases_eq, eq-eqb, ne_eqb}
use Rattle.std.proofs.lemmas.Option.{same_Some}
use Rattle.std.proofs.lemmas.List.Elements.{All-cons}
use Rattle.bpf_insn.specs.declared.code.Operand.TheVariants.{K}
use Rattle.bpf_insn.specs.declared.code.Operation.{Operation}
use Rattle.bpf_insn.specs.declared.code.Operation.TheVariants.{ReturnA, ReturnK, Jump, Branch}
use Rattle.bpf_insn.specs.declared.code.Test.{Test}
use Rattle.bpf_insn.specs.declared.code.Test.TheVariants.{Equal, AtLeast, Greater}
use Rattle.bpf_insn.specs.declared.instruction.Insn.{Insn}
use Rattle.bpf_insn.specs.Code.{operation_of}
use Rattle.kernel_check.specs.Accepted.{IsAccepted}
use Rattle.profile.specs.Policy.{Policy}
use Rattle.profile.proofs.SaidLaws.{each_record_is_said_one_verdict}
use Rattle.cert_state.specs.declared.literal.AVal.TheVariants.{Masked}
use Rattle.cert_state.specs.declared.literal.Lit.{Lit}
use Rattle.cert_state.specs.declared.literal.Lit.TheVariants.{In, Bits, NotBits}
use Rattle.cert_state.specs.declared.literal.Regs.{Regs}
use Rattle.cert_state.specs.Literals.{all_bits}
use Rattle.cert_state.specs.Entailment.{IsDead}
use Rattle.cert_state.proofs.BitLaws.{and_all}
use Rattle.cert_state.specs.Sharp.{above_fact, is_high, part_fact, sharp_fact, sharp_fact_by, sharp_masked_fact}
use Rattle.cert_state.specs.Transfer.{masked_fact, transfer, transfer_if}
use Rattle.rule_compile.specs.Moves.{Move, Ends, Goes, Forks, move_at}
use Rattle.rule_compile.specs.Shape.{call, depth}
use Rattle.certify.specs.declared.action.Action.TheVariants as action
use Rattle.certify.specs.inner.Actions.{action_by}
use Rattle.certify.specs.inner.Counts.{inside, path_cost}
use Rattle.certify.specs.inner.Inverse.{IsLoad}
use Rattle.certify.specs.inner.Leaf.{IsOfCalls}
use Rattle.certify.specs.inner.Meant.{IsMeant}
use Rattle.certify.specs.inner.Path.{AnswersThere, HoldsCall, IsPossible, LeadsOn, fact}
use Rattle.certify.specs.inner.Plain.{IsWhole, Takes, TakesAtReturn, TakesOfReturn, TakesOnPath, regs_of}
use Rattle.certify.proofs.ActionLaws.{ends_is}
use Rattle.certify.proofs.LeadLaws.{paths_lead}
use Rattle.certify.proofs.LeafLaws.{call_is_record}
use Rattle.certify.proofs.MoveLaws.{ends_cost, goes_cost, goes_held, move_of_is, some_weight}
use Rattle.certify.proofs.RoomLaws.{ten_machines, forks_total, other_lower, taken_lower}
use Rattle.certify.proofs.WayLaws.{goes_inside, other_inside, taken_inside}

-- ---- registers

loaded_regs : (held : Option ℕ) (w : ℕ) → record (regs_of held) { a = Masked w all_bits } ≡ regs_of (Some w)
loaded_regs None w = refl
loaded_regs (Some v) w = refl

regs_after : (i : Insn) (held : Option ℕ) (skip : ℕ) (now : Option ℕ) → move_at (operation_of i.code) i.k held ≡ Some (Goes skip now)
    → transfer (regs_of held) i ≡ regs_of now
regs_after i held skip now e = ⊎_elim
    (λ (jump : (operation_of i.code ≡ Some Jump) × (skip ≡ i.k) × (now ≡ held)).
    ap (λ o. transfer_if o i (regs_of held)) jump.0 ∙ ap regs_of (sym jump.2))
    (λ (load : IsLoad (operation_of i.code) i.k skip now).
    let words : i.k / 4 ≡ load.word = omega (arith, load.offset) in
    ap (λ o. transfer_if o i (regs_of held)) load.operation
    ∙ ap (λ v. record (regs_of held) { a = Masked v all_bits }) words ∙ loaded_regs held load.word ∙ ap regs_of (sym load.now_is))
    (move_of_is (operation_of i.code) i.k held (Some (Goes skip now)) e)

whole : (held : Option ℕ) → IsWhole (regs_of held).a
whole None = tt
whole (Some w) = refl

-- ---- facts

all_are_high : is_high all_bits ≡ true
unfolding count_trailing_zeros
all_are_high = refl

least_not_zero : (known : List Lit) (w k : ℕ) (taken : Bool) → k < 2 ^ 32 → (k ≡ 0 → ⊥)
    → masked_fact Greater w all_bits (bit_or (k - 1) (all_bits - all_bits)) taken ≡ masked_fact AtLeast w all_bits k taken
least_not_zero known w k true small some =
    let n : bit_or (k - 1) 0 ≡ k - 1 = or_zero_r (k - 1) in
    let not_all = ne_eqb (k - 1) all_bits (λ e. omega (arith, e, small, some)) in
    let more : k - 1 + 1 ≡ k = omega (arith, some) in
    ap (λ m. masked_fact Greater w all_bits m true) n
    ∙ ap (λ b. cond b (Some (In 0 1 0)) (Some (In w (k - 1 + 1) all_bits))) not_all
    ∙ ap (λ m. Some (In w m all_bits)) more
least_not_zero known w k false small some =
    let n : bit_or (k - 1) 0 ≡ k - 1 = or_zero_r (k - 1) in
    ap (λ m. masked_fact Greater w all_bits m false) n
    ∙ sym (ap (λ b. cond b (Some (In 0 1 0)) (Some (In w 0 (k - 1)))) (ne_eqb k 0 some))

sharp_least : (known : List Lit) (w k : ℕ) (taken : Bool) → k < 2 ^ 32 → sharp_masked_fact known AtLeast w all_bits k taken ≡ fact AtLeast w k taken
sharp_least known w k taken small = ⊎_elim
    (λ (z : k ≡ 0).
    ap (λ b. cond b (masked_fact AtLeast w all_bits 0 taken) (above_fact known w all_bits (k - 1) taken)) (eq-eqb k 0 z)
    ∙ ap (λ n. masked_fact AtLeast w all_bits n taken) (sym z))
    (λ (some : k ≡ 0 → ⊥).
    ap (λ b. cond b (masked_fact AtLeast w all_bits 0 taken) (above_fact known w all_bits (k - 1) taken)) (ne_eqb k 0 some)
    ∙ ap (λ b. cond b (masked_fact Greater w all_bits (bit_or (k - 1) (all_bits - all_bits)) taken)
    (part_fact known w all_bits (k - 1) taken)) all_are_high
    ∙ least_not_zero known w k taken small some)
    (cases_eq k 0)

sharp_equal : (known : List Lit) (w k : ℕ) (taken : Bool) → sharp_masked_fact known Equal w all_bits k taken ≡ fact Equal w k taken
sharp_equal known w k true = refl
sharp_equal known w k false = refl

-- of a whole word the sharp fact is the fact
fact_is : (known : List Lit) (i : Insn) (test : Test) (w : ℕ) (taken : Bool) → operation_of i.code ≡ Some (Branch test K)
    → (test ≡ Equal) ⊎ (test ≡ AtLeast) → i.k < 2 ^ 32 → sharp_fact known (regs_of (Some w)) i taken ≡ fact test w i.k taken
fact_is known i test w taken e which small =
    ap (λ o. sharp_fact_by known o i (regs_of (Some w)) taken) e ∙ ⊎_elim
    (λ (is : test ≡ Equal).
    ap (λ t. sharp_masked_fact known t w all_bits i.k taken) is ∙ sharp_equal known w i.k taken ∙ sym (ap (λ t. fact t w i.k taken) is))
    (λ (is : test ≡ AtLeast).
    ap (λ t. sharp_masked_fact known t w all_bits i.k taken) is ∙ sharp_least known w i.k taken small ∙ sym (ap (λ t. fact t w i.k taken) is))
    which

-- the fact of a comparison of the number or of the token is a literal of calls
pub record HasFact (w k : ℕ) (test : Test) (taken : Bool) : Type 0 where
  pub literal : Lit
  pub is : fact test w k taken ≡ Some literal
  pub of_calls : IsOfCalls literal

module _ (w k : ℕ) (low : w < 2) (small : k < 2 ^ 32) where
  equal_fact : (taken : Bool) → HasFact w k Equal taken
  equal_fact true = record {
    literal = Bits w all_bits k;
    is = ap (λ b. cond b (Some (Bits w all_bits k)) (Some (In 0 1 0))) (eq-eqb (bit_and k all_bits) k (and_all k small));
    of_calls = (refl, low);
  }
  equal_fact false = record {
    literal = NotBits w all_bits k;
    is = ap (λ b. cond b (Some (NotBits w all_bits k)) None) (eq-eqb (bit_and k all_bits) k (and_all k small));
    of_calls = (refl, low);
  }

  least_fact : (taken : Bool) → HasFact w k AtLeast taken
  least_fact true = record { literal = In w k all_bits; is = refl; of_calls = (tt, low) }
  least_fact false = ⊎_elim
      (λ (z : k ≡ 0). record {
        literal = In 0 1 0;
        is = ap (λ b. cond b (Some (In 0 1 0)) (Some (In w 0 (k - 1)))) (eq-eqb k 0 z);
        of_calls = (tt, omega arith);
      })
      (λ (some : k ≡ 0 → ⊥). record {
        literal = In w 0 (k - 1);
        is = ap (λ b. cond b (Some (In 0 1 0)) (Some (In w 0 (k - 1)))) (ne_eqb k 0 some);
        of_calls = (tt, low);
      })
      (cases_eq k 0)

  pub has_fact : (test : Test) (taken : Bool) → (test ≡ Equal) ⊎ (test ≡ AtLeast) → HasFact w k test taken
  has_fact test taken (inl is) = subst (λ t. HasFact w k t taken) (sym is) (equal_fact taken)
  has_fact test taken (inr is) = subst (λ t. HasFact w k t taken) (sym is) (least_fact taken)

-- ---- the ways on from a place

-- one way, which takes less by the node of the place
pub record OneTakes (policy : Policy) (p : List Insn) (pc : ℕ) (regs : Regs) (known : List Lit) (nodes : ℕ) : Type 0 where
  pub rest : ℕ
  pub some : 1 ≤ rest
  pub less : rest + 1 ≤ nodes
  pub room : length known < 512
  pub takes : Takes policy p pc regs known rest

-- two ways, with a fact more on each
pub record BothTake (policy : Policy) (p : List Insn) (pc : ℕ) (i : Insn) (regs : Regs) (known : List Lit) (nodes : ℕ) : Type 0 where
  pub first : ℕ
  pub second : ℕ
  pub first_some : 1 ≤ first
  pub second_some : 1 ≤ second
  pub less : first + second + 1 ≤ nodes
  pub room : length known < 512
  pub first_takes : Takes policy p (pc + 1 + i.jt) (transfer regs i) (option_to_list (sharp_fact known regs i true) ++ known) first
  pub second_takes : Takes policy p (pc + 1 + i.jf) (transfer regs i) (option_to_list (sharp_fact known regs i false) ++ known) second

module _ (policy : Policy) (p : List Insn) (meant : IsMeant policy p) (pc : ℕ) (regs : Regs) (known : List Lit) (i : Insn)
    (found : slice_get p pc ≡ Some i) (small : i.k < 2 ^ 32) (alive : IsDead known → ⊥) (nodes : ℕ) where
  abbrev calls : List Lit → ℕ
  calls ls = inside 512 policy.machines ls

  abbrev op : Option Operation
  op = operation_of i.code

  accepted : IsAccepted p
  accepted = meant.shape.accepted

  -- some call is possible
  possible : (IsPossible known → ⊥) → ⊥
  possible none =
      alive (
        1,
        omega arith,
        inl (λ t at_t. alive (
          0,
          omega arith,
          inl (λ u at_u.
              none (record { token = t; number = u; token_is = at_t; number_is = at_u })),
        )),
      )

  module _ (path : TakesOnPath policy p pc regs known nodes) where
    leads : (m : Option Move) → move_at op i.k path.held ≡ m → LeadsOn policy p pc path.held known i m
    leads m e = subst (LeadsOn policy p pc path.held known i) e (paths_lead policy p pc path.held known i found small path.of path.answers)

    moves : move_at op i.k path.held ≡ None → ⊥
    moves e = possible (leads None e)

    same_regs : transfer regs i ≡ transfer (regs_of path.held) i
    same_regs = ap (λ s. transfer s i) path.regs_are

    -- a way on at another position
    on_path : (to : ℕ) (now : Option ℕ) (more : List Lit) → HoldsCall now → AnswersThere policy p to now more → All IsOfCalls more
        → length more + depth p to + 20 ≤ 512 → Takes policy p to (regs_of now) more (path_cost p to (calls more))
    on_path to now more of answers of_calls short = inl (record {
      held = now;
      regs_are = refl;
      of = of;
      answers = answers;
      of_calls = of_calls;
      short = short;
      cost = omega arith;
    })

    path_ends : (v : ℕ) → move_at op i.k path.held ≡ Some (Ends v) → TakesAtReturn policy known v nodes
    path_ends v e = record {
      of_calls = path.of_calls;
      says = λ t u at_t at_u.
          (each_record_is_said_one_verdict policy (call t u) v meant.plain.clear (call_is_record t u at_t.0 at_u.0)).1
          (sym (leads (Some (Ends v)) e t u at_t at_u));
      literals = length policy.machines + 10;
      short = let s = path.short in let five = ten_machines policy meant.profile in omega (arith, s, five);
      some = let cost = path.cost in let five = ends_cost p pc i path.held found v e in omega (arith, cost, five);
      stage = inl (record {
        at = 0;
        few = omega arith;
        out = λ k arch less there point. omega (arith, less);
        cost =
            let cost = path.cost in
            let five = ends_cost p pc i path.held found v e in
            let two = meant.plain.few in
            omega (arith, cost, five, two);
        height = omega arith;
      });
    }

    path_goes : (skip : ℕ) (now : Option ℕ) → move_at op i.k path.held ≡ Some (Goes skip now) → pc + 1 + skip < length p
        → OneTakes policy p (pc + 1 + skip) (transfer regs i) known nodes
    path_goes skip now e low =
        let costs = goes_cost p pc i path.held found skip now e in
        let cost = path.cost in
        let short = path.short in
        record {
          rest = path_cost p (pc + 1 + skip) (calls known);
          some = let w = some_weight p (pc + 1 + skip) low in omega (arith, w);
          less = omega (arith, costs.0, cost);
          room = omega (arith, short);
          takes = subst (λ s. Takes policy p (pc + 1 + skip) s known (path_cost p (pc + 1 + skip) (calls known)))
              (sym (same_regs ∙ regs_after i path.held skip now e))
              (on_path (pc + 1 + skip) now known (goes_held op i.k path.held skip now e path.of) (leads (Some (Goes skip now)) e)
              path.of_calls (omega (arith, short, costs.1)));
        }

    path_forks : (test : Test) (w : ℕ) → move_at op i.k path.held ≡ Some (Forks test w) → pc + 1 + i.jt < length p → pc + 1 + i.jf < length p
        → BothTake policy p pc i regs known nodes
    path_forks test w e low also =
        let fork = move_of_is op i.k path.held (Some (Forks test w)) e in
        let held : path.held ≡ Some w = fork.1 in
        let below : w < 2 = subst HoldsCall held path.of in
        let yes = has_fact w i.k below small test true fork.2 in
        let no = has_fact w i.k below small test false fork.2 in
        let l = yes.literal in
        let m = no.literal in
        let of_w : transfer (regs_of (Some w)) i ≡ regs_of (Some w) = ap (λ o. transfer_if o i (regs_of (Some w))) fork.0 in
        let regs_are : regs ≡ regs_of (Some w) = path.regs_are ∙ ap regs_of held in
        let after : transfer regs i ≡ regs_of (Some w) = ap (λ s. transfer s i) regs_are ∙ of_w in
        let fact_of : (taken : Bool) (f : HasFact w i.k test taken) → option_to_list (sharp_fact known regs i taken) ++ known ≡ f.literal ∷ known =
        λ taken f. ap (λ s. option_to_list (sharp_fact known s i taken) ++ known) regs_are
        ∙ ap (λ o. option_to_list o ++ known) (fact_is known i test w taken fork.0 fork.2 small ∙ f.is) in
        let way : (taken : Bool) (f : HasFact w i.k test taken) (to : ℕ) → pc + 1 + cond taken i.jt i.jf ≡ to → depth p to + 1 ≤ depth p pc
        → Takes policy p to (transfer regs i) (option_to_list (sharp_fact known regs i taken) ++ known) (path_cost p to (calls (f.literal ∷ known))) =
        λ taken f to at deep.
        let answers = leads (Some (Forks test w)) e taken f.literal f.is in
        let short = path.short in
        subst (λ s. Takes policy p to s (option_to_list (sharp_fact known regs i taken) ++ known) (path_cost p to (calls (f.literal ∷ known)))) (sym after)
        (subst (λ ls. Takes policy p to (regs_of (Some w)) ls (path_cost p to (calls (f.literal ∷ known)))) (sym (fact_of taken f))
        (on_path to (Some w) (f.literal ∷ known) below
        (subst (λ k. AnswersThere policy p k (Some w) (f.literal ∷ known)) at answers)
        (All-cons IsOfCalls f.literal known f.of_calls path.of_calls) (omega (arith, short, deep)))) in
        let total = forks_total policy p pc i path.held found small test w e known l m yes.is no.is in
        let cost = path.cost in
        let deep = taken_lower policy p pc i path.held found small test w e known l m yes.is no.is in
        let also_deep = other_lower policy p pc i path.held found small test w e known l m yes.is no.is in
        let short = path.short in
        record {
          first = path_cost p (pc + 1 + i.jt) (calls (l ∷ known));
          second = path_cost p (pc + 1 + i.jf) (calls (m ∷ known));
          first_some = let s = some_weight p (pc + 1 + i.jt) low in omega (arith, s);
          second_some = let s = some_weight p (pc + 1 + i.jf) also in omega (arith, s);
          less = omega (arith, total, cost);
          room = omega (arith, short, deep);
          first_takes = way true yes (pc + 1 + i.jt) refl deep;
          second_takes = way false no (pc + 1 + i.jf) refl also_deep;
        }

  -- the operation of a move
  op_of : (o : Option Operation) → op ≡ o → (held : Option ℕ) (m : Option Move) → move_at o i.k held ≡ m → move_at op i.k held ≡ m
  op_of o e held m is = ap (λ x. move_at x i.k held) e ∙ is

  pub ends_takes : action_by op i ≡ action.Ends → Takes policy p pc regs known nodes
      → (op ≡ Some ReturnK) × TakesAtReturn policy known i.k nodes
  ends_takes acts takes = ⊎_elim
      (λ (return : op ≡ Some ReturnK). (
        return,
        ⊎_elim
            (λ (path : TakesOnPath policy p pc regs known nodes). path_ends path i.k (op_of (Some ReturnK) return path.held (Some (Ends i.k)) refl))
            (λ (of : TakesOfReturn policy p pc known nodes).
            subst (λ (x : Insn). TakesAtReturn policy known x.k nodes) (same_Some of.insn i (sym of.found ∙ found)) of.takes)
            takes,
      ))
      (λ (other : op ≡ Some ReturnA). absurd (⊎_elim
      (λ (path : TakesOnPath policy p pc regs known nodes). moves path (op_of (Some ReturnA) other path.held None refl))
      (λ (of : TakesOfReturn policy p pc known nodes).
      let e : Some ReturnK ≡ Some ReturnA = sym of.returns ∙ ap (λ (x : Insn). operation_of x.code) (same_Some of.insn i (sym of.found ∙ found)) ∙ other in cc)
      takes))
      (ends_is op i acts)

  -- no return goes on
  on_a_path : (action_by (Some ReturnK) i ≡ action_by op i → ⊥) → Takes policy p pc regs known nodes → TakesOnPath policy p pc regs known nodes
  on_a_path never (inl path) = path
  on_a_path never (inr of) =
      absurd (never (ap (λ o. action_by o i) (sym (ap (λ (x : Insn). operation_of x.code) (sym (same_Some of.insn i (sym of.found ∙ found))) ∙ of.returns))))

  same_skip : (n m : ℕ) → action.Goes n ≡ action.Goes m → n ≡ m
  same_skip n m e = cc

  pub goes_takes : (skip : ℕ) → action_by op i ≡ action.Goes skip → Takes policy p pc regs known nodes
      → OneTakes policy p (pc + 1 + skip) (transfer regs i) known nodes
  goes_takes skip acts takes = by (move_at op i.k path.held) refl where
    path : TakesOnPath policy p pc regs known nodes
    path = on_a_path (λ same. let e : action.Ends ≡ action.Goes skip = same ∙ acts in cc) takes

    by : (m : Option Move) → move_at op i.k path.held ≡ m → OneTakes policy p (pc + 1 + skip) (transfer regs i) known nodes
    by None e = absurd (moves path e)
    by (Some (Ends v)) e =
        let o = (move_of_is op i.k path.held (Some (Ends v)) e).0 in
        let never : action.Ends ≡ action.Goes skip = ap (λ x. action_by x i) (sym o) ∙ acts in
        cc
    by (Some (Forks test w)) e =
        let o = (move_of_is op i.k path.held (Some (Forks test w)) e).0 in
        let never : action.Forks ≡ action.Goes skip = ap (λ x. action_by x i) (sym o) ∙ acts in
        cc
    by (Some (Goes n now)) e =
        let same : n ≡ skip = ⊎_elim
        (λ (jump : (op ≡ Some Jump) × (n ≡ i.k) × (now ≡ path.held)).
        jump.1 ∙ same_skip i.k skip (ap (λ x. action_by x i) (sym jump.0) ∙ acts))
        (λ (load : IsLoad op i.k n now). load.skip_is ∙ same_skip 0 skip (ap (λ x. action_by x i) (sym load.operation) ∙ acts))
        (move_of_is op i.k path.held (Some (Goes n now)) e) in
        path_goes path skip now (subst (λ k. move_at op i.k path.held ≡ Some (Goes k now)) same e) (goes_inside p pc i found accepted skip acts)

  pub forks_whole : action_by op i ≡ action.Forks → Takes policy p pc regs known nodes → IsWhole regs.a
  forks_whole acts takes =
      let path = on_a_path (λ same. let e : action.Ends ≡ action.Forks = same ∙ acts in cc) takes in
      subst (λ (s : Regs). IsWhole s.a) (sym path.regs_are) (whole path.held)

  pub forks_takes : action_by op i ≡ action.Forks → Takes policy p pc regs known nodes → BothTake policy p pc i regs known nodes
  forks_takes acts takes = by (move_at op i.k path.held) refl where
    path : TakesOnPath policy p pc regs known nodes
    path = on_a_path (λ same. let e : action.Ends ≡ action.Forks = same ∙ acts in cc) takes

    by : (m : Option Move) → move_at op i.k path.held ≡ m → BothTake policy p pc i regs known nodes
    by None e = absurd (moves path e)
    by (Some (Ends v)) e =
        let o = (move_of_is op i.k path.held (Some (Ends v)) e).0 in
        let never : action.Ends ≡ action.Forks = ap (λ x. action_by x i) (sym o) ∙ acts in
        cc
    by (Some (Goes n now)) e = absurd (⊎_elim
        (λ (jump : (op ≡ Some Jump) × (n ≡ i.k) × (now ≡ path.held)).
        let never : action.Goes i.k ≡ action.Forks = ap (λ x. action_by x i) (sym jump.0) ∙ acts in cc)
        (λ (load : IsLoad op i.k n now).
        let never : action.Goes 0 ≡ action.Forks = ap (λ x. action_by x i) (sym load.operation) ∙ acts in cc)
        (move_of_is op i.k path.held (Some (Goes n now)) e))
    by (Some (Forks test w)) e =
        path_forks path test w e (taken_inside p pc i found accepted acts) (other_inside p pc i found accepted acts)
