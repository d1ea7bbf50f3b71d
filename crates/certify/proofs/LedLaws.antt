-- The runs that come to a place go on to the places that it leads to.
use Rattle.std.proofs.Common.{◌≡◌, ℕ, ◌+◌, Bool, true, false, cond, List, ◌∷◌, ◌++◌, refl, ap, sym, ◌∙◌, subst}
use Rattle.std.specs.Prelude.{All, Option, Some, None, slice_get, option_to_list, IfSome}
use Rattle.std.specs.Option.{option_map}
use Rattle.std.proofs.lemmas.Option.{none-some}
use Rattle.std.proofs.lemmas.List.Elements.{All-head, All-tail}
use Rattle.call_record.specs.Words.{IsRecord}
use Rattle.bpf_insn.specs.declared.code.Operation.{Operation}
use Rattle.bpf_insn.specs.declared.code.Operation.TheVariants.{Branch, ReturnA, ReturnK}
use Rattle.bpf_insn.specs.declared.instruction.Insn.{Insn}
use Rattle.bpf_insn.specs.Code.{operation_of}
use Rattle.bpf_insn.specs.Machine.{Registers, Step, Ends, Goes, Stuck, holds, operand, perform_if, step, verdict_of}
use Rattle.kernel_check.specs.Accepted.{IsAccepted}
use Rattle.kernel_check.proofs.RunLaws.{leads, plain, runs}
use Rattle.cert_state.specs.declared.literal.AVal.{AVal}
use Rattle.cert_state.specs.declared.literal.AVal.TheVariants.{Unknown, Const, Masked}
use Rattle.cert_state.specs.declared.literal.Lit.{Lit}
use Rattle.cert_state.specs.declared.literal.Regs.{Regs}
use Rattle.cert_state.specs.Literals.{Holds}
use Rattle.cert_state.specs.Sharp.{sharp_fact, sharp_fact_by}
use Rattle.cert_state.specs.States.{HasValue, Inside}
use Rattle.cert_state.specs.Transfer.{operand_value, transfer}
use Rattle.cert_state.proofs.SharpLaws.{follows_sharp_fact}
use Rattle.cert_state.proofs.StepLaws.{stays_inside}
use Rattle.cert_check.specs.Rules.{value_verdict, verdict_by}
use Rattle.certify.specs.declared.action.Action.TheVariants as action
use Rattle.certify.specs.Telling.{TellsFrom, telling_by}
use Rattle.certify.specs.inner.Actions.{action_by}
use Rattle.certify.specs.inner.Follow.{GivesThere}
use Rattle.certify.specs.inner.Led.{IsLed, RunsTo}
use Rattle.certify.proofs.ActionLaws.{IsBranch, forks_is, leads_on, never_ends, telling_on, verdict_known}
use Rattle.certify.proofs.ApartLaws.{apart}
use Rattle.certify.proofs.EndLaws.{given, given_ends, given_goes, given_stuck}
use Rattle.certify.proofs.TellingLaws.{telling_at}

-- what is known may be more, if it is true
more_inside : (regs : Regs) (known more : List Lit) (r : List ℕ) (s : Registers) → All (λ l. Holds l r) more → Inside regs known r s
    → Inside regs more r s
more_inside regs known more r s all inside = record {
  known = all;
  has_a = inside.has_a;
  has_x = inside.has_x;
  sixteen = inside.sixteen;
  has_scratch = inside.has_scratch;
}

-- where more is known
pub led_more : (p : List Insn) (pc : ℕ) (regs : Regs) (l : Lit) (known : List Lit) → IsLed p pc regs known → IsLed p pc regs (l ∷ known)
led_more p pc regs l known led = record {
  runs = λ r is_r all.
      let from = led.runs r is_r (All-tail (λ l. Holds l r) l known all) in
      record {
        registers = from.registers;
        inside = more_inside regs known (l ∷ known) r from.registers all from.inside;
        gives = from.gives;
      };
  telling = led.telling;
}

parts : (r : List ℕ) (o : Option Lit) (known : List Lit) → All (λ l. Holds l r) (option_to_list o ++ known)
    → IfSome o (λ l. Holds l r) × All (λ l. Holds l r) known
parts r None known all = (tt, all)
parts r (Some l) known all = (All-head (λ l. Holds l r) l known all, All-tail (λ l. Holds l r) l known all)

-- a run ends by the verdict that a return is known to give
ends_by : (o : Option Operation) (r : List ℕ) (i : Insn) (s : Registers) (regs : Regs) (word : ℕ) → HasValue regs.a r s.a
    → verdict_by o regs i ≡ Some word → perform_if o r i s ≡ Ends word
ends_by None r i s regs word has known = absurd (none-some word known)
ends_by (Some ReturnK) r i s regs word has known = let same : i.k ≡ word = cc in ap Ends same
ends_by (Some ReturnA) r i s regs word has known = by_value regs.a has known where
  by_value : (v : AVal) → HasValue v r s.a → value_verdict v ≡ Some word → Ends s.a ≡ Ends word
  by_value (Const c) h k = let same : c ≡ word = cc in ap Ends (h ∙ same)
  by_value Unknown h k = absurd (none-some word k)
  by_value (Masked v m) h k = absurd (none-some word k)
ends_by (Some _) r i s regs word has known = absurd (none-some word known)

module _ (p : List Insn) (accepted : IsAccepted p) (pc : ℕ) (i : Insn) (found : slice_get p pc ≡ Some i) (regs : Regs) (known : List Lit)
    (led : IsLed p pc regs known) where
  telling : telling_by (operation_of i.code) i regs (λ skip. TellsFrom p (pc + 1 + skip) (transfer regs i))
  telling = telling_at p pc i regs found led.telling

  -- an accepted program is not stuck
  never_stuck : (r : List ℕ) → IsRecord r → (s : Registers) → verdict_of p r ≡ given p pc s r → step r i s ≡ Stuck → ⊥
  never_stuck r is_r s gives e =
      let end = runs p r accepted is_r.length_is in
      none-some end.0 (sym (given_stuck p pc i s r found e) ∙ sym gives ∙ ap (option_map (λ (end : ℕ × ℕ). end.0)) end.2)

  -- the run goes on
  goes : (r : List ℕ) → IsRecord r → (from : RunsTo p r pc regs known) → (skip : ℕ) (t : Registers) → step r i from.registers ≡ Goes skip t
      → RunsTo p r (pc + 1 + skip) (transfer regs i) known
  goes r is_r from skip t e = record {
    registers = t;
    inside = stays_inside regs known i (plain p pc i accepted found) r from.registers skip t is_r from.inside e;
    gives = from.gives ∙ given_goes p pc i from.registers r skip t found e;
  }

  pub led_goes : (skip : ℕ) → action_by (operation_of i.code) i ≡ action.Goes skip → IsLed p (pc + 1 + skip) (transfer regs i) known
  led_goes skip acts = record {
    runs = λ r is_r all. let from = led.runs r is_r all in by_step r is_r from (step r i from.registers) refl;
    telling = telling_on i skip (operation_of i.code) regs (λ skip. TellsFrom p (pc + 1 + skip) (transfer regs i)) acts telling;
  } where
    by_step : (r : List ℕ) → IsRecord r → (from : RunsTo p r pc regs known) → (does : Step) → step r i from.registers ≡ does
        → RunsTo p r (pc + 1 + skip) (transfer regs i) known
    by_step r is_r from (Ends word) e = absurd (never_ends i skip (operation_of i.code) r from.registers word acts e)
    by_step r is_r from (Goes k t) e =
        let next : pc + 1 + k ≡ pc + 1 + skip =
        leads_on i skip (operation_of i.code) pc (pc + 1 + k) acts (leads pc i r from.registers t k e) in
        subst (λ n. RunsTo p r n (transfer regs i) known) next (goes r is_r from k t e)
    by_step r is_r from Stuck e = absurd (never_stuck r is_r from.registers from.gives e)

  pub led_forks : action_by (operation_of i.code) i ≡ action.Forks → (taken : Bool)
      → IsLed p (pc + 1 + cond taken i.jt i.jf) (transfer regs i) (option_to_list (sharp_fact known regs i taken) ++ known)
  led_forks acts taken = record {
    runs = λ r is_r all.
        let split = parts r (sharp_fact known regs i taken) known all in
        let from = led.runs r is_r split.1 in
        let s = from.registers in
        let out = came_out r is_r s from.inside (holds branch.test s.a (operand branch.operand i s)) taken refl split.0 in
        let does : step r i s ≡ Goes (cond taken i.jt i.jf) s =
        ap (λ o. perform_if o r i s) branch.is ∙ ap (λ b. Goes (cond b i.jt i.jf) s) out in
        let next = goes r is_r from (cond taken i.jt i.jf) s does in
        record {
          registers = next.registers;
          inside = more_inside (transfer regs i) known (option_to_list (sharp_fact known regs i taken) ++ known) r next.registers all
              next.inside;
          gives = next.gives;
        };
    telling = by_way taken;
  } where
    branch : IsBranch (operation_of i.code)
    branch = forks_is (operation_of i.code) i acts

    now : telling_by (Some (Branch branch.test branch.operand)) i regs (λ skip. TellsFrom p (pc + 1 + skip) (transfer regs i))
    now = subst (λ o. telling_by o i regs (λ skip. TellsFrom p (pc + 1 + skip) (transfer regs i))) branch.is telling

    by_way : (taken : Bool) → TellsFrom p (pc + 1 + cond taken i.jt i.jf) (transfer regs i)
    by_way true = now.1
    by_way false = now.2

    -- it came out as the fact says that is true
    came_out : (r : List ℕ) → IsRecord r → (s : Registers) → Inside regs known r s → (b taken : Bool)
        → holds branch.test s.a (operand branch.operand i s) ≡ b → IfSome (sharp_fact known regs i taken) (λ l. Holds l r) → b ≡ taken
    came_out r is_r s inside b taken is tell =
        by_both b taken (subst (λ b. IfSome (sharp_fact known regs i b) (λ l. Holds l r)) is
        (follows_sharp_fact regs known i r s branch.test branch.operand is_r inside branch.is)) tell where
          two : IfSome (sharp_fact known regs i true) (λ l. Holds l r) → IfSome (sharp_fact known regs i false) (λ l. Holds l r) → ⊥
          two one other =
              apart r known branch.test regs.a (operand_value branch.operand i regs) now.0
              (subst (λ o. IfSome (sharp_fact_by known o i regs true) (λ l. Holds l r)) branch.is one)
              (subst (λ o. IfSome (sharp_fact_by known o i regs false) (λ l. Holds l r)) branch.is other)

          by_both : (b taken : Bool) → IfSome (sharp_fact known regs i b) (λ l. Holds l r)
              → IfSome (sharp_fact known regs i taken) (λ l. Holds l r) → b ≡ taken
          by_both true true one other = refl
          by_both false false one other = refl
          by_both true false one other = absurd (two one other)
          by_both false true one other = absurd (two other one)

  -- the verdict of a return
  pub led_return : (word : ℕ) → verdict_by (operation_of i.code) regs i ≡ Some word → GivesThere p known word
  led_return word known_is r is_r all =
      let from = led.runs r is_r all in
      from.gives
      ∙ given_ends p pc i from.registers r word found
      (ends_by (operation_of i.code) r i from.registers regs word from.inside.has_a known_is)

  pub led_known : action_by (operation_of i.code) i ≡ action.Ends → (word : ℕ) × (verdict_by (operation_of i.code) regs i ≡ Some word)
  led_known acts = verdict_known (operation_of i.code) i regs (λ skip. TellsFrom p (pc + 1 + skip) (transfer regs i)) acts telling
