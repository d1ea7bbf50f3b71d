-- Where code goes on, as more of it is written.
use Rattle.std.proofs.Common.{◌≡◌, ℕ, suc, ◌+◌, ◌<◌, ◌⊎◌, Bool, true, false, List, [], ◌∷◌, ◌++◌, length, refl, ap, sym, ◌∙◌, subst}
use Rattle.std.proofs.Common.{arith, max, append_assoc, length-append, inl, inr}
use Rattle.std.specs.Prelude.{Option, Some, slice_get, slice_index, if◌then◌else◌, Result, Ok, Err, IfOk, OnOk}
use Rattle.bpf_insn.specs.declared.code.Operand.TheVariants.{K}
use Rattle.bpf_insn.specs.declared.code.Test.{Test}
use Rattle.bpf_insn.specs.declared.code.Test.TheVariants.{Equal, AtLeast}
use Rattle.bpf_insn.specs.declared.code.Operation.TheVariants.{ReturnK, Jump, Branch}
use Rattle.bpf_insn.specs.declared.instruction.Insn.{Insn}
use Rattle.bpf_insn.specs.Code.{operation_of}
use Rattle.bpf_insn.specs.Machine.{holds, perform_if}
use Rattle.std.specs.declared.alloc.AllocError.{AllocError}
use Rattle.rule_compile.specs.declared.label.Label.{Label}
use Rattle.rule_compile.specs.declared.label.Target.{Target}
use Rattle.rule_compile.specs.declared.label.Target.TheVariants.{Place, Return}
use Rattle.rule_compile.specs.declared.label.Exits.{Exits}
use Rattle.rule_compile.specs.Moves.{move_at}
use Rattle.rule_compile.specs.Shape.{answer, answer_by, weight, weight_by, depth, depth_by}
use Rattle.rule_compile.specs.Steady.{Held, IsSteady}
use Rattle.rule_compile.specs.inner.Code.{Grows, HasExits, IsIn, IsStart, IsTarget, insn_of, position}
use Rattle.rule_compile.specs.inner.Emitted.{forks, jumps, returns}
use Rattle.rule_compile.specs.inner.Goes.{Branches, JumpsTo, Reaches, cost, deep, goes}
use Rattle.rule_compile.specs.inner.Runs.{gives_from, holding, runs}
use Rattle.rule_compile.proofs.RunsLaws.{gives_ends, gives_goes, runs_kept}
use Rattle.rule_compile.proofs.SteadyLaws.{steady_at_return, steady_branch, steady_jump, steady_kept}
use Rattle.rule_compile.proofs.MachineLaws.{answer_is, answer_more, depth_is, depth_more, weight_is, weight_more}

-- ---- growing

pub grows_same : (code : List Insn) → Grows code code
grows_same code = record { more = []; is = refl; longer = omega arith }

pub grows_front : (i : Insn) (code : List Insn) → Grows code (i ∷ code)
grows_front i code = record { more = i ∷ []; is = refl; longer = omega arith }

pub grows_on : {a b c : List Insn} → Grows a b → Grows b c → Grows a c
grows_on {a} {b} {c} first next = record {
  more = next.more ++ first.more;
  is = next.is ∙ ap (λ x. next.more ++ x) first.is ∙ sym (append_assoc next.more first.more a);
  longer = omega (arith, first.longer, next.longer);
}

pub grows_written : (a b : List Insn) (i : Insn) → b ≡ i ∷ a → Grows a b
grows_written a b i written = subst (Grows a) (sym written) (grows_front i a)

pub grows_after : {T : Type 0} (r : Result T AllocError) (a b c : List Insn) → OnOk r (Grows b c) → Grows a b → OnOk r (Grows a c)
grows_after (Ok x) a b c next first = grows_on first next
grows_after (Err e) a b c next first = tt

-- where an instruction is written in front
pub written_on : {T : Type 0} (r : Result T AllocError) (a b c : List Insn) (i : Insn) → OnOk r (c ≡ i ∷ b) → Grows a b
    → OnOk r (Grows a c)
written_on (Ok place) a b c i written g = subst (Grows a) (sym written) (grows_on g (grows_front i b))
written_on (Err e) a b c i written g = tt

-- what is at a target stays there
module _ (old new : List Insn) (g : Grows old new) where
  place_kept : (l : Label) → IsIn old l → position new l ≡ length g.more + position old l
  place_kept l at = omega (arith, ap length g.is, length-append g.more old, at.1)

  pub goes_kept : (to : Target) → IsTarget old to → (held : Option ℕ) (r : List ℕ) → goes new to held r ≡ goes old to held r
  goes_kept (Return w) at held r = refl
  goes_kept (Place l) at held r =
      ap (λ n. answer new n held r) (place_kept l at)
      ∙ ap (λ c. answer c (length g.more + position old l) held r) g.is
      ∙ answer_more g.more old (position old l) held r

  pub cost_kept : (to : Target) → IsTarget old to → cost new to ≡ cost old to
  cost_kept (Return w) at = refl
  cost_kept (Place l) at =
      ap (λ n. 1 + weight new n) (place_kept l at)
      ∙ ap (λ c. 1 + weight c (length g.more + position old l)) g.is
      ∙ ap (λ n. 1 + n) (weight_more g.more old (position old l))

  pub deep_kept : (to : Target) → IsTarget old to → deep new to ≡ deep old to
  deep_kept (Return w) at = refl
  deep_kept (Place l) at =
      ap (λ n. depth new n) (place_kept l at)
      ∙ ap (λ c. depth c (length g.more + position old l)) g.is
      ∙ depth_more g.more old (position old l)

  pub target_kept : (to : Target) → IsTarget old to → IsTarget new to
  target_kept (Return w) at = tt
  target_kept (Place l) at = (at.0, omega (arith, at.1, g.longer))

-- ---- a place that is near

pub reach_place : (code : List Insn) (to : Label) → IsIn code to → length code < to.to_end + 255 → Reaches code code (Place to) to
reach_place code to at near = record {
  grows = grows_same code;
  placed = at;
  near = near;
  one = omega arith;
  runs = λ a r. refl;
  answers = λ held r. refl;
  weighs = omega arith;
  shallow = omega arith;
  steady = λ h s. s;
  fine = λ fine. fine;
}

pub reach_jump : (code : List Insn) (to place : Label) → IsIn code to → IsIn code place → length code < place.to_end + 255
    → JumpsTo code to place
    → Reaches code code (Place to) place
reach_jump code to place at placed near j =
    let on : position code place + 1 + j.jump.k ≡ position code to = omega (arith, j.leads, at.1, placed.1) in
    let weighs : weight code (position code place) ≡ 1 + weight code (position code to) =
    weight_is code (position code place) j.jump (1 + weight code (position code to)) j.stands
    (λ rest same. ap (λ o. weight_by o j.jump rest) j.is_jump ∙ ap (λ n. 1 + n) (same j.jump.k ∙ ap (weight code) on)) in
    let shallow : depth code (position code place) ≡ depth code (position code to) =
    depth_is code (position code place) j.jump (depth code (position code to)) j.stands
    (λ rest same. ap (λ o. depth_by o j.jump rest) j.is_jump ∙ (same j.jump.k ∙ ap (depth code) on)) in
    record {
      grows = grows_same code;
      placed = placed;
      near = near;
      one = omega arith;
      runs = λ a r.
          gives_goes code (position code place) j.jump a r j.jump.k a (position code to) j.stands
          (ap (λ o. perform_if o r j.jump (holding a)) j.is_jump) (sym on);
      answers = λ held r. answer_is code (position code place) j.jump held r (answer code (position code to) held r) j.stands
          (λ rest same. ap (λ o. answer_by (move_at o j.jump.k held) j.jump r rest) j.is_jump
          ∙ (same j.jump.k held ∙ ap (λ n. answer code n held r) on));
      weighs = omega (arith, weighs);
      shallow = omega (arith, shallow);
      steady = λ h s. steady_jump code (position code place) j.jump h j.stands j.is_jump (subst (λ n. IsSteady code n h) (sym on) s);
      fine = λ fine. fine;
    }

-- the same where a jump was just written
pub reach_new_jump : (old : List Insn) (jump : Insn) (to place : Label) → IsIn old to → place.to_end ≡ length (jump ∷ old)
    → operation_of jump.code ≡ Some Jump → jump.k + to.to_end ≡ length old → Reaches old (jump ∷ old) (Place to) place
reach_new_jump old jump to place at start is_jump leads =
    let new : List Insn = jump ∷ old in
    let first : position new place ≡ 0 = omega (arith, start) in
    let near : length new < place.to_end + 255 = omega (arith, start) in
    let at_new : IsIn new to = (at.0, omega (arith, at.1)) in
    let j : JumpsTo new to place = record {
      jump = jump;
      stands = ap (slice_get new) first;
      is_jump = is_jump;
      leads = omega (arith, leads, start);
    } in
    let there = reach_jump new to place at_new (omega (arith, start), omega (arith, start)) near j in
    let g = grows_front jump old in
    record {
      grows = g;
      placed = (omega (arith, start), omega (arith, start));
      near = near;
      one = omega arith;
      runs = λ a r. there.runs a r ∙ runs_kept old new g (Place to) at a r;
      answers = λ held r. there.answers held r ∙ goes_kept old new g (Place to) at held r;
      weighs = omega (arith, there.weighs, cost_kept old new g (Place to) at);
      shallow = omega (arith, there.shallow, deep_kept old new g (Place to) at);
      steady = λ h s. there.steady h (steady_kept old new g (Place to) at h s);
      fine = λ fine. (jumps is_jump (omega (arith, leads, at.0)), fine);
    }

pub jump_code : operation_of 0x05 ≡ Some Jump
unfolding operation_of
jump_code = refl

-- ---- a return

pub record Returns (code : List Insn) (word : ℕ) (place : Label) : Type 0 where
  pub runs : (a : ℕ) (r : List ℕ) → gives_from code (position code place) a r ≡ Some word
  pub answers : (held : Option ℕ) (r : List ℕ) → answer code (position code place) held r ≡ Some word
  pub weighs : weight code (position code place) ≡ 5
  pub shallow : depth code (position code place) ≡ 0
  pub steady : (h : Held) → IsSteady code (position code place) h

pub return_code : operation_of 0x06 ≡ Some ReturnK
unfolding operation_of
return_code = refl

pub returns_at : (code : List Insn) (word : ℕ) (place : Label) → slice_get code (position code place) ≡ Some (insn_of ReturnK word)
    → Returns code word place
returns_at code word place stands =
    let i : Insn = insn_of ReturnK word in
    record {
      runs = λ a r. gives_ends code (position code place) i a r word stands (ap (λ o. perform_if o r i (holding a)) return_code);
      answers = λ held r. answer_is code (position code place) i held r (Some word) stands
          (λ rest same. ap (λ o. answer_by (move_at o word held) i r rest) return_code);
      weighs = weight_is code (position code place) i 5 stands (λ rest same. ap (λ o. weight_by o i rest) return_code);
      shallow = depth_is code (position code place) i 0 stands (λ rest same. ap (λ o. depth_by o i rest) return_code);
      steady = λ h. steady_at_return code (position code place) i h stands return_code;
    }

-- from a return that is found
pub reach_return : (old new : List Insn) (word : ℕ) (found place : Label) → slice_get old (position old found) ≡ Some (insn_of ReturnK word)
    → Reaches old new (Place found) place → Reaches old new (Return word) place
reach_return old new word found place stands there =
    let at = returns_at old word found stands in
    record {
      grows = there.grows;
      placed = there.placed;
      near = there.near;
      one = there.one;
      runs = λ a r. there.runs a r ∙ at.runs a r;
      answers = λ held r. there.answers held r ∙ at.answers held r;
      weighs = omega (arith, there.weighs, at.weighs);
      shallow = omega (arith, there.shallow, at.shallow);
      steady = λ h s. there.steady h (at.steady h);
      fine = there.fine;
    }

-- from one that was just written
pub reach_new_return : (old : List Insn) (word : ℕ) (place : Label) → place.to_end ≡ length (insn_of ReturnK word ∷ old)
    → Reaches old (insn_of ReturnK word ∷ old) (Return word) place
reach_new_return old word place start =
    let new : List Insn = insn_of ReturnK word ∷ old in
    let first : position new place ≡ 0 = omega (arith, start) in
    let at = returns_at new word place (ap (slice_get new) first) in
    record {
      grows = grows_front (insn_of ReturnK word) old;
      placed = (omega (arith, start), omega (arith, start));
      near = omega (arith, start);
      one = omega arith;
      runs = at.runs;
      answers = at.answers;
      weighs = omega (arith, at.weighs);
      shallow = omega (arith, at.shallow);
      steady = λ h s. at.steady h;
      fine = λ fine. (returns return_code, fine);
    }

-- where one instruction is written
pub if_written : (r : Result Label AllocError) (old new : List Insn) (i : Insn) (to : Target) → OnOk r (new ≡ i ∷ old)
    → IfOk r (IsStart new)
    → ((place : Label) → place.to_end ≡ length (i ∷ old) → Reaches old (i ∷ old) to place) → IfOk r (Reaches old new to)
if_written (Ok place) old new i to written start reach =
    subst (λ code. Reaches old code to place) (sym written) (reach place (start.1 ∙ ap length written))
if_written (Err e) old new i to written start reach = tt

pub if_reached : (r : Result Label AllocError) (old new : List Insn) (word : ℕ) (found : Label)
    → slice_get old (position old found) ≡ Some (insn_of ReturnK word)
    → IfOk r (Reaches old new (Place found)) → IfOk r (Reaches old new (Return word))
if_reached (Ok place) old new word found stands there = reach_return old new word found place stands there
if_reached (Err e) old new word found stands there = tt

pub if_branched : (r : Result Label AllocError) (old top new : List Insn) (i : Insn) (test : Test) (k : ℕ) (exits : Exits)
    → OnOk r (new ≡ i ∷ top)
    → Branches old (i ∷ top) test k exits → OnOk r (Branches old new test k exits)
if_branched (Ok place) old top new i test k exits written is = subst (λ code. Branches old code test k exits) (sym written) is
if_branched (Err e) old top new i test k exits written is = tt

-- ---- a comparison

module _ (old mid top : List Insn) (test : Test) (k : ℕ) (exits : Exits) (jump : Insn) (no yes : Label)
    (exist : HasExits old exits) (to_no : Reaches old mid exits.no no) (to_yes : Reaches mid top exits.yes yes)
    (is_branch : operation_of jump.code ≡ Some (Branch test K)) (k_is : jump.k ≡ k)
    (jt_is : jump.jt + yes.to_end ≡ length top) (jf_is : jump.jf + no.to_end ≡ length top) where
  yes_at : jump.jt ≡ position top yes
  yes_at = omega (arith, jt_is)

  no_at : jump.jf ≡ position top no
  no_at = omega (arith, jf_is)

  yes_answers : (held : Option ℕ) (r : List ℕ) → answer top jump.jt held r ≡ goes old exits.yes held r
  yes_answers held r =
      ap (λ n. answer top n held r) yes_at ∙ to_yes.answers held r ∙ goes_kept old mid to_no.grows exits.yes exist.yes held r

  no_answers : (held : Option ℕ) (r : List ℕ) → answer top jump.jf held r ≡ goes old exits.no held r
  no_answers held r =
      ap (λ n. answer top n held r) no_at ∙ goes_kept mid top to_yes.grows (Place no) to_no.placed held r ∙ to_no.answers held r

  goes_by : (came : Bool) (held : Option ℕ) (r : List ℕ)
      → answer top (if came then jump.jt else jump.jf) held r ≡ goes old (if came then exits.yes else exits.no) held r
  goes_by true held r = yes_answers held r
  goes_by false held r = no_answers held r

  runs_by : (came : Bool) (a : ℕ) (r : List ℕ)
      → gives_from top (if came then jump.jt else jump.jf) a r ≡ runs old (if came then exits.yes else exits.no) a r
  runs_by true a r =
      ap (λ n. gives_from top n a r) yes_at ∙ to_yes.runs a r ∙ runs_kept old mid to_no.grows exits.yes exist.yes a r
  runs_by false a r =
      ap (λ n. gives_from top n a r) no_at ∙ runs_kept mid top to_yes.grows (Place no) to_no.placed a r ∙ to_no.runs a r

  branch_goes_on : (a : ℕ) (r : List ℕ) → gives_from (jump ∷ top) 0 a r ≡ gives_from top (if holds test a jump.k then jump.jt else jump.jf) a r
  branch_goes_on a r =
      let skip : ℕ = if holds test a jump.k then jump.jt else jump.jf in
      gives_goes (jump ∷ top) 0 jump a r skip a (suc skip) refl (ap (λ o. perform_if o r jump (holding a)) is_branch) (omega arith)

  by_test : (t : Test) → ((t ≡ Equal) ⊎ (t ≡ AtLeast)) → (w : ℕ) (r : List ℕ)
      → answer_by (move_at (Some (Branch t K)) jump.k (Some w)) jump r (λ skip now. answer top skip now r)
      ≡ answer top (if holds t (slice_index r w) jump.k then jump.jt else jump.jf) (Some w) r
  by_test t (inl e) w r = rw e refl
  by_test t (inr e) w r = rw e refl

  pub branches : Branches old (jump ∷ top) test k exits
  branches = record {
    grows = grows_on to_no.grows (grows_on to_yes.grows (grows_front jump top));
    runs = λ a r.
        branch_goes_on a r ∙ runs_by (holds test a jump.k) a r
        ∙ ap (λ n. runs old (if holds test a n then exits.yes else exits.no) a r) k_is;
    answers = λ told w r.
        ap (λ o. answer_by (move_at o jump.k (Some w)) jump r (λ skip now. answer top skip now r)) is_branch
        ∙ by_test test told w r
        ∙ goes_by (holds test (slice_index r w) jump.k) (Some w) r
        ∙ ap (λ n. goes old (if holds test (slice_index r w) n then exits.yes else exits.no) (Some w) r) k_is;
    weighs =
        let is : weight (jump ∷ top) 0 ≡ 1 + (weight top jump.jt + weight top jump.jf) = ap (λ o. weight_by o jump
        (weight top)) is_branch in
        let yes_is : weight top jump.jt ≡ weight top (position top yes) = ap (weight top) yes_at in
        let no_is : weight top jump.jf ≡ weight top (position top no) = ap (weight top) no_at in
        omega (
          arith,
          is,
          yes_is,
          no_is,
          to_yes.weighs,
          to_no.weighs,
          cost_kept old mid to_no.grows exits.yes exist.yes,
          cost_kept mid
              top to_yes.grows (Place no) to_no.placed,
        );
    shallow =
        let is : depth (jump ∷ top) 0 ≡ 1 + max (depth top jump.jt) (depth top jump.jf) = ap (λ o. depth_by o jump (depth top)) is_branch in
        let yes_is : depth top jump.jt ≡ depth top (position top yes) = ap (depth top) yes_at in
        let no_is : depth top jump.jf ≡ depth top (position top no) = ap (depth top) no_at in
        omega (
          arith,
          is,
          yes_is,
          no_is,
          to_yes.shallow,
          to_no.shallow,
          deep_kept old mid to_no.grows exits.yes exist.yes,
          deep_kept mid
              top to_yes.grows (Place no) to_no.placed,
        );
    steady = λ h tells yes_is no_is.
        let on_yes : IsSteady top (position top yes) h = to_yes.steady h (steady_kept old mid to_no.grows exits.yes exist.yes h yes_is) in
        let on_no : IsSteady top (position top no) h =
        steady_kept mid top to_yes.grows (Place no) to_no.placed h (to_no.steady h no_is) in
        steady_branch jump top test is_branch h tells (subst (λ n. IsSteady top n h) (sym yes_at) on_yes)
        (subst (λ n. IsSteady top n h) (sym no_at) on_no);
    fine = λ fine. (
      forks test is_branch (omega (arith, jt_is, to_yes.placed.0)) (omega (arith, jf_is, to_no.placed.0)),
      to_yes.fine
          (to_no.fine fine),
    );
    short = omega (arith, to_no.one, to_yes.one);
  }
