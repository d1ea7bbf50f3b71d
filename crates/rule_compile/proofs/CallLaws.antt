-- Code that answers all calls: from what it is written of.
use Rattle.std.proofs.Common.{◌≡◌, ℕ, zero, suc, ◌==◌, ◌+◌, ◌*◌, ◌%◌, ◌<◌, ◌≤◌, ◌^◌, ◌⊎◌, true, false, List, [], ◌∷◌, length, refl, ap}
use Rattle.std.proofs.Common.{sym, ◌∙◌, subst, arith, inl, inr}
use Rattle.std.specs.Prelude.{Option, Some, None, slice_index_or, Result, Ok, Err, IfOk, OnOk}
use Rattle.std.specs.List.{All, Contains}
use Rattle.std.proofs.lemmas.Option.{same_Some}
use Rattle.std.proofs.lemmas.List.Elements.{All-contains_itself, All-tail, All-weaker}
use Rattle.std.proofs.lemmas.Bool.{cases_eq, eq-eqb, ne_eqb}
use Rattle.std.proofs.lemmas.Bool.Decides.{Decides-eqb}
use Rattle.std.proofs.lemmas.List.Folds.{Any-from_list_any}
use Rattle.bpf_insn.specs.declared.code.Test.TheVariants.{Equal}
use Rattle.bpf_insn.specs.declared.code.Operation.TheVariants.{LoadWord}
use Rattle.bpf_insn.specs.declared.instruction.Insn.{Insn}
use Rattle.bpf_insn.specs.Code.{operation_of}
use Rattle.machines.specs.declared.arch.Arch.{Arch}
use Rattle.machines.specs.Arch.{token_of}
use Rattle.profile.specs.Policy.{InOrder, Policy}
use Rattle.profile.specs.Said.{said}
use Rattle.std.specs.declared.alloc.AllocError.{AllocError}
use Rattle.rule_compile.specs.declared.written.Written.{Written}
use Rattle.rule_compile.specs.declared.label.Label.{Label}
use Rattle.rule_compile.specs.declared.label.Target.{Target}
use Rattle.rule_compile.specs.declared.label.Target.TheVariants.{Place, Return}
use Rattle.rule_compile.specs.declared.label.Exits.{Exits}
use Rattle.rule_compile.specs.declared.ranges.Leaf.TheVariants.{Verdict}
use Rattle.rule_compile.specs.declared.ranges.Range.{Range}
use Rattle.rule_compile.specs.Moves.{move_at}
use Rattle.rule_compile.specs.Decides.{Tiles}
use Rattle.rule_compile.specs.Shape.{IsCallFilter, IsPlain, answer, answer_by, call, depth, depth_by, has_token, tokens, weight, weight_by}
use Rattle.rule_compile.specs.inner.Calls.{AnswersMachine, AnswersThese, Apart, CallsOf, IsOneOf}
use Rattle.rule_compile.specs.inner.Code.{Grows, IsStart, IsTarget, insn_of, position}
use Rattle.rule_compile.specs.inner.Emitted.{AreFine, loads}
use Rattle.rule_compile.specs.inner.Goes.{Branches, Reaches, cost, deep, goes}
use Rattle.rule_compile.specs.inner.Numbers.{IsListed, HasVerdict, said_of}
use Rattle.rule_compile.specs.inner.Ranges.{AreOfVerdicts, Found, IsAtFront, Searched, loads as loads_word, returns}
use Rattle.rule_compile.proofs.AcceptLaws.{fine_is_accepted}
use Rattle.rule_compile.proofs.FindLaws.{branch_cost, branch_deep, branch_goes}
use Rattle.rule_compile.proofs.GoesLaws.{cost_kept, deep_kept, goes_kept, grows_on, grows_written, target_kept}
use Rattle.rule_compile.proofs.RangeLaws.{said_foreign, tiles_cover, tiles_in_order}

-- ---- a load

load_code : operation_of 0x20 ≡ Some LoadWord
unfolding operation_of
load_code = refl

module _ (code : List Insn) where
  number_answers : (held : Option ℕ) (r : List ℕ) → answer (insn_of LoadWord 0 ∷ code) 0 held r ≡ answer code 0 (Some 0) r
  number_answers held r = ap (λ o. answer_by (move_at o 0 held) (insn_of LoadWord 0) r (λ skip now. answer code skip now r)) load_code

  machine_answers : (held : Option ℕ) (r : List ℕ) → answer (insn_of LoadWord 4 ∷ code) 0 held r ≡ answer code 0 (Some 1) r
  machine_answers held r = ap (λ o. answer_by (move_at o 4 held) (insn_of LoadWord 4) r (λ skip now. answer code skip now r)) load_code

  load_weighs : (k : ℕ) → weight (insn_of LoadWord k ∷ code) 0 ≡ 1 + weight code 0
  load_weighs k = ap (λ o. weight_by o (insn_of LoadWord k) (weight code)) load_code

  load_shallow : (k : ℕ) → depth (insn_of LoadWord k ∷ code) 0 ≡ depth code 0
  load_shallow k = ap (λ o. depth_by o (insn_of LoadWord k) (depth code)) load_code

  load_fine : (k : ℕ) → k < 64 → k % 4 ≡ 0 → 0 < length code → AreFine code → AreFine (insn_of LoadWord k ∷ code)
  load_fine k small even some fine = (loads load_code small even some, fine)

start_first : (code : List Insn) (place : Label) → IsStart code place → position code place ≡ 0
start_first code place start = omega (arith, start.1)

-- ---- the calls of one machine

module _ (p : Policy) (t : ℕ) (old mid : List Insn) (ranges : List Range) (to : Target) (found : Found old mid ranges 32 to)
    (tiles : Tiles 0 ranges (2 ^ 32))
    (few : length ranges ≤ 515) (has_verdicts : All (HasVerdict (said_of p t)) ranges) where
  of_verdicts : AreOfVerdicts ranges
  of_verdicts k d within = let own = has_verdicts k d within in (own.0, own.1)

  number_found : (u : ℕ) → u < 2 ^ 32 → goes mid to (Some 0) (call t u) ≡ Some (said_of p t u)
  number_found u small =
      let at = tiles_cover ranges 0 (2 ^ 32) u tiles (omega arith) small in
      let none : Range = record { first = 0; last = 0; leaf = Verdict 0 } in
      let own = has_verdicts at.0 none at.1 in
      found.finds of_verdicts (tiles_in_order ranges 0 (2 ^ 32) tiles) at.0 none at.1 own.0 (call t u) own.1 (at.2 none)
      ∙ ap Some (sym (own.2 u (at.2 none)))

  pub calls_return : (word : ℕ) → to ≡ Return word → AnswersMachine p t old mid (Return word)
  calls_return word is =
      let c = found.costs of_verdicts in
      let f = c.frugal in
      record {
        answers = λ held u small. ap (λ q. goes mid q (Some 0) (call t u)) (sym is) ∙ number_found u small;
        short = omega (arith, f.short, c.fewer, few);
        light = omega arith;
        shallow = omega arith;
        fine = f.fine;
        front = subst (IsAtFront old mid) is f.front;
      }

  pub calls_load : (first place : Label) (new : List Insn) → to ≡ Place first → new ≡ insn_of LoadWord 0 ∷ mid → IsStart new place
      → AnswersMachine p t old new (Place place)
  calls_load first place new is written start =
      let c = found.costs of_verdicts in
      let f = c.frugal in
      let front : IsStart mid first = subst (IsAtFront old mid) is f.front in
      let light : cost mid (Place first) ≤ 8 * c.comparisons + 6 = subst (λ q. cost mid q ≤ 8 * c.comparisons + 6) is f.light in
      let shallow : 2 * deep mid (Place first) ≤ 2 * 32 + 32 + length ranges + 1 = subst
      (λ q. 2 * deep mid q ≤ 2 * 32 + 32 + length ranges + 1) is c.halved in
      let at : position new place ≡ 0 = start_first new place start in
      let one : position mid first ≡ 0 = start_first mid first front in
      let weighs : weight new 0 ≡ 1 + weight mid 0 = ap (λ code. weight code 0) written ∙ load_weighs mid 0 in
      let deeps : depth new 0 ≡ depth mid 0 = ap (λ code. depth code 0) written ∙ load_shallow mid 0 in
      record {
        answers = λ held u small.
            ap (λ n. answer new n held (call t u)) at ∙ ap (λ code. answer code 0 held (call t u)) written
            ∙ number_answers mid held (call t u)
            ∙ ap (λ n. answer mid n (Some 0) (call t u)) (sym one) ∙ ap (λ q. goes mid q (Some 0) (call t u)) (sym is)
            ∙ number_found u small;
        short = omega (arith, ap length written, f.short, c.fewer, few);
        light = omega (arith, weighs, ap (weight new) at, ap (weight mid) one, light, c.fewer, few);
        shallow = omega (arith, deeps, ap (depth new) at, ap (depth mid) one, shallow, few);
        fine = λ fine. subst AreFine (sym written) (load_fine mid 0 (omega arith) refl (omega (arith, front.0, front.1)) (f.fine fine));
        front = start;
      }

pub calls_searched : (p : Policy) (t : ℕ) (old mid new : List Insn) (ranges : List Range) (target : Target)
    → Searched mid new ranges 0 target → mid ≡ old
    → Tiles 0 ranges (2 ^ 32) → length ranges ≤ 515 → All (HasVerdict (said_of p t)) ranges → AnswersMachine p t old new target
calls_searched p t old mid new ranges target (returns word found is) same tiles few has_verdicts =
    subst (λ code. AnswersMachine p t code new target) same
    (subst (AnswersMachine p t mid new) (sym is) (calls_return p t mid new ranges (Return word) found tiles few has_verdicts word refl))
calls_searched p t old mid new ranges target (loads_word code begun first place found grown begins written start is) same tiles few has_verdicts =
    let front : IsStart code first = (found.costs (of_verdicts p t mid code ranges (Place first) found tiles few has_verdicts)).frugal.front in
    let loaded : new ≡ insn_of LoadWord 0 ∷ code = written ∙ ap (λ code. insn_of LoadWord 0 ∷ code) (begins front) in
    subst (λ code. AnswersMachine p t code new target) same
    (subst (AnswersMachine p t mid new) (sym is)
    (calls_load p t mid code ranges (Place first) found tiles few has_verdicts first place new refl loaded start))

pub searched_grows : (old new : List Insn) (ranges : List Range) (word : ℕ) (target : Target) → Searched old new ranges word target
    → Grows old new
searched_grows old new ranges word target (returns answer found is) = found.grows
searched_grows old new ranges word target (loads_word mid begun first place found grown begins written start is) = grows_on found.grows
    (grows_on grown (grows_written begun new _ written))

pub on_searched : (r : Result Written AllocError) (old new : List Insn) (ranges : List Range) (word : ℕ)
    → IfOk r (λ found. Searched old new ranges word found.target) → OnOk r (Grows old new)
on_searched (Ok found) old new ranges word is = searched_grows old new ranges word found.target is
on_searched (Err e) old new ranges word is = tt

pub calls_count : (p : Policy) (m : Arch) (before after : ℕ) (old new : List Insn) (to : Target) → CallsOf p m after old new to → (IsPlain p
    → after ≡ before)
    → CallsOf p m before old new to
calls_count p m before after old new to calls same = record {
  grows = calls.grows;
  placed = calls.placed;
  told = λ plain none listed. calls.told plain (same plain ∙ none) listed;
}

pub searched_placed : (old new : List Insn) (ranges : List Range) (word : ℕ) (target : Target) → Searched old new ranges word target
    → IsTarget new target
searched_placed old new ranges word target (returns answer found is) = subst (IsTarget new) (sym is) tt
searched_placed old new ranges word target (loads_word mid begun first place found grown begins written start is) =
    subst (IsTarget new) (sym is) (start.0, omega (arith, start.1))

-- ---- several machines

pub one_of_or_not : (archs : List Arch) (t : ℕ) → IsOneOf archs t ⊎ (IsOneOf archs t → ⊥)
one_of_or_not [] t = inr (λ none. none)
one_of_or_not (a ∷ archs) t = elim (cases_eq (token_of a) t) [
  | inl own ↦ inl (inl own)
  | inr differ ↦ elim (one_of_or_not archs t) [
    | inl other ↦ inl (inr other)
    | inr none ↦ inr (λ some. elim some [ inl own ↦ differ own | inr other ↦ none other ])
  ]
]

pub apart_none : (p : Policy) (count : ℕ) (code : List Insn) → Grows code code → Apart p [] count code code (Return 0)
apart_none p count code same = record {
  grows = same;
  placed = tt;
  told = λ plain none listed. record {
    listed = λ t u small one. absurd one;
    foreign = λ t u none. refl;
    short = omega arith;
    light = omega arith;
    shallow = omega arith;
    fine = λ fine. fine;
    front = refl;
  };
}

-- the token of a machine is one of the others', or it is one more
one_token : (a : Arch) (archs : List Arch) → has_token (token_of a) archs ≡ true → tokens (a ∷ archs) ≡ tokens archs
one_token a archs shared = rw shared refl

more_tokens : (a : Arch) (archs : List Arch) → has_token (token_of a) archs ≡ false → tokens (a ∷ archs) ≡ tokens archs + 1
more_tokens a archs new = rw new (omega arith)

any_one_of : (archs : List Arch) (t k : ℕ) (a : Arch) → k < length archs → slice_index_or archs k a ≡ a → t ≡ token_of a → IsOneOf archs t
any_one_of [] t k a within at is = absurd (omega (arith, within))
any_one_of (x ∷ archs) t zero a within at is = inl (ap token_of at ∙ sym is)
any_one_of (x ∷ archs) t (suc k) a within at is = inr (any_one_of archs t k a (omega (arith, within)) at is)

pub shared_token : (archs : List Arch) (t : ℕ) → has_token t archs ≡ true → IsOneOf archs t
shared_token archs t shared =
    let at = Any-from_list_any (λ other. token_of other == t) archs shared in
    any_one_of archs t at.0 at.1 at.2 at.3 (sym ((Decides-eqb (token_of at.1) t).0 at.4))

-- where another machine has the token, its calls are told there
pub apart_shared : (p : Policy) (a : Arch) (archs : List Arch) (count : ℕ) (old mid : List Insn) (to : Target)
    → has_token (token_of a) archs ≡ true → Apart p archs count old mid to → Apart p (a ∷ archs) count old mid to
apart_shared p a archs count old mid to shared rest = record {
  grows = rest.grows;
  placed = rest.placed;
  told = λ plain none_yet all.
      let others = rest.told plain none_yet (All-tail (IsListed p) a archs all) in
      let same = one_token a archs shared in
      record {
        listed = λ t u small one. elim one [
          | inl e ↦ others.listed t u small (subst (IsOneOf archs) e (shared_token archs (token_of a) shared))
          | inr other ↦ others.listed t u small other
        ];
        foreign = λ t u none. others.foreign t u (λ other. none (inr other));
        short = omega (arith, same, others.short);
        light = omega (arith, same, others.light);
        shallow = omega (arith, same, others.shallow);
        fine = others.fine;
        front = others.front;
      };
}

module _ (p : Policy) (a : Arch) (archs : List Arch) (count : ℕ) (old mid top : List Insn) (listed : (archs : List Arch)
    → All (IsListed p) (a ∷ archs) → IsListed p a) (new_token : has_token (token_of a) archs ≡ false) where
  one_more : tokens (a ∷ archs) ≡ tokens archs + 1
  one_more = more_tokens a archs new_token

  pub apart_skip : (below own_to : Target) → Apart p archs count old mid below → CallsOf p a count mid top own_to
      → own_to ≡ Return 0 → Apart p (a ∷ archs) count old top below
  apart_skip below own_to rest calls is = record {
    grows = grows_on rest.grows calls.grows;
    placed = target_kept mid top calls.grows below rest.placed;
    told = λ plain none_yet all.
        let own = calls.told plain none_yet (listed archs all) in
        let others = rest.told plain none_yet (All-tail (IsListed p) a archs all) in
        let same : top ≡ mid = subst (IsAtFront mid top) is own.front in
        let still : (t u : ℕ) → goes top below (Some 1) (call t u) ≡ goes mid below (Some 1) (call t u) = λ t u. ap
        (λ code. goes code below (Some 1) (call t u)) same in
        let zero_said : (u : ℕ) → u < 2 ^ 32 → said_of p (token_of a) u ≡ 0 =
        λ u small. sym (same_Some 0 _ (ap (λ q. goes top q (Some 1) (call (token_of a) u)) (sym is) ∙ own.answers (Some 1) u small)) in
        record {
          listed = λ t u small one. elim (one_of_or_not archs t) [
            | inl other ↦ still t u ∙ others.listed t u small other
            | inr none ↦ elim one [
              | inl e ↦ still t u ∙ others.foreign t u none ∙ ap Some (sym (ap (λ n. said_of p n u) (sym e) ∙ zero_said u small))
              | inr other ↦ absurd (none other)
            ]
          ];
          foreign = λ t u none. still t u ∙ others.foreign t u (λ other. none (inr other));
          short = omega (arith, ap length same, one_more, others.short);
          light = omega (arith, ap (λ code. cost code below) same, one_more, others.light);
          shallow = omega (arith, ap (λ code. deep code below) same, one_more, others.shallow);
          fine = λ fine. subst AreFine (sym same) (others.fine fine);
          front = subst (λ code. IsAtFront old code below) (sym same) others.front;
        };
  }

  module _ (new : List Insn) (exits : Exits) (place : Label) (rest : Apart p archs count old mid exits.no) (calls : CallsOf p a count mid top exits.yes)
      (b : Branches top new Equal (token_of a) exits) (start : IsStart new place) where
    own_goes : (t u : ℕ) → token_of a ≡ t → goes new (Place place) (Some 1) (call t u) ≡ goes top exits.yes (Some 1) (call t u)
    own_goes t u e = branch_goes top new Equal (token_of a) exits place b start (inl refl) true 1 (call t u) (eq-eqb t (token_of a) (sym e))

    other_goes : (t u : ℕ) → (token_of a ≡ t → ⊥) → goes new (Place place) (Some 1) (call t u) ≡ goes mid exits.no (Some 1) (call t u)
    other_goes t u differ =
        branch_goes top new Equal (token_of a) exits place b start (inl refl) false 1 (call t u) (ne_eqb t (token_of a) (λ e. differ
        (sym e)))
        ∙ goes_kept mid top calls.grows exits.no rest.placed (Some 1) (call t u)

    pub apart_branch : Apart p (a ∷ archs) count old new (Place place)
    apart_branch = record {
      grows = grows_on rest.grows (grows_on calls.grows b.grows);
      placed = (start.0, omega (arith, start.1));
      told = λ plain none_yet all.
          let own = calls.told plain none_yet (listed archs all) in
          let others = rest.told plain none_yet (All-tail (IsListed p) a archs all) in
          let light = branch_cost top new Equal (token_of a) exits place b start in
          let shallow = branch_deep top new Equal (token_of a) exits place b start in
          let same_cost = cost_kept mid top calls.grows exits.no rest.placed in
          let same_deep = deep_kept mid top calls.grows exits.no rest.placed in
          let own_said : (t u : ℕ) → u < 2 ^ 32 → token_of a ≡ t → goes new (Place place) (Some 1) (call t u) ≡ Some (said_of p t u) =
          λ t u small e. own_goes t u e ∙ subst (λ n. goes top exits.yes (Some 1) (call n u) ≡ Some (said_of p n u)) e (own.answers
          (Some 1) u small) in
          record {
            listed = λ t u small one. elim (cases_eq (token_of a) t) [
              | inl e ↦ own_said t u small e
              | inr differ ↦ elim one [
                | inl e ↦ absurd (differ e)
                | inr other ↦ other_goes t u differ ∙ others.listed t u small other
              ]
            ];
            foreign = λ t u none. other_goes t u (λ e. none (inl e)) ∙ others.foreign t u (λ other. none (inr other));
            short = omega (arith, b.short, own.short, one_more, others.short);
            light = omega (arith, light, same_cost, own.light, one_more, others.light);
            shallow = omega (arith, shallow, same_deep, own.shallow, one_more, others.shallow);
            fine = λ fine. b.fine (own.fine (others.fine fine));
            front = start;
          };
    }

-- ---- the whole

-- each machine of a profile is listed
pub each_listed : (p : Policy) → InOrder p.machines → All (IsListed p) p.machines
each_listed p order =
    All-weaker (Contains p.machines) (IsListed p) (λ a has. (order, has)) p.machines (All-contains_itself p.machines)

-- the code of all machines, where there was neither code nor a block
pub apart_whole : (p : Policy) (machines : List Arch) (count : ℕ) (old mid : List Insn) (to : Target) → machines ≡ p.machines → count ≡ 0
    → old ≡ [] → Apart p machines count old mid to → Apart p p.machines 0 [] mid to
apart_whole p machines count old mid to same none empty apart =
    subst (λ ms. Apart p ms 0 [] mid to) same
    (subst (λ n. Apart p machines n [] mid to) none (subst (λ code. Apart p machines count code mid to) empty apart))

module _ (p : Policy) (plain : IsPlain p) (mid : List Insn) (to : Target) (apart : Apart p p.machines 0 [] mid to)
    (order : InOrder p.machines) where
  few : tokens p.machines ≤ 2
  few = plain.few

  these : AnswersThese p p.machines [] mid to
  these = apart.told plain refl (each_listed p order)

  said_everywhere : (t u : ℕ) → t < 2 ^ 32 → u < 2 ^ 32 → goes mid to (Some 1) (call t u) ≡ Some (said p (call t u))
  said_everywhere t u small_t small_u = elim (one_of_or_not p.machines t) [
    | inl one ↦ these.listed t u small_u one
    | inr none ↦
        these.foreign t u none
        ∙ ap Some (sym (said_foreign p plain t u small_t small_u
        (λ native. none (any_one_of p.machines t native.0 native.1 native.2 native.3 (sym native.4.0)))))
  ]

  pub whole_return : (word : ℕ) (place : Label) (new : List Insn) → to ≡ Return word → Reaches mid new (Return word) place
      → IsCallFilter p new
  whole_return word place new is r =
      let none : mid ≡ [] = subst (IsAtFront [] mid) is these.front in
      let some : 1 ≤ length new = omega (arith, r.placed.0, r.placed.1) in
      let first : position new place ≡ 0 = omega (arith, r.one, ap length none, r.placed.0) in
      record {
        accepted = fine_is_accepted new some (omega (arith, r.one, ap length none)) (r.fine (subst AreFine (sym none) tt));
        answers = λ t u small_t small_u.
            ap (λ n. answer new n None (call t u)) (sym first) ∙ r.answers None (call t u)
            ∙ ap (λ q. goes mid q (Some 1) (call t u)) (sym is) ∙ said_everywhere t u small_t small_u;
        few = omega (arith, ap (weight new) first, r.weighs);
        short = omega (arith, ap (depth new) first, r.shallow);
      }

  pub whole_load : (first : Label) (new : List Insn) → to ≡ Place first → new ≡ insn_of LoadWord 4 ∷ mid → IsCallFilter p new
  whole_load first new is written =
      let front : IsStart mid first = subst (IsAtFront [] mid) is these.front in
      let light : cost mid (Place first) ≤ 4121 * tokens p.machines + 6 = subst
      (λ q. cost mid q ≤ 4121 * tokens p.machines + 6) is these.light in
      let shallow : deep mid (Place first) ≤ 306 + tokens p.machines = subst (λ q. deep mid q ≤ 306 + tokens p.machines) is these.shallow in
      let one : position mid first ≡ 0 = start_first mid first front in
      let weighs : weight new 0 ≡ 1 + weight mid 0 = ap (λ code. weight code 0) written ∙ load_weighs mid 4 in
      let deeps : depth new 0 ≡ depth mid 0 = ap (λ code. depth code 0) written ∙ load_shallow mid 4 in
      let fine : AreFine new =
      subst AreFine (sym written) (load_fine mid 4 (omega arith) refl (omega (arith, front.0, front.1)) (these.fine tt)) in
      record {
        accepted = fine_is_accepted new (omega (arith, ap length written)) (omega (arith, ap length written, these.short, few)) fine;
        answers = λ t u small_t small_u.
            ap (λ code. answer code 0 None (call t u)) written ∙ machine_answers mid None (call t u)
            ∙ ap (λ n. answer mid n (Some 1) (call t u)) (sym one) ∙ ap (λ q. goes mid q (Some 1) (call t u)) (sym is)
            ∙ said_everywhere t u small_t small_u;
        few = omega (arith, weighs, ap (weight mid) one, light, few);
        short = omega (arith, deeps, ap (depth mid) one, shallow, few);
      }

  -- it begins with what it begins with, and a return is alone
  pub whole_front : (first : Label) → to ≡ Place first → first.to_end ≡ length mid
  whole_front first is = let front : IsStart mid first = subst (IsAtFront [] mid) is these.front in front.1

  pub whole_one : (word : ℕ) (place : Label) (new : List Insn) → to ≡ Return word → Reaches mid new (Return word) place
      → place.to_end ≡ length new
  whole_one word place new is r =
      let none : mid ≡ [] = subst (IsAtFront [] mid) is these.front in
      omega (arith, r.one, ap length none, r.placed.0, r.placed.1)
