-- Code that gives each call its verdict, for every profile.
use Rattle.std.proofs.Common.{◌≡◌, ℕ, zero, suc, ◌<◌, ◌^◌, List, [], ◌∷◌, ◌++◌, length, length-append, inl, inr, refl, ap, sym, ◌∙◌, subst, true, arith}
use Rattle.std.specs.Prelude.{Err, Ok, OnOk, Result, Some, None, slice_get, slice_index, slice_index_or, if◌then◌else◌}
use Rattle.std.specs.List.{All}
use Rattle.std.proofs.lemmas.Bool.{cases_eq, cases_lt, eq-eqb, ne_eqb}
use Rattle.std.proofs.lemmas.List.Elements.{All-append, All-cons, All-nil, All-weaker}
use Rattle.std.proofs.lemmas.Option.{get_or_from_slice_get, same_Some, slice_get_within}
use Rattle.profile.proofs.KeptLaws.{slice_get_last, slice_get_left}
use Rattle.call_record.specs.Words.{IsRecord}
use Rattle.bpf_insn.specs.declared.code.Test.TheVariants.{Equal}
use Rattle.bpf_insn.specs.declared.code.Operation.TheVariants.{LoadWord}
use Rattle.bpf_insn.specs.declared.instruction.Insn.{Insn}
use Rattle.machines.specs.declared.arch.Arch.{Arch}
use Rattle.machines.specs.Arch.{token_of}
use Rattle.profile.specs.Policy.{IsClear, IsNative, Policy}
use Rattle.profile.specs.Said.{said}
use Rattle.rule_compile.specs.declared.label.Exits.{Exits}
use Rattle.rule_compile.specs.declared.label.Label.{Label}
use Rattle.rule_compile.specs.declared.label.Target.{Target}
use Rattle.rule_compile.specs.declared.label.Target.TheVariants.{Place, Return}
use Rattle.rule_compile.specs.declared.outline.Block.{Block}
use Rattle.rule_compile.specs.declared.ranges.Leaf.TheVariants as leaf
use Rattle.rule_compile.specs.declared.ranges.Range.{Range}
use Rattle.rule_compile.specs.declared.written.Written.{Written}
use Rattle.rule_compile.specs.Decides.{Tiles}
use Rattle.rule_compile.specs.Shape.{has_token}
use Rattle.rule_compile.specs.inner.Calls.{IsOneOf}
use Rattle.rule_compile.specs.inner.Code.{Grows, IsStart, IsTarget, insn_of, position}
use Rattle.rule_compile.specs.inner.Goes.{Branches, Reaches}
use Rattle.rule_compile.specs.inner.Runs.{AreIn, AreWritten, Leads, LeadsByWord, gives_from, runs}
use Rattle.rule_compile.specs.inner.Stands.{AreBlocks, DecidesCalls, HasMore, TellsCalls, TellsThese}
use Rattle.rule_compile.proofs.CallLaws.{one_of_or_not, shared_token}
use Rattle.rule_compile.proofs.DecidesLaws.{decides_less, more_length}
use Rattle.rule_compile.proofs.GoesLaws.{target_kept}
use Rattle.rule_compile.proofs.RangeLaws.{tiles_cover}
use Rattle.rule_compile.proofs.RunsLaws.{load_runs, runs_kept}
use Rattle.rule_compile.proofs.SaysLaws.{said_foreign}

-- ---- blocks that are written, as code and blocks grow

pub in_grows : (old new : List Insn) → Grows old new → (written : List Written) → AreIn old written → AreIn new written
in_grows old new g written all =
    All-weaker (λ (w : Written). IsTarget old w.target) (λ (w : Written). IsTarget new w.target) (λ w at. target_kept old new g w.target at)
    written all

in_at : (code : List Insn) (written : List Written) (place : ℕ) (w : Written) → AreIn code written → slice_get written place ≡ Some w
    → IsTarget code w.target
in_at code written place w all at =
    subst (λ (x : Written). IsTarget code x.target) (get_or_from_slice_get written place w w at)
    (all place w (slice_get_within written place w at))

pub written_grows : (blocks : List Block) (old new : List Insn) (written : List Written) → Grows old new → AreWritten blocks old written
    → AreWritten blocks new written
written_grows blocks old new written g wr = record {
  placed = in_grows old new g written wr.placed;
  few = wr.few;
  leads = λ place w at a r v is_r loaded d.
      runs_kept old new g w.target (in_at old written place w wr.placed at) a r ∙ wr.leads place w at a r v is_r loaded d;
}

pub written_more : (old new : List Block) (code : List Insn) (written : List Written) → HasMore old new → AreBlocks new
    → AreWritten old code written → AreWritten new code written
written_more old new code written more blocks wr = record {
  placed = wr.placed;
  few = omega (arith, wr.few, more_length more);
  leads = λ place w at a r v is_r loaded d.
      let inside = slice_get_within written place w at in
      wr.leads place w at a r v is_r loaded (decides_less old new more blocks (omega (arith, inside, wr.few)) d);
}

-- ---- the calls of one machine

pub calls_tell : (p : Policy) (t : ℕ) (blocks : List Block) (code : List Insn) (ranges : List Range) (to : Target) → Tiles 0 ranges (2 ^ 32)
    → All (DecidesCalls p t blocks) ranges → LeadsByWord blocks code 0 ranges to → TellsCalls p t code to
calls_tell p t blocks code ranges to tiles decides leads a r is_r token =
    let at = tiles_cover ranges 0 (2 ^ 32) (slice_index r 0) tiles (omega arith) (is_r.words 0) in
    let none : Range = record { first = 0; last = 0; leaf = leaf.Verdict 0 } in
    leads at.0 none at.1 a r (said p r) is_r (at.2 none) (decides at.0 none at.1 r is_r token (at.2 none))

-- ---- several machines

pub tells_none : (p : Policy) (code : List Insn) → TellsThese p [] code (Return 0)
tells_none p code = record { listed = λ r is_r is. absurd is; foreign = λ r is_r not. refl }

-- where another machine has the token, its calls are told there
pub tells_shared : (p : Policy) (arch : Arch) (archs : List Arch) (code : List Insn) (to : Target) → has_token (token_of arch) archs ≡ true
    → TellsThese p archs code to → TellsThese p (arch ∷ archs) code to
tells_shared p arch archs code to shared others = record {
  listed = λ r is_r one. elim one [
    | inl same ↦ others.listed r is_r (subst (IsOneOf archs) same (shared_token archs (token_of arch) shared))
    | inr other ↦ others.listed r is_r other
  ];
  foreign = λ r is_r none. others.foreign r is_r (λ other. none (inr other));
}

module _ (p : Policy) (arch : Arch) (archs : List Arch) (mid top : List Insn) (g : Grows mid top) (no calls : Target) (at : IsTarget mid no)
    (others : TellsThese p archs mid no) (own : TellsCalls p (token_of arch) top calls) where
  other_listed : (r : List ℕ) → IsRecord r → IsOneOf archs (slice_index r 1) → runs top no (slice_index r 1) r ≡ Some (said p r)
  other_listed r is_r is = runs_kept mid top g no at (slice_index r 1) r ∙ others.listed r is_r is

  other_foreign : (r : List ℕ) → IsRecord r → (IsOneOf archs (slice_index r 1) → ⊥) → runs top no (slice_index r 1) r ≡ Some 0
  other_foreign r is_r not = runs_kept mid top g no at (slice_index r 1) r ∙ others.foreign r is_r not

  -- a machine whose calls all get the verdict of a foreign record is none
  pub tells_skip : calls ≡ Return 0 → TellsThese p (arch ∷ archs) top no
  tells_skip none = record {
    listed = λ r is_r is. elim (one_of_or_not archs (slice_index r 1)) [
      | inl other ↦ other_listed r is_r other
      | inr not ↦ elim is [
        | inl same ↦
            let zero_said : Some 0 ≡ Some (said p r) =
            ap (λ to. runs top to (slice_index r 1) r) (sym none) ∙ own (slice_index r 1) r is_r (sym same) in
            other_foreign r is_r not ∙ zero_said
        | inr other ↦ absurd (not other)
      ]
    ];
    foreign = λ r is_r not. other_foreign r is_r (λ other. not (inr other));
  }

  pub tells_branch : (new : List Insn) (won : Target) (place : Label) → won ≡ calls
      → Branches top new Equal (token_of arch) (record { yes = won; no = no }) → IsStart new place
      → TellsThese p (arch ∷ archs) new (Place place)
  tells_branch new won place won_is b start =
      let exits : Exits = record { yes = won; no = no } in
      let first : position new place ≡ 0 = omega (arith, start.1) in
      let begins : (a : ℕ) (r : List ℕ) → runs new (Place place) a r ≡ gives_from new 0 a r = λ a r. ap (λ n. gives_from new n a r) first in
      let own_way : (r : List ℕ) → slice_index r 1 ≡ token_of arch → runs new (Place place) (slice_index r 1) r ≡ runs top won (slice_index r 1) r =
      λ r same.
      begins (slice_index r 1) r ∙ b.runs (slice_index r 1) r
      ∙ ap (λ came. runs top (if came then won else no) (slice_index r 1) r) (eq-eqb (slice_index r 1) (token_of arch) same) in
      let other_way : (r : List ℕ) → (slice_index r 1 ≡ token_of arch → ⊥) → runs new (Place place) (slice_index r 1) r ≡ runs top no (slice_index r 1) r =
      λ r differ.
      begins (slice_index r 1) r ∙ b.runs (slice_index r 1) r
      ∙ ap (λ came. runs top (if came then won else no) (slice_index r 1) r) (ne_eqb (slice_index r 1) (token_of arch) differ) in
      record {
        listed = λ r is_r is. elim (cases_eq (slice_index r 1) (token_of arch)) [
          | inl same ↦ own_way r same ∙ ap (λ to. runs top to (slice_index r 1) r) won_is ∙ own (slice_index r 1) r is_r same
          | inr differ ↦ elim is [
            | inl same ↦ absurd (differ (sym same))
            | inr other ↦ other_way r differ ∙ other_listed r is_r other
          ]
        ];
        foreign = λ r is_r not.
            other_way r (λ same. not (inl (sym same))) ∙ other_foreign r is_r (λ other. not (inr other));
      }

-- ---- the whole

one_at : (machines : List Arch) (k : ℕ) (arch : Arch) (token : ℕ) → k < length machines → slice_index_or machines k arch ≡ arch
    → token_of arch ≡ token → IsOneOf machines token
one_at [] k arch token inside at same = absurd (omega (arith, inside))
one_at (x ∷ xs) zero arch token inside at same = inl (ap token_of at ∙ same)
one_at (x ∷ xs) (suc k) arch token inside at same = inr (one_at xs k arch token (omega (arith, inside)) at same)

native_is_one : (p : Policy) (r : List ℕ) → IsNative p r → IsOneOf p.machines (slice_index r 1)
native_is_one p r (k, arch, inside, at, has) = one_at p.machines k arch (slice_index r 1) inside at has.0

pub whole_tells : (p : Policy) (clear : IsClear p.rules) (code : List Insn) (to : Target) → TellsThese p p.machines code to → (r : List ℕ)
    → IsRecord r → runs code to (slice_index r 1) r ≡ Some (said p r)
whole_tells p clear code to tells r is_r = elim (one_of_or_not p.machines (slice_index r 1)) [
  | inl is ↦ tells.listed r is_r is
  | inr not ↦
      tells.foreign r is_r not
      ∙ ap Some (sym (said_foreign p r clear is_r (λ native. not (native_is_one p r native))))
]

pub whole_loaded : (p : Policy) (clear : IsClear p.rules) (old mid : List Insn) (place : Label) → TellsThese p p.machines old (Place place)
    → ((a : ℕ) (r : List ℕ) → gives_from mid 0 a r ≡ gives_from old (position old place) a r)
    → (new : List Insn) → new ≡ insn_of LoadWord 4 ∷ mid → (r : List ℕ) → IsRecord r → gives_from new 0 0 r ≡ Some (said p r)
whole_loaded p clear old mid place tells begins new written r is_r =
    ap (λ code. gives_from code 0 0 r) written
    ∙ load_runs 4 (refl, omega arith) mid 0 r is_r
    ∙ begins (slice_index r 1) r
    ∙ whole_tells p clear old (Place place) tells r is_r

-- one block more is written
pub written_push : (blocks : List Block) (code : List Insn) (written : List Written) (w : Written) → AreWritten blocks code written
    → IsTarget code w.target → length written < length blocks → Leads blocks code None w.target (leaf.Block (length written))
    → AreWritten blocks code (written ++ w ∷ [])
written_push blocks code written w wr at room leads = record {
  placed = All-append (λ (x : Written). IsTarget code x.target) written (w ∷ []) wr.placed
      (All-cons (λ (x : Written). IsTarget code x.target) w [] at (All-nil (λ (x : Written). IsTarget code x.target)));
  few = omega (arith, room, length-append written (w ∷ []));
  leads = λ place x there. elim (cases_lt place (length written)) [
    | inl less ↦ wr.leads place x (sym (slice_get_left written (w ∷ []) place less) ∙ there)
    | inr not ↦
        let inside = slice_get_within (written ++ w ∷ []) place x there in
        let e : place ≡ length written = omega (arith, not, inside, length-append written (w ∷ [])) in
        let same : w ≡ x = same_Some w x (sym (slice_get_last written w) ∙ ap (slice_get (written ++ w ∷ [])) (sym e) ∙ there) in
        subst (λ n. Leads blocks code None x.target (leaf.Block n)) (sym e)
        (subst (λ (y : Written). Leads blocks code None y.target (leaf.Block (length written))) same leads)
  ];
}

pub written_none : (blocks : List Block) (code : List Insn) (written : List Written) → written ≡ [] → AreWritten blocks code written
written_none blocks code written none = subst (AreWritten blocks code) (sym none) (record {
  placed = All-nil (λ (w : Written). IsTarget code w.target);
  few = omega arith;
  leads = λ place w at. absurd (let inside = slice_get_within [] place w at in omega (arith, inside));
})

-- where one return is all
pub whole_returns : (p : Policy) (clear : IsClear p.rules) (mid new begun : List Insn) (word : ℕ) (place : Label)
    → TellsThese p p.machines mid (Return word) → Reaches mid new (Return word) place
    → ((a : ℕ) (r : List ℕ) → gives_from begun 0 a r ≡ gives_from new (position new place) a r) → (r : List ℕ) → IsRecord r
    → gives_from begun 0 0 r ≡ Some (said p r)
whole_returns p clear mid new begun word place tells reached begins r is_r =
    begins 0 r ∙ reached.runs 0 r ∙ whole_tells p clear mid (Return word) tells r is_r

pub on_any : {T E : Type 0} (r : Result T E) (P : Type 0) → P → OnOk r P
on_any (Ok x) P p = p
on_any (Err e) P p = tt

pub on_ok : {T E : Type 0} (r : Result T E) (P Q : Type 0) → OnOk r P → (P → Q) → OnOk r Q
on_ok (Ok x) P Q is f = f is
on_ok (Err e) P Q is f = tt
