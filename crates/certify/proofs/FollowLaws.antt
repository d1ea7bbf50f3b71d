-- What the node of a place does: it keeps the rules, and each place that is added is led to.
use Rattle.std.proofs.Common.{◌≡◌, ℕ, ◌+◌, ◌^◌, ◌<◌, true, false, List, [], ◌∷◌, ◌++◌, length, get_or, ap, sym, ◌∙◌, arith}
use Rattle.std.proofs.Common.{subst}
use Rattle.std.proofs.Common.{length-append}
use Rattle.std.specs.Prelude.{All, Some, None, slice_get, option_to_list}
use Rattle.std.proofs.lemmas.List.Elements.{All-push}
use Rattle.std.proofs.lemmas.Option.{slice_get-get_or, slice_get_within}
use Rattle.bpf_insn.specs.declared.instruction.Insn.{Insn}
use Rattle.bpf_insn.specs.Code.{operation_of}
use Rattle.kernel_check.specs.Accepted.{IsAccepted}
use Rattle.profile.specs.Policy.{Policy}
use Rattle.cert_state.specs.declared.literal.Regs.{Regs}
use Rattle.cert_state.specs.Entailment.{IsDead}
use Rattle.cert_state.specs.Sharp.{sharp_fact}
use Rattle.cert_state.specs.Transfer.{transfer}
use Rattle.cert_form.specs.declared.node.Kind.{Kind}
use Rattle.cert_form.specs.declared.node.Kind.TheVariants.{Step, Split, Return, Dead}
use Rattle.cert_form.specs.Nodes.{PlainNode}
use Rattle.cert_form.specs.Spelling.{IsKind}
use Rattle.cert_check.specs.Rules.{Keeps, no_node, verdict_by}
use Rattle.certify.specs.declared.action.Action.TheVariants as action
use Rattle.certify.specs.declared.paths.Paths.{Paths}
use Rattle.certify.specs.declared.place.Next.{Next}
use Rattle.certify.specs.declared.place.Place.{Place}
use Rattle.certify.specs.inner.Actions.{action_by}
use Rattle.certify.specs.inner.Follow.{AreTwo, GivesThere, IsCut, IsFollowed, IsFork, IsReturn, IsStep, way}
use Rattle.certify.specs.inner.Led.{AreLed, IsLed}
use Rattle.certify.specs.inner.Places.{AreInside, ArePaths, IsAdded, IsGrown, KeepsAt, StandsAt, known_at, node_of}
use Rattle.certify.proofs.ActionLaws.{forks_is}
use Rattle.certify.proofs.GrowLaws.{all_at, grown_added, grown_same, grown_than, inside_added, known_grown, stands_added}
use Rattle.certify.proofs.LedLaws.{led_forks, led_goes, led_known, led_more, led_return}
use Rattle.certify.proofs.NodeLaws.{own_node, dead_keeps, fork_keeps, goes_keeps, return_keeps, split_keeps}
use Rattle.certify.proofs.WayLaws.{goes_inside, other_inside, taken_inside}

-- ---- a place more is led to

pub led_added : (p : List Insn) (s t : Paths) (from : Place) (next : Next) (number : ℕ) → ArePaths s → IsAdded s t from next number
    → IsLed p next.pc next.regs (option_to_list next.learned ++ known_at s.entries.items from) → AreLed p s → AreLed p t
led_added p s t from next number is added led all =
    let Led : Place → Type 0 = λ place. IsLed p place.pc place.regs (known_at t.entries.items place) in
    let before : All Led s.places.items =
    λ k d low.
    let x : Place = get_or s.places.items k d in
    let there : slice_get s.places.items k ≡ Some x = slice_get-get_or s.places.items k d low in
    subst (λ ls. IsLed p x.pc x.regs ls) (sym (known_grown s t is (grown_added s t from next number added) k x there)) (all k d low) in
    let new : Led added.place =
    subst (λ pc. IsLed p pc added.place.regs (known_at t.entries.items added.place)) (sym added.pc_is)
    (subst (λ regs. IsLed p next.pc regs (known_at t.entries.items added.place)) (sym added.regs_are)
    (subst (λ ls. IsLed p next.pc next.regs ls) (sym added.known_is) led)) in
    subst (All Led) (sym added.places) (All-push Led s.places.items added.place before new)

-- ---- in general

module _ (policy : Policy) (p : List Insn) (old : Paths) (is_old : ArePaths old) (inside : AreInside p old) (from : Place)
    (here : slice_get old.places.items (length old.kinds.items) ≡ Some from) where
  pub from_led : AreLed p old → IsLed p from.pc from.regs (known_at old.entries.items from)
  from_led led =
      all_at (λ (place : Place). IsLed p place.pc place.regs (known_at old.entries.items place)) old.places.items
      (length old.kinds.items) from led here

  pub from_inside : from.pc < length p
  from_inside = all_at (λ (place : Place). place.pc < length p) old.places.items (length old.kinds.items) from inside here

  known_stays : (t : Paths) → IsGrown old t → known_at t.entries.items from ≡ known_at old.entries.items from
  known_stays t grown = known_grown old t is_old grown (length old.kinds.items) from here

  -- the node as it was is the node as it is
  keeps_now : (t : Paths) (kind : Kind) (ns : List PlainNode) → IsGrown old t
      → Keeps policy p ns (length old.kinds.items) (own_node from.pc from.regs (known_at old.entries.items from) kind)
      → Keeps policy p ns (length old.kinds.items) (node_of t.entries.items from kind)
  keeps_now t kind ns grown keeps =
      subst (λ ls. Keeps policy p ns (length old.kinds.items) (own_node from.pc from.regs ls kind)) (sym (known_stays t grown)) keeps

  -- nothing was added
  pub end_followed : (kind : Kind) → IsKind kind
      → ((ns : List PlainNode)
      → Keeps policy p ns (length old.kinds.items) (own_node from.pc from.regs (known_at old.entries.items from) kind))
      → IsFollowed policy p old old from kind
  end_followed kind is keeps = record {
    inside = inside;
    grown = grown_same old;
    kept = (is, λ ns _. keeps ns);
    led = λ led. led;
  }

  -- one place was added
  pub one_followed : (new : Paths) → ArePaths new → (pc : ℕ) (regs : Regs) (kind : Kind) → IsStep old new from pc regs kind → pc < length p
      → ((ns : List PlainNode) (to : ℕ) → length old.kinds.items < to → StandsAt ns to pc regs (known_at old.entries.items from)
      → Keeps policy p ns (length old.kinds.items) (own_node from.pc from.regs (known_at old.entries.items from) (Step to no_node)))
      → (IsLed p from.pc from.regs (known_at old.entries.items from) → IsLed p pc regs (known_at old.entries.items from))
      → IsFollowed policy p old new from kind
  one_followed new is_new pc regs kind step low keeps led =
      let next : Next = record { pc = pc; regs = regs; learned = None } in
      let grown = grown_added old new from next step.to step.added in
      let later : length old.kinds.items < step.to =
      (let e = step.added.number_is in let l = slice_get_within old.places.items (length old.kinds.items) from here in omega (arith, e, l))
      in
      let small : step.to < 2 ^ 32 =
      (let e = step.added.number_is in let few = is_old.few in omega (arith, e, few)) in
      record {
        inside = inside_added p old new from next step.to step.added inside low;
        grown = grown;
        kept = subst (KeepsAt policy p new (length old.kinds.items) from) (sym step.kind_is) (
          (small, omega arith),
          λ ns all. keeps_now new (Step step.to no_node) ns grown
              (keeps ns step.to later (stands_added old new new from next step.to step.added is_new (grown_same new) ns all)),
        );
        led = λ all. led_added p old new from next step.to is_old step.added (led (from_led all)) all;
      }

  -- two places were added
  pub two_followed : (new : Paths) → ArePaths new → (one other : Next) (kind : Kind) (first second : ℕ)
      → AreTwo old new from one other first second → one.pc < length p → other.pc < length p
      → (first < 2 ^ 32 → second < 2 ^ 32 → IsKind kind)
      → ((ns : List PlainNode) → length old.kinds.items < first → length old.kinds.items < second
      → StandsAt ns first one.pc one.regs (option_to_list one.learned ++ known_at old.entries.items from)
      → StandsAt ns second other.pc other.regs (option_to_list other.learned ++ known_at old.entries.items from)
      → Keeps policy p ns (length old.kinds.items) (own_node from.pc from.regs (known_at old.entries.items from) kind))
      → (IsLed p from.pc from.regs (known_at old.entries.items from)
      → IsLed p one.pc one.regs (option_to_list one.learned ++ known_at old.entries.items from))
      → (IsLed p from.pc from.regs (known_at old.entries.items from)
      → IsLed p other.pc other.regs (option_to_list other.learned ++ known_at old.entries.items from))
      → IsFollowed policy p old new from kind
  two_followed new is_new one other kind first second two low also is_kind keeps led led_other =
      let middle = two.middle in
      let to_middle = grown_added old middle from one first two.first_is in
      let to_new = grown_added middle new from other second two.second_is in
      let grown = grown_than old middle new to_middle to_new in
      let same = known_stays middle to_middle in
      let l = slice_get_within old.places.items (length old.kinds.items) from here in
      let e = two.first_is.number_is in
      let f = two.second_is.number_is in
      let few = two.are_paths.few in
      let more : length middle.places.items ≡ length old.places.items + 1 =
      ap length two.first_is.places ∙ length-append old.places.items (two.first_is.place ∷ []) in
      record {
        inside = inside_added p middle new from other second two.second_is
            (inside_added p old middle from one first two.first_is inside low) also;
        grown = grown;
        kept = (
          is_kind (omega (arith, e, few, more)) (omega (arith, f, few)),
          λ ns all. keeps_now new kind ns grown (keeps ns (omega (arith, e, l)) (omega (arith, f, l, more))
              (stands_added old middle new from one first two.first_is two.are_paths to_new ns all)
              (subst (λ ls. StandsAt ns second other.pc other.regs (option_to_list other.learned ++ ls)) same
              (stands_added middle new new from other second two.second_is is_new (grown_same new) ns all))),
        );
        led = λ all.
            led_added p middle new from other second two.are_paths two.second_is
            (subst (λ ls. IsLed p other.pc other.regs (option_to_list other.learned ++ ls)) (sym same) (led_other (from_led all)))
            (led_added p old middle from one first is_old two.first_is (led (from_led all)) all);
      }

  -- ---- by the instruction

  pub no_insn : Insn
  no_insn = record { code = 0; jt = 0; jf = 0; k = 0 }

  pub dead_followed : IsDead (known_at old.entries.items from) → IsFollowed policy p old old from Dead
  dead_followed dead =
      end_followed Dead tt (λ ns. dead_keeps policy p ns (length old.kinds.items) (get_or p from.pc no_insn) from.pc from.regs
      (known_at old.entries.items from)
      (slice_get-get_or p from.pc no_insn from_inside) dead)

  module _ (i : Insn) (found : slice_get p from.pc ≡ Some i) (accepted : IsAccepted p) (new : Paths) (is_new : ArePaths new) (kind : Kind)
    where
      pub return_followed : (word : ℕ) → verdict_by (operation_of i.code) from.regs i ≡ Some word → IsReturn policy old new from word kind
          → IsFollowed policy p old new from kind
      return_followed word is done =
          subst (λ (t : Paths). IsFollowed policy p old t from kind) (sym done.same)
          (subst (IsFollowed policy p old old from) (sym done.kind_is)
          (end_followed Return tt (λ ns.
          return_keeps policy p ns (length old.kinds.items) i from.pc from.regs (known_at old.entries.items from) found word is
          done.agrees)))

      pub cut_followed : IsCut old new from kind → IsFollowed policy p old new from kind
      cut_followed cut =
          subst (IsFollowed policy p old new from) (sym cut.kind_is)
          (two_followed new is_new (record { pc = from.pc; regs = from.regs; learned = Some cut.one })
          (record { pc = from.pc; regs = from.regs; learned = Some cut.other }) (Split cut.one cut.other cut.first cut.second)
          cut.first cut.second cut.two from_inside from_inside
          (λ low also. (cut.one_is, cut.other_is, low, also))
          (λ ns low also one other.
          split_keeps policy p ns (length old.kinds.items) i from.pc from.regs (known_at old.entries.items from) found cut.one cut.other
          cut.first cut.second cut.halves low also one other)
          (λ led. led_more p from.pc from.regs cut.one (known_at old.entries.items from) led)
          (λ led. led_more p from.pc from.regs cut.other (known_at old.entries.items from) led))

      pub goes_followed : (skip : ℕ) → action_by (operation_of i.code) i ≡ action.Goes skip
          → IsStep old new from (from.pc + 1 + skip) (transfer from.regs i) kind → IsFollowed policy p old new from kind
      goes_followed skip acts step =
          one_followed new is_new (from.pc + 1 + skip) (transfer from.regs i) kind step (goes_inside p from.pc i found accepted skip acts)
          (λ ns to later stands.
          goes_keeps policy p ns (length old.kinds.items) i from.pc from.regs (known_at old.entries.items from) found skip acts to later
          stands)
          (λ led. led_goes p accepted from.pc i found from.regs (known_at old.entries.items from) led skip acts)

      pub fork_followed : action_by (operation_of i.code) i ≡ action.Forks → IsFork old new from i kind
          → IsFollowed policy p old new from kind
      fork_followed acts fork =
          let branch = forks_is (operation_of i.code) i acts in
          let l = sharp_fact (known_at old.entries.items from) from.regs i true in
          let m = sharp_fact (known_at old.entries.items from) from.regs i false in
          subst (IsFollowed policy p old new from) (sym fork.kind_is)
          (two_followed new is_new (way from i i.jt l) (way from i i.jf m) (Step fork.first fork.second) fork.first fork.second fork.two
          (taken_inside p from.pc i found accepted acts) (other_inside p from.pc i found accepted acts)
          (λ low also. (low, also))
          (λ ns low also one other.
          fork_keeps policy p ns (length old.kinds.items) i from.pc from.regs (known_at old.entries.items from) found branch.test
          branch.operand branch.is fork.first fork.second low also one other)
          (λ led. led_forks p accepted from.pc i found from.regs (known_at old.entries.items from) led acts true)
          (λ led. led_forks p accepted from.pc i found from.regs (known_at old.entries.items from) led acts false))

  -- ---- where the place is led to

  module _ (i : Insn) (found : slice_get p from.pc ≡ Some i) (accepted : IsAccepted p) (led : AreLed p old) where
    pub given_there : (word : ℕ) → verdict_by (operation_of i.code) from.regs i ≡ Some word
        → GivesThere p (known_at old.entries.items from) word
    given_there word is = led_return p accepted from.pc i found from.regs (known_at old.entries.items from) (from_led led) word is

    pub known_there : action_by (operation_of i.code) i ≡ action.Ends
        → (word : ℕ) × (verdict_by (operation_of i.code) from.regs i ≡ Some word)
    known_there acts = led_known p accepted from.pc i found from.regs (known_at old.entries.items from) (from_led led) acts
