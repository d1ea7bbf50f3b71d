-- Paths are sound at first, and stay so as more places get nodes.
use Rattle.std.proofs.Common.{◌≡◌, ℕ, ◌<◌, List, [], ◌∷◌, length, refl, ap, sym, ◌∙◌, arith, subst, length-append}
use Rattle.std.specs.Prelude.{All, Some, slice_get}
use Rattle.std.proofs.lemmas.List.Elements.{All-cons, All-nil}
use Rattle.std.proofs.lemmas.Option.{slice_get_within}
use Rattle.bpf_insn.specs.declared.instruction.Insn.{Insn}
use Rattle.bpf_insn.specs.Machine.{kept, start}
use Rattle.kernel_check.specs.Accepted.{IsAccepted}
use Rattle.profile.specs.Policy.{Policy}
use Rattle.cert_form.specs.declared.node.Kind.{Kind}
use Rattle.cert_state.specs.declared.literal.AVal.{AVal}
use Rattle.cert_state.specs.declared.literal.AVal.TheVariants.{Unknown}
use Rattle.cert_state.specs.States.{IsKept}
use Rattle.cert_form.specs.Spelling.{nothing_stated}
use Rattle.certify.specs.Telling.{IsTelling}
use Rattle.cert_form.specs.Writing.{AreLiteralEntries}
use Rattle.certify.specs.declared.paths.Paths.{Paths}
use Rattle.certify.specs.declared.place.Place.{Place}
use Rattle.certify.specs.inner.Follow.{AreSound, IsFollowed, IsGiven}
use Rattle.certify.specs.inner.Led.{AreLed, IsLed}
use Rattle.certify.specs.inner.Places.{ArePaths, IsPlace, KeepsAt, first_place, known_at}
use Rattle.certify.proofs.GrowLaws.{all_at, kept_grown, kept_push, longer_at}

-- ---- at first

pub first_led : (p : List Insn) (paths : Paths) → IsTelling p → paths.places.items ≡ first_place ∷ [] → AreLed p paths
first_led p paths telling is =
    let Led : Place → Type 0 = λ place. IsLed p place.pc place.regs (known_at paths.entries.items place) in
    let led : Led first_place = record {
      runs = λ r is_r all. record {
        registers = start;
        inside = record {
          known = all;
          has_a = refl;
          has_x = refl;
          sixteen = refl;
          has_scratch = λ k v found. unstated k v r (Rattle.std.proofs.lemmas.List.Elements.All-replicate (λ (v : AVal). v ≡ Unknown) 16 Unknown refl) found;
        };
        gives = refl;
      };
      telling = telling;
    } in
    subst (All Led) (sym is) (All-cons Led first_place [] led (All-nil Led))
  where
    unstated : (k : ℕ) (v : AVal) (r : List ℕ) → All (λ (v : AVal). v ≡ Unknown) nothing_stated → slice_get nothing_stated k ≡ Some v
        → IsKept v r (kept start k)
    unstated k v r all found =
        subst (λ v. IsKept v r (kept start k)) (sym (all_at (λ (v : AVal). v ≡ Unknown) nothing_stated k v all found)) tt

pub first_sound : (policy : Policy) (p : List Insn) (paths : Paths) → IsAccepted p → ArePaths paths → paths.places.items ≡ first_place ∷ []
    → paths.kinds.items ≡ [] → AreSound policy p paths
first_sound policy p paths accepted are is none =
    let Low : Place → Type 0 = λ place. place.pc < length p in
    let some = accepted.some in
    record {
      paths = are;
      inside = subst (All Low) (sym is) (All-cons Low first_place [] (omega (arith, some)) (All-nil Low));
      kept = λ at place kind there does. let no : slice_get {X = Kind} [] at ≡ Some kind = ap (λ ks. slice_get ks at) (sym none) ∙ does in
          absurd (nothing at kind no);
      some = let e = ap length none in omega (arith, e);
    }
  where
    nothing : (at : ℕ) (kind : Kind) → slice_get {X = Kind} [] at ≡ Some kind → ⊥
    nothing at kind h = cc

-- ---- with a node more

module _ (policy : Policy) (p : List Insn) (old now new : Paths) (from : Place) (kind : Kind) (sound : AreSound policy p old)
    (here : slice_get old.places.items (length old.kinds.items) ≡ Some from) (are : ArePaths now)
    (followed : IsFollowed policy p old now from kind) (given : IsGiven now new kind) where
  are_new : ArePaths new
  are_new = record {
    entries = subst AreLiteralEntries (sym given.entries) are.entries;
    places = subst (λ es. All (IsPlace es) new.places.items) (sym given.entries)
        (subst (All (IsPlace now.entries.items)) (sym given.places) are.places);
    first = ap (λ xs. slice_get xs 0) given.places ∙ are.first;
    few = let few = are.few in let e = ap length given.places in omega (arith, few, e);
    few_entries = let few = are.few_entries in let e = ap length given.places in let f = ap length given.entries in omega
        (arith, few, e, f);
  }

  there : slice_get now.places.items (length now.kinds.items) ≡ Some from
  there =
      ap (λ ks. slice_get now.places.items (length ks)) followed.grown.kinds
      ∙ longer_at old.places.items now.places.items (length old.kinds.items) from followed.grown.places here

  keeps : KeepsAt policy p now (length now.kinds.items) from kind
  keeps = subst (λ ks. KeepsAt policy p now (length ks) from kind) (sym followed.grown.kinds) followed.kept

  pub next_sound : AreSound policy p new
  next_sound = record {
    paths = are_new;
    inside = subst (All (λ (place : Place). place.pc < length p)) (sym given.places) followed.inside;
    kept = kept_push policy p now new from kind (kept_grown old now sound.paths followed.grown policy p sound.some sound.kept) there keeps
        given.entries given.places given.kinds;
    some =
        let low = slice_get_within now.places.items (length now.kinds.items) from there in
        let e = ap length given.places in
        let f = ap length given.kinds in
        omega (arith, low, e, f, length-append now.kinds.items (kind ∷ []));
  }

  pub next_led : AreLed p old → AreLed p new
  next_led led =
      subst (λ es. All (λ (place : Place). IsLed p place.pc place.regs (known_at es place)) new.places.items) (sym given.entries)
      (subst (All (λ (place : Place). IsLed p place.pc place.regs (known_at now.entries.items place))) (sym given.places) (followed.led led))
