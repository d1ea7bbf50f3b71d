-- A profile of narrowed rules is the narrowed profile.
use Rattle.std.proofs.Common.{◌≡◌, ℕ, zero, suc, ◌<◌, List, [], ◌∷◌, ◌++◌, length, get_or, refl, sym, ◌∙◌, ap, subst, arith}
use Rattle.std.specs.Prelude.{◌↔◌}
use Rattle.std.specs.List.{All, Any, Contains}
use Rattle.std.proofs.lemmas.List.Elements.{All-contains}
use Rattle.call_record.specs.Words.{IsRecord, word}
use Rattle.machines.specs.declared.arch.Arch.{Arch}
use Rattle.machines.specs.Numbers.{HasCall}
use Rattle.profile.specs.declared.rules.Rule.{Rule}
use Rattle.profile.specs.Rule.{Matches}
use Rattle.profile.specs.Policy.{Policy, IsNative, Says}
use Rattle.widths.specs.Alike.{read_of, Alike, IsCleared, SpeaksOfRead, SaysOfCleared, IsNarrowed}
use Rattle.widths.specs.Narrowed.{Has, Answers, MatchesRead, AreNarrowed}
use Rattle.widths.proofs.CutLaws.{all_from}

turned : (r s : List ℕ) → Alike r s → Alike s r
turned r s alike = record {
  machine = sym alike.machine;
  number = sym alike.number;
  arguments = λ j lt. sym (alike.arguments j lt);
}

native_at : (machines : List Arch) (t u n m : ℕ) → t ≡ u → n ≡ m → Any (HasCall t n) machines → Any (HasCall u m) machines
native_at machines t u n m e f h =
    let P : ℕ → Type 0 = λ x. Any (HasCall x n) machines in
    let Q : ℕ → Type 0 = λ y. Any (HasCall u y) machines in
    subst Q f (subst P e h)

module _ (p q : Policy) (machines : q.machines ≡ p.machines) (default : q.default_word ≡ p.default_word)
    (narrowed : AreNarrowed p.rules q.rules) where
  native_to : (r s : List ℕ) → IsCleared r s → IsNative p s → IsNative q r
  native_to r s cleared h =
      subst (λ (ms : List Arch). Any (HasCall (word r 1) (word r 0)) ms) (sym machines)
      (native_at p.machines (word s 1) (word r 1) (word s 0) (word r 0) cleared.machine cleared.number h)

  native_from : (r s : List ℕ) → IsCleared r s → IsNative q r → IsNative p s
  native_from r s cleared h =
      native_at p.machines (word r 1) (word s 1) (word r 0) (word s 0) (sym cleared.machine) (sym cleared.number)
      (subst (λ (ms : List Arch). Any (HasCall (word r 1) (word r 0)) ms) machines h)

  module _ (r s : List ℕ) (is-r : IsRecord r) (is-s : IsRecord s) (cleared : IsCleared r s) (v : ℕ) where
    says_to : Says q r v → Says p s v
    says_to h = record {
      foreign = λ alien. h.foreign (λ native. alien (native_from r s cleared native));
      matched = λ native rule has m.
          let (x, in-q, (w, hit)) = (narrowed.answers r s is-r is-s cleared rule.word).1 (rule, has, (refl, m)) in
          h.matched (native_to r s cleared native) x in-q hit ∙ w;
      unmatched = λ native none.
          h.unmatched (native_to r s cleared native)
          (all_from (λ x. ¬ Matches x r) q.rules (λ x in-q hit.
          let (y, in-p, (w, m)) = (narrowed.answers r s is-r is-s cleared x.word).0 (x, in-q, (refl, hit)) in
          All-contains (λ z. ¬ Matches z s) p.rules y none in-p m))
          ∙ default;
    }

    says_from : Says p s v → Says q r v
    says_from h = record {
      foreign = λ alien. h.foreign (λ native. alien (native_to r s cleared native));
      matched = λ native x in-q hit.
          let (y, in-p, (w, m)) = (narrowed.answers r s is-r is-s cleared x.word).0 (x, in-q, (refl, hit)) in
          h.matched (native_from r s cleared native) y in-p m ∙ w;
      unmatched = λ native none.
          h.unmatched (native_from r s cleared native)
          (all_from (λ y. ¬ Matches y s) p.rules (λ y in-p m.
          let (x, in-q, (w, hit)) = (narrowed.answers r s is-r is-s cleared y.word).1 (y, in-p, (refl, m)) in
          All-contains (λ z. ¬ Matches z r) q.rules x none in-q hit))
          ∙ sym default;
    }

  alike_says : (r s : List ℕ) → IsRecord r → IsRecord s → Alike r s → (v : ℕ) → Says q r v → Says q s v
  alike_says r s is-r is-s alike v h =
      let back = turned r s alike in
      let to : IsNative q s → IsNative q r =
      native_at q.machines (word s 1) (word r 1) (word s 0) (word r 0) back.machine back.number in
      let from : IsNative q r → IsNative q s =
      native_at q.machines (word r 1) (word s 1) (word r 0) (word s 0) alike.machine alike.number in
      let read : (x : Rule) → Contains q.rules x → MatchesRead x = λ x has. All-contains MatchesRead q.rules x narrowed.alone has in
      record {
        foreign = λ alien. h.foreign (λ native. alien (from native));
        matched = λ native x has hit. h.matched (to native) x has (read x has s r is-s is-r back hit);
        unmatched = λ native none. h.unmatched (to native)
            (all_from (λ x. ¬ Matches x r) q.rules
            (λ x has hit. All-contains (λ z. ¬ Matches z s) q.rules x none has (read x has r s is-r is-s alike hit)));
      }

  pub narrowed_profile : IsNarrowed p q
  narrowed_profile = record {
    says = λ r s is-r is-s cleared v. (says_to r s is-r is-s cleared v, says_from r s is-r is-s cleared v);
    alone = λ r s is-r is-s alike v.
        (alike_says r s is-r is-s alike v, alike_says s r is-s is-r (turned r s alike) v);
  }

-- the same where the rules are those of a list
pub same_narrowed : (rules narrowed others : List Rule) → AreNarrowed rules narrowed → All (Contains others) narrowed
    → All (Contains narrowed) others → AreNarrowed rules others
same_narrowed rules narrowed others are within all = record {
  answers = λ r s is-r is-s cleared v.
      let its = are.answers r s is-r is-s cleared v in (
        λ (x, has, h). its.0 (x, All-contains (Contains narrowed) others x all has, h),
        λ h. let (x, has, hit) = its.1 h in (x, All-contains (Contains others) narrowed x within has, hit),
      );
  alone = all_from MatchesRead others
      (λ x has. All-contains MatchesRead narrowed x are.alone (All-contains (Contains narrowed) others x all has));
  machines = all_from (λ (q : Rule). Has (λ (x : Rule). x.arch ≡ q.arch) rules) others
      (λ x has. All-contains (λ (y : Rule). Has (λ (z : Rule). z.arch ≡ y.arch) rules) narrowed x are.machines
      (All-contains (Contains narrowed) others x all has));
}
