-- Actions: what reading gives is meant, and what it refuses is broken.
use Rattle.std.proofs.Common.{◌≡◌, ℕ, ◌≤◌, ◌<◌, List, [], ◌∷◌, ◌++◌, Bool, Option, cond, nat_le, Ok, Err, Some, None, true, false, ◌⊎◌, inl, inr, refl, sym, ◌∙◌}
use Rattle.std.proofs.Common.{ap, subst, arith}
use Rattle.std.specs.Option.{ok_or}
use Rattle.std.specs.Str.{bytes_eq}
use Rattle.std.proofs.lemmas.Bool.{leb-true, leb-false}
use Rattle.std.proofs.lemmas.Option.{same_Some}
use Rattle.serde_json.specs.Data.{Data}
use Rattle.machines.specs.declared.arch.Family.{Family}
use Rattle.machines.specs.declared.arch.Family.TheVariants.{Chosen, Whole}
use Rattle.profile_json.specs.declared.action.Action.{Action}
use Rattle.profile_json.specs.Fault.{Fault, wrong_type, missing_key, unknown_action, errno_not_taken, errno_range}
use Rattle.profile_json.specs.Lookup.{Member, missing, other_type, holds, member, text, whole}
use Rattle.profile_json.specs.Names.{named, actions, more_actions, action_named, takes_data, verdict_of}
use Rattle.profile_json.specs.inner.Outcome.{◌>>=◌}
use Rattle.profile_json.specs.inner.Reading.{needed, action_at, errno_in, verdict_at}
use Rattle.profile_json.specs.Meaning.{NamesAction, ErrnoMeans, none, given, VerdictMeans}
use Rattle.profile_json.specs.Breaks.{ActionBreaks, action_text, action_unknown, VerdictBreaks, action, errno_other, not_taken, large}
use Rattle.profile_json.proofs.reading.Steps.{bind_ok, bind_err, ok_or_ok, ok_or_err, needed_ok, needed_breaks, needed_unbroken}
use Rattle.profile_json.proofs.reading.Steps.{holds_same, ok_same, not_ok, true_false}

pub action_means : (family : Family) (k : List ℕ) (d : Data) (a : Action) → action_at family k d ≡ Ok a → NamesAction family k d a
unfolding action_at
action_means family k d a h =
    let step = bind_ok (needed missing_key (member text k d)) (λ name. ok_or (action_named family name) unknown_action) a h in
    (step.0, needed_ok missing_key (member text k d) step.0 step.1, ok_or_ok (action_named family step.0) unknown_action a step.2)

pub action_breaks : (family : Family) (k : List ℕ) (d : Data) (f : Fault) → action_at family k d ≡ Err f → ActionBreaks family k d f
unfolding action_at
action_breaks family k d f h =
    elim (bind_err (needed missing_key (member text k d)) (λ name. ok_or (action_named family name) unknown_action) f h) [
      | inl bad ↦ action_text f (needed_breaks (member text k d) f bad)
      | inr step ↦
          let at = ok_or_err (action_named family step.0) unknown_action f step.2 in
          subst (ActionBreaks family k d) at.1 (action_unknown step.0 (needed_ok missing_key (member text k d) step.0 step.1) at.0)
    ]

pub action_unbroken : (family : Family) (k : List ℕ) (d : Data) (a : Action) (f : Fault) → NamesAction family k d a → ActionBreaks family k d f → ⊥
action_unbroken family k d a _ m (action_text f e) = needed_unbroken (member text k d) m.0 f m.1 e
action_unbroken family k d a _ m (action_unknown name at e) =
    let same : m.0 ≡ name = holds_same m.0 name (sym m.1 ∙ at) in
    let both : Some a ≡ None = sym m.2 ∙ ap (action_named family) same ∙ e in cc

pub one_action : (family : Family) (k : List ℕ) (d : Data) (a b : Action) → NamesAction family k d a → NamesAction family k d b → a ≡ b
one_action family k d a b x y =
    let same : x.0 ≡ y.0 = holds_same x.0 y.0 (sym x.1 ∙ y.1) in
    same_Some a b (sym x.2 ∙ ap (action_named family) same ∙ y.2)

-- ---- the data of an action

-- the data that an action gets, by the member
data Errno (a : Action) (m : Member ℕ) : ℕ → Type 0 where
  no_member : m ≡ missing → Errno a m 1
  member_is : (n : ℕ) → m ≡ holds n → takes_data a ≡ true → n ≤ 4095 → Errno a m n

chosen_ok : (t s : Bool) (n x : ℕ) → cond t (cond s (Ok n) (Err errno_range)) (Err errno_not_taken) ≡ Ok x → (t ≡ true) × (s ≡ true)
    × (n ≡ x)
chosen_ok true true n x h = (refl, refl, cc)
chosen_ok true false n x h = cc
chosen_ok false s n x h = cc

chosen_err : (t s : Bool) (n : ℕ) (e : Fault) → cond t (cond s (Ok n) (Err errno_range)) (Err errno_not_taken) ≡ Err e
    → ((t ≡ false) × (errno_not_taken ≡ e)) ⊎ ((s ≡ false) × (errno_range ≡ e))
chosen_err true true n e h = cc
chosen_err true false n e h = inr (refl, cc)
chosen_err false s n e h = inl (refl, cc)

errno_ok : (a : Action) (m : Member ℕ) (x : ℕ) → errno_in a m ≡ Ok x → Errno a m x
errno_ok a missing x h = subst (Errno a missing) (ok_same 1 x h) (no_member refl)
errno_ok a other_type x h = cc
errno_ok a (holds n) x h =
    let at = chosen_ok (takes_data a) (nat_le n 4095) n x h in
    subst (Errno a (holds n)) at.2 (member_is n refl at.0 (leb-true n 4095 at.1))

errno_err : (a : Action) (m : Member ℕ) (e : Fault) → errno_in a m ≡ Err e → ((m ≡ other_type) × (wrong_type ≡ e))
    ⊎ ((n : ℕ) × (m ≡ holds n) × (((takes_data a ≡ false) × (errno_not_taken ≡ e)) ⊎ ((4095 < n) × (errno_range ≡ e))))
errno_err a missing e h = cc
errno_err a other_type e h = inl (refl, cc)
errno_err a (holds n) e h =
    elim (chosen_err (takes_data a) (nat_le n 4095) n e h) [
      | inl at ↦ inr (n, refl, inl at)
      | inr at ↦ inr (n, refl, inr (leb-false n 4095 at.0, at.1))
    ]

errno_of_member : (k : List ℕ) (d : Data) (a : Action) (n : ℕ) → Errno a (member whole k d) n → ErrnoMeans k d a n
errno_of_member k d a _ (no_member e) = none e
errno_of_member k d a _ (member_is n e t l) = given n e t l

pub verdict_means : (family : Family) (ak ek : List ℕ) (d : Data) (w : ℕ) → verdict_at family ak ek d ≡ Ok w → VerdictMeans family ak ek d w
unfolding verdict_at
verdict_means family ak ek d w h =
    let m = member whole ek d in
    let at_a = bind_ok (action_at family ak d) (λ a. errno_in a m >>= (λ n. Ok (verdict_of a n))) w h in
    let at_n = bind_ok (errno_in at_a.0 m) (λ n. Ok (verdict_of at_a.0 n)) w at_a.2 in
    record {
      action = at_a.0;
      action_is = action_means family ak d at_a.0 at_a.1;
      errno = at_n.0;
      errno_is = errno_of_member ek d at_a.0 at_n.0 (errno_ok at_a.0 m at_n.0 at_n.1);
      verdict_is = sym (ok_same (verdict_of at_a.0 at_n.0) w at_n.2);
    }

pub verdict_breaks : (family : Family) (ak ek : List ℕ) (d : Data) (f : Fault) → verdict_at family ak ek d ≡ Err f → VerdictBreaks family ak ek d f
unfolding verdict_at
verdict_breaks family ak ek d f h =
    let m = member whole ek d in
    elim (bind_err (action_at family ak d) (λ a. errno_in a m >>= (λ n. Ok (verdict_of a n))) f h) [
      | inl bad ↦ action f (action_breaks family ak d f bad)
      | inr at_a ↦ elim (bind_err (errno_in at_a.0 m) (λ n. Ok (verdict_of at_a.0 n)) f at_a.2) [
        | inr at_n ↦ absurd (not_ok (verdict_of at_a.0 at_n.0) f at_n.2)
        | inl bad ↦ elim (errno_err at_a.0 m f bad) [
          | inl at ↦ subst (VerdictBreaks family ak ek d) at.1 (errno_other at.0)
          | inr at ↦ elim at.2 [
            | inl without ↦ subst (VerdictBreaks family ak ek d) without.1 (not_taken at_a.0 at.0 (action_means family ak d at_a.0 at_a.1) without.0 at.1)
            | inr big ↦ subst (VerdictBreaks family ak ek d) big.1 (large at.0 at.1 big.0)
          ]
        ]
      ]
    ]

other_no : (k : List ℕ) (d : Data) (a : Action) (n : ℕ) → ErrnoMeans k d a n → member whole k d ≡ other_type → ⊥
other_no k d a _ (none e) h = let both : ◌≡◌ {A = Member ℕ} missing other_type = sym e ∙ h in cc
other_no k d a _ (given n e t l) h = let both : holds n ≡ other_type = sym e ∙ h in cc

given_is : (k : List ℕ) (d : Data) (a : Action) (n x : ℕ) → ErrnoMeans k d a n → member whole k d ≡ holds x → (takes_data a ≡ true)
    × (x ≤ 4095) × (n ≡ x)
given_is k d a _ x (none e) h = let both : ◌≡◌ {A = Member ℕ} missing (holds x) = sym e ∙ h in cc
given_is k d a _ x (given n e t l) h = let same : n ≡ x = holds_same n x (sym e ∙ h) in (t, subst (λ y. y ≤ 4095) same l, same)

pub verdict_unbroken : (family : Family) (ak ek : List ℕ) (d : Data) (w : ℕ) (f : Fault) → VerdictMeans family ak ek d w → VerdictBreaks family ak ek d f → ⊥
verdict_unbroken family ak ek d w f m (action _ bad) = action_unbroken family ak d m.action f m.action_is bad
verdict_unbroken family ak ek d w _ m (errno_other e) = other_no ek d m.action m.errno m.errno_is e
verdict_unbroken family ak ek d w _ m (not_taken b x y t e) =
    let same : m.action ≡ b = one_action family ak d m.action b m.action_is y in
    true_false (takes_data m.action) (given_is ek d m.action m.errno x m.errno_is e).0 (ap takes_data same ∙ t)
verdict_unbroken family ak ek d w _ m (large x e l) = let le = (given_is ek d m.action m.errno x m.errno_is e).1 in omega (arith, le, l)

-- ---- one verdict

errno_missing : (k : List ℕ) (d : Data) (a : Action) (n : ℕ) → ErrnoMeans k d a n → member whole k d ≡ missing → n ≡ 1
errno_missing k d a _ (none e) h = refl
errno_missing k d a _ (given n e t l) h = let both : holds n ≡ missing = sym e ∙ h in cc

one_errno : (k : List ℕ) (d : Data) (a b : Action) (n x : ℕ) → ErrnoMeans k d a n → ErrnoMeans k d b x → n ≡ x
one_errno k d a b n _ m (none e) = errno_missing k d a n m e
one_errno k d a b n _ m (given x e t l) = (given_is k d a n x m e).2

pub one_verdict : (family : Family) (ak ek : List ℕ) (d : Data) (v w : ℕ) → VerdictMeans family ak ek d v → VerdictMeans family ak ek d w → v ≡ w
one_verdict family ak ek d v w m n =
    let actions : m.action ≡ n.action = one_action family ak d m.action n.action m.action_is n.action_is in
    let data_same : m.errno ≡ n.errno = one_errno ek d m.action n.action m.errno n.errno m.errno_is n.errno_is in
    m.verdict_is ∙ ap (λ a. verdict_of a m.errno) actions ∙ ap (verdict_of n.action) data_same ∙ sym n.verdict_is

-- ---- more names

-- what is said of a test stays where its other branch says as much
branch_kept : {A : Type 0} (b : Bool) (x : A) (o p : Option A) (a : A) → (o ≡ Some a → p ≡ Some a) → cond b (Some x) o ≡ Some a
    → cond b (Some x) p ≡ Some a
branch_kept true x o p a kept h = h
branch_kept false x o p a kept h = kept h

named_kept : {A : Type 0} (es more : List (List ℕ × A)) (name : List ℕ) (a : A) → named es name ≡ Some a → named (es ++ more) name ≡ Some a
named_kept [] more name a h = cc
named_kept (e ∷ es) more name a h =
    branch_kept (bytes_eq name e.0) e.1 (named es name) (named (es ++ more) name) a (named_kept es more name a) h

action_widened : (k : List ℕ) (d : Data) (a : Action) → NamesAction Chosen k d a → NamesAction Whole k d a
unfolding action_named
action_widened k d a m = (m.0, m.1, named_kept actions more_actions m.0 a m.2)

pub verdict_widened : (ak ek : List ℕ) (d : Data) (w : ℕ) → VerdictMeans Chosen ak ek d w → VerdictMeans Whole ak ek d w
verdict_widened ak ek d w m =
    record {
      action = m.action;
      action_is = action_widened ak d m.action m.action_is;
      errno = m.errno;
      errno_is = m.errno_is;
      verdict_is = m.verdict_is;
    }
