-- What is told stays told where more is found.
use Rattle.std.proofs.Common.{◌≡◌, ℕ, ◌==◌, ◌++◌, inl, inr, Bool, true, false, List, [], ◌∷◌, refl, sym, ◌∙◌, ap}
use Rattle.std.specs.List.{All, list_any}
use Rattle.std.proofs.lemmas.Bool.{both_ways, cases_Bool, eq-eqb, or_left, or_right}
use Rattle.std.proofs.lemmas.List.Folds.{list_any-append}
use Rattle.std.proofs.lemmas.List.Elements.{All-nil, All-push, All-same}
use Rattle.call_record.specs.Words.{word}
use Rattle.profile.specs.Policy.{Policy, IsClear}
use Rattle.differ.specs.OnCall.{IsOfCall, is_for}
use Rattle.differ.specs.declared.direction.Direction.{Direction}
use Rattle.differ.specs.declared.named.Call.{Call}
use Rattle.differ.specs.Named.{is_call, is_named}
use Rattle.widths.specs.Crowded.{AreCrowded}
use Rattle.widths.specs.Past.{AllAreLike, AreTold, IsAnswered, IsUnlike, IsUnlikeOf, is_past_of}
use Rattle.widths.specs.declared.unread_bits.calls.AllPast.{AllPast}
use Rattle.widths.specs.declared.unread_bits.past.Past.{Past}
use Rattle.widths.specs.inner.Extended.{Extends}
use Rattle.widths.proofs.PairLaws.{like_unnamed}

any_left : {X : Type 0} (p : X → Bool) (xs ys : List X) → list_any p xs ≡ true → list_any p (xs ++ ys) ≡ true
any_left p xs ys h = list_any-append p xs ys ∙ or_left _ _ h

any_last : {X : Type 0} (p : X → Bool) (xs : List X) (y : X) → p y ≡ true → list_any p (xs ++ y ∷ []) ≡ true
any_last p xs y h = list_any-append p xs (y ∷ []) ∙ or_right _ _ (or_left (p y) false h)

any_same : {X : Type 0} (p : X → Bool) (xs ys : List X) → ys ≡ xs → list_any p xs ≡ true → list_any p ys ≡ true
any_same p xs ys is h = ap (list_any p) is ∙ h

-- ---- more is found

pub extends_refl : (a : AllPast) → Extends a a
extends_refl a = record { found = λ t n h. h; crowded = λ t n h. h }

pub extends_trans : (a b c : AllPast) → Extends a b → Extends b c → Extends a c
extends_trans a b c x y = record {
  found = λ t n h. y.found t n (x.found t n h);
  crowded = λ t n h. y.crowded t n (x.crowded t n h);
}

pub extends_found : (old new : AllPast) (past : Past) → new.found.items ≡ old.found.items ++ past ∷ [] → new.crowded.items ≡ old.crowded.items
    → Extends old new
extends_found old new past a b = record {
  found = λ t n h. any_same (is_past_of t n) (old.found.items ++ past ∷ []) new.found.items a (any_left (is_past_of t n) old.found.items (past ∷ []) h);
  crowded = λ t n h. any_same (is_call t n) old.crowded.items new.crowded.items b h;
}

pub extends_crowded : (old new : AllPast) (call : Call) → new.found.items ≡ old.found.items → new.crowded.items ≡ old.crowded.items ++ call ∷ []
    → Extends old new
extends_crowded old new call a b = record {
  found = λ t n h. any_same (is_past_of t n) old.found.items new.found.items a h;
  crowded = λ t n h. any_same (is_call t n) (old.crowded.items ++ call ∷ []) new.crowded.items b (any_left (is_call t n) old.crowded.items (call ∷ []) h);
}

pub answered_stays : (p : Policy) (d : Direction) (old new : AllPast) (t n : ℕ) → Extends old new → IsAnswered p d old t n → IsAnswered p d new t n
answered_stays p d old new t n x answered = elim answered [
  | inl none ↦ inl none
  | inr other ↦ elim other [
    | inl found ↦ inr (inl (x.found t n found))
    | inr crowded ↦ inr (inr (x.crowded t n crowded))
  ]
]

pub all_answered_stay : (p : Policy) (d : Direction) (old new : AllPast) (list : List Call) → Extends old new
    → All (λ c. IsAnswered p d old c.token c.nr) list → All (λ c. IsAnswered p d new c.token c.nr) list
all_answered_stay p d old new list x h = λ k c lt. answered_stays p d old new _ _ x (h k c lt)

pub told_found : (p : Policy) (d : Direction) (old new : AllPast) (past : Past) → new.found.items ≡ old.found.items ++ past ∷ []
    → new.crowded.items ≡ old.crowded.items → IsUnlike p d past → AreTold p d old → AreTold p d new
told_found p d old new past a b is told = record {
  found = All-same (IsUnlike p d) _ _ a (All-push (IsUnlike p d) old.found.items past told.found is);
  crowded = All-same (λ call. AreCrowded p call.token call.nr) _ _ b told.crowded;
}

pub told_crowded : (p : Policy) (d : Direction) (old new : AllPast) (call : Call) → new.found.items ≡ old.found.items
    → new.crowded.items ≡ old.crowded.items ++ call ∷ [] → AreCrowded p call.token call.nr → AreTold p d old → AreTold p d new
told_crowded p d old new call a b is told =
    let P : Call → Type 0 = λ c. AreCrowded p c.token c.nr in
    record {
      found = All-same (IsUnlike p d) _ _ a told.found;
      crowded = All-same P _ _ b (All-push P old.crowded.items call told.crowded is);
    }

pub found_answers : (p : Policy) (d : Direction) (token nr : ℕ) (old new : AllPast) (past : Past) → new.found.items ≡ old.found.items ++ past ∷ []
    → IsUnlikeOf p token nr d past → IsAnswered p d new token nr
found_answers p d token nr old new past a is =
    let number : (nr == past.call.nr) ≡ true = eq-eqb nr past.call.nr (sym is.number) in
    let machine : (token == past.call.arch) ≡ true = eq-eqb token past.call.arch (sym is.machine) in
    inr (inl (any_same (is_past_of token nr) (old.found.items ++ past ∷ []) new.found.items a
    (any_last (is_past_of token nr) old.found.items past (rw (number, machine) refl))))

pub crowded_answers : (p : Policy) (d : Direction) (old new : AllPast) (call : Call) → new.crowded.items ≡ old.crowded.items ++ call ∷ []
    → IsAnswered p d new call.token call.nr
crowded_answers p d old new call a =
    let machine : (call.token == call.token) ≡ true = eq-eqb call.token call.token refl in
    let number : (call.nr == call.nr) ≡ true = eq-eqb call.nr call.nr refl in
    inr (inr (any_same (is_call call.token call.nr) (old.crowded.items ++ call ∷ []) new.crowded.items a
    (any_last (is_call call.token call.nr) old.crowded.items call (rw (machine, number) refl))))

pub none_told : (p : Policy) (d : Direction) (all : AllPast) → all.found.items ≡ [] → all.crowded.items ≡ [] → AreTold p d all
none_told p d all a b = record {
  found = All-same (IsUnlike p d) _ _ a (All-nil (IsUnlike p d));
  crowded = All-same (λ c. AreCrowded p c.token c.nr) _ _ b (All-nil (λ c. AreCrowded p c.token c.nr));
}

-- ---- where nothing is found

pub nothing_unlike : (p : Policy) (d : Direction) (all : AllPast) → IsClear p.rules
    → ((t n : ℕ) → list_any (is_for t n) p.rules ≡ true → IsAnswered p d all t n) → all.found.items ≡ [] → all.crowded.items ≡ []
    → AllAreLike p d
nothing_unlike p d all clear complete none free = λ r rec.
    let of : IsOfCall (word r 1) (word r 0) r = record { is_record = rec; machine = refl; number = refl } in
    elim (cases_Bool (list_any (is_for (word r 1) (word r 0)) p.rules)) [
      | inl named ↦ elim (complete (word r 1) (word r 0) named) [
        | inl like ↦ like r of
        | inr other ↦ elim other [
          | inl found ↦ absurd (both_ways false refl (ap (list_any (is_past_of (word r 1) (word r 0))) (sym none) ∙ found))
          | inr crowded ↦ absurd (both_ways false refl (ap (λ xs. is_named xs (word r 1) (word r 0)) (sym free) ∙ crowded))
        ]
      ]
      | inr unnamed ↦ like_unnamed p d (word r 1) (word r 0) clear unnamed r of
    ]
