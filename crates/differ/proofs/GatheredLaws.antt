-- What is told stays told where more is found, and covers all calls in the end.
use Rattle.std.proofs.Common.{◌≡◌, ℕ, ◌<◌, ◌^◌, ◌==◌, ◌&&◌, ◌||◌, ◌++◌, ◌⊎◌, inl, inr, Bool, true, false, not, List, [], ◌∷◌, refl, sym, ◌∙◌, ap, subst, arith}
use Rattle.std.specs.List.{All, list_any}
use Rattle.std.proofs.lemmas.Bool.{and_parts, both_ways, cases_Bool, eq-eqb, eqb-true, or_cases, or_left, or_right}
use Rattle.std.proofs.lemmas.List.Folds.{list_any-append}
use Rattle.std.proofs.lemmas.List.Elements.{All-nil, All-push, All-same}
use Rattle.call_record.specs.Record.{words}
use Rattle.call_record.specs.Words.{word}
use Rattle.call_record.specs.Fate.{is_further}
use Rattle.machines.specs.Machines.{aarch64_token, arm_token, loongarch64_token, ppc64le_token, riscv64_token, s390_token, s390x_token, x86_64_token, x86_token}
use Rattle.profile.specs.Policy.{Policy}
use Rattle.differ.specs.OnCall.{AreCrowded, AreLikeOnCall, IsFound, is_for}
use Rattle.differ.specs.Direction.{tells}
use Rattle.differ.specs.Differences.{AreTold, IsAnswered, IsCovered, has_token, is_on, is_told, is_told_with, is_with}
use Rattle.differ.specs.declared.direction.Direction.{Direction}
use Rattle.differ.specs.declared.direction.Direction.TheVariants.{Any, More, Less}
use Rattle.differ.specs.declared.gathered.Differences.{Differences}
use Rattle.differ.specs.declared.found.Found.{Found}
use Rattle.differ.specs.declared.named.Call.{Call}
use Rattle.differ.specs.inner.Extended.{Extends}
use Rattle.differ.specs.Named.{AreCovered, is_call, is_named}
use Rattle.differ.proofs.NamedLaws.{AreListed, by_machine}
use Rattle.differ.proofs.StepLaws.{never_further}

-- ---- tests of lists

any_left : {X : Type 0} (p : X → Bool) (xs ys : List X) → list_any p xs ≡ true → list_any p (xs ++ ys) ≡ true
any_left p xs ys h = list_any-append p xs ys ∙ or_left _ _ h

any_last : {X : Type 0} (p : X → Bool) (xs : List X) (y : X) → p y ≡ true → list_any p (xs ++ y ∷ []) ≡ true
any_last p xs y h = list_any-append p xs (y ∷ []) ∙ or_right _ _ (or_left (p y) false h)

any_weaker : {X : Type 0} (p q : X → Bool) → ((x : X) → p x ≡ true → q x ≡ true) → (xs : List X) → list_any p xs ≡ true → list_any q xs ≡ true
any_weaker p q h [] e = e
any_weaker p q h (x ∷ xs) e = elim (or_cases (p x) (list_any p xs) e) [
  | inl here ↦ or_left _ _ (h x here)
  | inr rest ↦ or_right _ _ (any_weaker p q h xs rest)
]

any_same : {X : Type 0} (p : X → Bool) (xs ys : List X) → ys ≡ xs → list_any p xs ≡ true → list_any p ys ≡ true
any_same p xs ys is h = ap (list_any p) is ∙ h

-- ---- directions

more_any : (v w : ℕ) → tells More v w ≡ true → tells Any v w ≡ true
more_any v w h = elim (cases_Bool (v == w)) [
  | inl same ↦ absurd (
      let is : v ≡ w = eqb-true v w same in
      both_ways (is_further v v) (never_further v) (subst (λ x. is_further x v ≡ true) (sym is) h))
  | inr other ↦ ap not other
]

less_any : (v w : ℕ) → tells Less v w ≡ true → tells Any v w ≡ true
less_any v w h = elim (cases_Bool (v == w)) [
  | inl same ↦ absurd (
      let is : v ≡ w = eqb-true v w same in
      both_ways (is_further v v) (never_further v) (subst (λ x. is_further v x ≡ true) (sym is) h))
  | inr other ↦ ap not other
]

tells_any : (d : Direction) (v w : ℕ) → tells d v w ≡ true → tells Any v w ≡ true
tells_any Any v w h = h
tells_any More v w h = more_any v w h
tells_any Less v w h = less_any v w h

pub like_any : (p q : Policy) (token nr : ℕ) (d : Direction) → AreLikeOnCall p q token nr Any → AreLikeOnCall p q token nr d
like_any p q token nr d like = λ r of v w one other. elim (cases_Bool (tells d v w)) [
  | inl told ↦ absurd (both_ways (tells Any v w) (like r of v w one other) (tells_any d v w told))
  | inr silent ↦ silent
]

pub found_any : (p q : Policy) (token nr : ℕ) (d : Direction) (f : Found) → IsFound p q token nr d f → IsFound p q f.call.arch f.call.nr Any f
found_any p q token nr d f is = record {
  of_call = record { is_record = is.of_call.is_record; machine = refl; number = refl };
  ip_is = is.ip_is;
  says_first = is.says_first;
  says_second = is.says_second;
  unlike = tells_any d f.first f.second is.unlike;
}

is_on_call : (p q : Policy) (token nr : ℕ) (d : Direction) (f : Found) → IsFound p q token nr d f → is_on token nr d f ≡ true
is_on_call p q token nr d f is =
    let number : (nr == f.call.nr) ≡ true = eq-eqb nr f.call.nr (sym is.of_call.number) in
    let machine : (token == f.call.arch) ≡ true = eq-eqb token f.call.arch (sym is.of_call.machine) in
    rw (number, machine) is.unlike

is_on_any : (p q : Policy) (token nr : ℕ) (d : Direction) (f : Found) → IsFound p q token nr d f → is_on token nr Any f ≡ true
is_on_any p q token nr d f is =
    let number : (nr == f.call.nr) ≡ true = eq-eqb nr f.call.nr (sym is.of_call.number) in
    let machine : (token == f.call.arch) ≡ true = eq-eqb token f.call.arch (sym is.of_call.machine) in
    rw (number, machine) (tells_any d f.first f.second is.unlike)

-- ---- more is found

pub extends_refl : (d : Differences) → Extends d d
extends_refl d = record { told = λ t n e h. h; with = λ t e h. h; crowded = λ t n h. h; tokens = λ t h. h }

pub extends_trans : (a b c : Differences) → Extends a b → Extends b c → Extends a c
extends_trans a b c x y = record {
  told = λ t n e h. y.told t n e (x.told t n e h);
  with = λ t e h. y.with t e (x.with t e h);
  crowded = λ t n h. y.crowded t n (x.crowded t n h);
  tokens = λ t h. y.tokens t (x.tokens t h);
}

pub extends_found : (old new : Differences) (f : Found) → new.found.items ≡ old.found.items ++ f ∷ [] → new.crowded.items ≡ old.crowded.items
    → Extends old new
extends_found old new f a b = record {
  told = λ t n e h. any_same (is_on t n e) (old.found.items ++ f ∷ []) new.found.items a (any_left (is_on t n e) old.found.items (f ∷ []) h);
  with = λ t e h. any_same (is_with t e) (old.found.items ++ f ∷ []) new.found.items a (any_left (is_with t e) old.found.items (f ∷ []) h);
  crowded = λ t n h. any_same (is_call t n) old.crowded.items new.crowded.items b h;
  tokens = λ t h. any_same (λ call. t == call.token) old.crowded.items new.crowded.items b h;
}

pub extends_crowded : (old new : Differences) (call : Call) → new.found.items ≡ old.found.items → new.crowded.items ≡ old.crowded.items ++ call ∷ []
    → Extends old new
extends_crowded old new call a b = record {
  told = λ t n e h. any_same (is_on t n e) old.found.items new.found.items a h;
  with = λ t e h. any_same (is_with t e) old.found.items new.found.items a h;
  crowded = λ t n h. any_same (is_call t n) (old.crowded.items ++ call ∷ []) new.crowded.items b (any_left (is_call t n) old.crowded.items (call ∷ []) h);
  tokens = λ t h.
      any_same (λ c. t == c.token) (old.crowded.items ++ call ∷ []) new.crowded.items b
      (any_left (λ c. t == c.token) old.crowded.items (call ∷ []) h);
}

pub answered_stays : (p q : Policy) (old new : Differences) (t n : ℕ) (d : Direction) → Extends old new → IsAnswered p q old t n d → IsAnswered p q new t n d
answered_stays p q old new t n d x answered = elim answered [
  | inl like ↦ inl like
  | inr other ↦ elim other [
    | inl told ↦ inr (inl (x.told t n d told))
    | inr crowded ↦ inr (inr (x.crowded t n crowded))
  ]
]

pub covered_stays : (p q : Policy) (old new : Differences) (t n : ℕ) (d : Direction) → Extends old new → IsCovered p q old t n d → IsCovered p q new t n d
covered_stays p q old new t n d x covered = elim covered [
  | inl like ↦ inl like
  | inr other ↦ elim other [
    | inl told ↦ inr (inl (x.with t d told))
    | inr crowded ↦ inr (inr (x.tokens t crowded))
  ]
]

pub answered_covers : (p q : Policy) (d : Differences) (t n : ℕ) (e : Direction) → IsAnswered p q d t n e → IsCovered p q d t n e
answered_covers p q d t n e answered = elim answered [
  | inl like ↦ inl like
  | inr other ↦ elim other [
    | inl told ↦ inr (inl (any_weaker (is_on t n e) (is_with t e) (λ f h. (and_parts (n == f.call.nr) (is_with t e f) h).1) d.found.items told))
    | inr crowded ↦ inr (inr (any_weaker (is_call t n) (λ c. t == c.token) (λ c h. (and_parts (t == c.token) (n == c.nr) h).0) d.crowded.items crowded))
  ]
]

pub found_itself : (p q : Policy) (token nr : ℕ) (d : Direction) (f : Found) → IsFound p q token nr d f → IsFound p q f.call.arch f.call.nr d f
found_itself p q token nr d f is = record {
  of_call = record { is_record = is.of_call.is_record; machine = refl; number = refl };
  ip_is = is.ip_is;
  says_first = is.says_first;
  says_second = is.says_second;
  unlike = is.unlike;
}

pub told_found : (p q : Policy) (d : Direction) (old new : Differences) (f : Found) → new.found.items ≡ old.found.items ++ f ∷ []
    → new.crowded.items ≡ old.crowded.items → IsFound p q f.call.arch f.call.nr d f → AreTold p q d old → AreTold p q d new
told_found p q d old new f a b is told =
    let P : Found → Type 0 = λ g. IsFound p q g.call.arch g.call.nr d g in
    record {
      found = All-same P _ _ a (All-push P old.found.items f told.found is);
      crowded = All-same (λ call. AreCrowded p q call.token call.nr) _ _ b told.crowded;
    }

pub told_crowded : (p q : Policy) (d : Direction) (old new : Differences) (call : Call) → new.found.items ≡ old.found.items
    → new.crowded.items ≡ old.crowded.items ++ call ∷ [] → AreCrowded p q call.token call.nr → AreTold p q d old → AreTold p q d new
told_crowded p q d old new call a b is told =
    let P : Call → Type 0 = λ c. AreCrowded p q c.token c.nr in
    record {
      found = All-same (λ g. IsFound p q g.call.arch g.call.nr d g) _ _ a told.found;
      crowded = All-same P _ _ b (All-push P old.crowded.items call told.crowded is);
    }

pub found_answers : (p q : Policy) (token nr : ℕ) (d : Direction) (old new : Differences) (f : Found) → new.found.items ≡ old.found.items ++ f ∷ []
    → IsFound p q token nr d f → IsAnswered p q new token nr d
found_answers p q token nr d old new f a is =
    inr (inl (any_same (is_on token nr d) (old.found.items ++ f ∷ []) new.found.items a
    (any_last (is_on token nr d) old.found.items f (is_on_call p q token nr d f is))))

pub found_answers_any : (p q : Policy) (token nr : ℕ) (d : Direction) (old new : Differences) (f : Found)
    → new.found.items ≡ old.found.items ++ f ∷ [] → IsFound p q token nr d f → IsAnswered p q new token nr Any
found_answers_any p q token nr d old new f a is =
    inr (inl (any_same (is_on token nr Any) (old.found.items ++ f ∷ []) new.found.items a
    (any_last (is_on token nr Any) old.found.items f (is_on_any p q token nr d f is))))

pub crowded_answers : (p q : Policy) (token nr : ℕ) (d : Direction) (old new : Differences) (call : Call) → call.token ≡ token → call.nr ≡ nr
    → new.crowded.items ≡ old.crowded.items ++ call ∷ [] → IsAnswered p q new token nr d
crowded_answers p q token nr d old new call t n a =
    let machine : (token == call.token) ≡ true = eq-eqb token call.token (sym t) in
    let number : (nr == call.nr) ≡ true = eq-eqb nr call.nr (sym n) in
    inr (inr (any_same (is_call token nr) (old.crowded.items ++ call ∷ []) new.crowded.items a
    (any_last (is_call token nr) old.crowded.items call (rw (machine, number) refl))))

-- ---- all calls

-- what was found covers each call, named or not
pub all_covered : (p q : Policy) (named rest : List Call) (d : Differences) (e : Direction) → AreListed p q named rest
    → ((t n : ℕ) → is_named named t n ≡ true → IsAnswered p q d t n e)
    → ((t n : ℕ) → is_named rest t n ≡ true → IsCovered p q d t n e) → (t n : ℕ) → IsCovered p q d t n e
all_covered p q named rest d e l answered covered t n = elim (cases_Bool (is_named named t n)) [
  | inl yes_named ↦ answered_covers p q d t n e (answered t n yes_named)
  | inr unnamed ↦ elim (cases_Bool (is_told_with d.found.items t e)) [
    | inl told ↦ inr (inl told)
    | inr untold ↦ elim (cases_Bool (has_token d.crowded.items t)) [
      | inl crowded ↦ inr (inr crowded)
      | inr free ↦ inl (λ r of.
          by_machine p q named rest e t n r l (λ m h. elim (covered t m h) [
            | inl like ↦ like
            | inr other ↦ elim other [
              | inl told ↦ absurd (both_ways (is_told_with d.found.items t e) untold told)
              | inr crowded ↦ absurd (both_ways (has_token d.crowded.items t) free crowded)
            ]
          ])
          (subst (λ x. x < 2 ^ 32) of.machine (of.is_record.words 1)) (subst (λ x. x < 2 ^ 32) of.number (of.is_record.words 0)) unnamed of)
    ]
  ]
]

pub in_each : (P : Direction → Type 0) → P Less → P More → P Any → (d : Direction) → P d
in_each P l m a Any = a
in_each P l m a More = m
in_each P l m a Less = l

-- calls of a list, one by one
pub all_answered_stay : (p q : Policy) (old new : Differences) (list : List Call) → Extends old new
    → All (λ c. (d : Direction) → IsAnswered p q old c.token c.nr d) list → All (λ c. (d : Direction) → IsAnswered p q new c.token c.nr d) list
all_answered_stay p q old new list x h = λ k c lt d. answered_stays p q old new _ _ d x (h k c lt d)

pub all_covered_stay : (p q : Policy) (old new : Differences) (list : List Call) → Extends old new
    → All (λ c. (d : Direction) → IsCovered p q old c.token c.nr d) list → All (λ c. (d : Direction) → IsCovered p q new c.token c.nr d) list
all_covered_stay p q old new list x h = λ k c lt d. covered_stays p q old new _ _ d x (h k c lt d)

pub none_told : (p q : Policy) (e : Direction) (d : Differences) → d.found.items ≡ [] → d.crowded.items ≡ [] → AreTold p q e d
none_told p q e d a b = record {
  found = All-same (λ f. IsFound p q f.call.arch f.call.nr e f) _ _ a (All-nil (λ f. IsFound p q f.call.arch f.call.nr e f));
  crowded = All-same (λ c. AreCrowded p q c.token c.nr) _ _ b (All-nil (λ c. AreCrowded p q c.token c.nr));
}

-- calls of a list in one direction, one by one
pub all_answered_stay_in : (p q : Policy) (d : Direction) (old new : Differences) (list : List Call) → Extends old new
    → All (λ c. IsAnswered p q old c.token c.nr d) list → All (λ c. IsAnswered p q new c.token c.nr d) list
all_answered_stay_in p q d old new list x h = λ k c lt. answered_stays p q old new _ _ d x (h k c lt)

pub all_covered_stay_in : (p q : Policy) (d : Direction) (old new : Differences) (list : List Call) → Extends old new
    → All (λ c. IsCovered p q old c.token c.nr d) list → All (λ c. IsCovered p q new c.token c.nr d) list
all_covered_stay_in p q d old new list x h = λ k c lt. covered_stays p q old new _ _ d x (h k c lt)
