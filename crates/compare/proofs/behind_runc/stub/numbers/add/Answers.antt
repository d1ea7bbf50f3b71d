use Rattle.std.proofs.Common.{◌≡◌, ◌⊎◌, ◌↔◌, ℕ, List, [], ◌∷◌, ◌++◌, inl, inr}
use Rattle.machines.specs.declared.numbers.Numbers.{Numbers}
use Rattle.machines.specs.Numbers.{IsWithin}
use Rattle.compare.specs.inner.Parts.{IsAmong}
use Rattle.compare.proofs.AnyLaws.{any_one, one_any}
use Rattle.rule_compile.proofs.RulesLaws.{any_either, any_left, any_right}
use Rattle.compare.proofs.behind_runc.stub.numbers.add.Goals as goal

-- the last numbers are joined with others
joined_to : (n : ℕ) (front : List Numbers) (before more both : Numbers)
    → (IsWithin n both ↔ (IsWithin n before ⊎ IsWithin n more))
    → (IsAmong n (front ++ both ∷ []) ↔ (IsAmong n (front ++ before ∷ []) ⊎ IsWithin n more))
joined_to n front before more both is =
    let P : Numbers → Type 0 = IsWithin n in (
      λ h. elim (any_either P front (both ∷ []) h) [
        | inl early ↦ inl (any_left P front (before ∷ []) early)
        | inr late ↦ elim (is.0 (any_one P both late)) [
          | inl old ↦ inl (any_right P front (before ∷ []) (one_any P before old))
          | inr new ↦ inr new
        ]
      ],
      λ h. elim h [
        | inl old ↦ elim (any_either P front (before ∷ []) old) [
          | inl early ↦ any_left P front (both ∷ []) early
          | inr late ↦ any_right P front (both ∷ []) (one_any P both (is.1 (inl (any_one P before late))))
        ]
        | inr new ↦ any_right P front (both ∷ []) (one_any P both (is.1 (inr new)))
      ],
    )

-- others stand behind the last numbers
behind : (n : ℕ) (all : List Numbers) (more : Numbers) → (IsAmong n (all ++ more ∷ []) ↔ (IsAmong n all ⊎ IsWithin n more))
behind n all more =
    let P : Numbers → Type 0 = IsWithin n in (
      λ h. elim (any_either P all (more ∷ []) h) [ inl early ↦ inl early | inr late ↦ inr (any_one P more late) ],
      λ h. elim h [ inl old ↦ any_left P all (more ∷ []) old | inr new ↦ any_right P all (more ∷ []) (one_any P more new) ],
    )

pub returns-in_ok-push-in-Some-joined : goal.returns-in_ok-push-in-Some-joined
returns-in_ok-push-in-Some-joined c n =
    let now : c.push-in-Some-joined.new.self.items ≡ c.pop.new.self.items ++ c.in-Some-joined.both ∷ [] = c.in_ok-push-in-Some-joined.ensures.items in
    let before : c.args.numbers.now.items ≡ c.pop.new.self.items ++ c.in-Some.before ∷ [] = c.in-Some.ensures.items in
    rw (now, before)
    (joined_to n c.pop.new.self.items c.in-Some.before c.args.more c.in-Some-joined.both (c.in-Some-joined.ensures n))

pub returns-in_ok-push-in-None-joined-2 : goal.returns-in_ok-push-in-None-joined-2
returns-in_ok-push-in-None-joined-2 c n =
    let now : c.push-in-None-joined-2.new.self.items ≡ c.push-in-None-joined.new.self.items ++ c.args.more ∷ [] =
    c.in_ok-push-in-None-joined-2.ensures.items in
    let again : c.push-in-None-joined.new.self.items ≡ c.pop.new.self.items ++ c.in-Some.before ∷ [] = c.in_ok-push-in-None-joined.ensures.items in
    let before : c.args.numbers.now.items ≡ c.pop.new.self.items ++ c.in-Some.before ∷ [] = c.in-Some.ensures.items in
    rw (now, again, before) (behind n (c.pop.new.self.items ++ c.in-Some.before ∷ []) c.args.more)
